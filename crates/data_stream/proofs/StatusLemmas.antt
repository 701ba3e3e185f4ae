-- A status has a good reason.
use Rattle.std.proofs.Common.{◌≡◌, ◌≢◌, ◌∙◌, ◌⊎◌, ◌≤◌, ◌<◌, ◌+◌, ◌-◌, ◌^◌, min, inl, inr, ⊎_elim, ℕ, zero, suc, List, length, arith, refl, subst, sym}
use Rattle.std.specs.Prelude.{Option, Some, Err, IfErr, IfOk}
use Rattle.hk_base.specs.Faults.{Rose}
use Rattle.frame_log.specs.declared.fault.StartFault.{StartFault}
use Rattle.frame_log.specs.declared.fault.StartFault.TheVariants as start
use Rattle.clap.specs.Words.{Text}
use Rattle.prop_text.specs.declared.faults.PropFault.{PropFault}
use Rattle.prop_text.specs.declared.faults.PropFault.TheVariants as prop
use Rattle.command_io.specs.Ends.{Reports, ended_by, ended_by_props, status_of as replay_status}
use Rattle.command_io.specs.Properties.{HasPropsFault}
use Rattle.command_io.specs.declared.ends.ReplayEnd.{ReplayEnd}
use Rattle.command_io.specs.declared.props.PropsFault.{PropsFault}
use Rattle.command_io.specs.declared.props.PropsFault.TheVariants.{ReadFault, TextFault}
use Rattle.world_run.specs.Starts.{FailsAt, OpensBoth}
use Rattle.body_stream.specs.Transfers.{longest_body}
use Rattle.body_stream.specs.Vaults.{TellsBodies, VaultState}
use Rattle.clap_lines.specs.Orders.{IsMistake}
use Rattle.fs_command_line.specs.Orders.{IsOrderOf, Names, line_fault}
use Rattle.fs_command_line.specs.declared.order.FsOrder.TheVariants.{Put}
use Rattle.clap_lines.specs.declared.told.OrderFault.TheVariants.{Usage}
use Rattle.file_orders.specs.Bodies.{HadBody}
use Rattle.file_orders.specs.declared.ends.FsEnd.{FsEnd}
use Rattle.file_orders.specs.declared.ends.FsEnd.TheVariants as end
use Rattle.data_stream.specs.Commands.{CannotOpen, PutOnDisk, PutUnder, PutsFile, ReadOnDisk, ReadUnder, ReadsFile, RefusesProperties}
use Rattle.data_stream.specs.Ends.{ClosesWith, status_of}
use Rattle.data_stream.specs.Statuses.{BadProperties, BadWords, Damaged, Done, HasReason, IsGood, IsRefusal, NamesPut, NoMemory, OrdersPut, ReadFailed, Refused, Spent, StoreFailed, Surroundings, TooLong, VaultFailed, WasRefused, WriteFailed}
use Rattle.data_stream.proofs.LastLemmas.{put_end, put_store, read_end, read_store}
use Rattle.data_stream.proofs.OrderLemmas.{OrderRead}

-- what rose within a run rose over it
pub rose_within : (a b c d : ℕ) → a ≤ b → c ≤ d → Rose b c → Rose a d
rose_within a b c d le more rose = raised (a + 1) (b + 1) (2 ^ 64 - 1) c d (omega (arith, le)) more rose
  where
    raised : (m n most p q : ℕ) → m ≤ n → p ≤ q → min n most ≤ p → min m most ≤ q
    raised m n most p q le more h = grind arith

-- ---- the status of an end, of a lack of memory, or of the output

abbrev pub Either : ℕ → ℕ → Type 0
Either own status = (status ≡ own) ⊎ ((status ≡ 6) ⊎ (status ≡ 8))

pub reports_either : (stop : ReplayEnd) (written now : Option (List ℕ)) (status : ℕ) → Reports stop written now status → Either (replay_status stop) status
reports_either stop written now status r =
    ⊎_elim
    (λ wrote. ⊎_elim
    (λ same. inl (r.status_is ∙ (λ i. replay_status (wrote.0 i)) ∙ (λ i. replay_status (same i))))
    (λ none. inr (inl (r.status_is ∙ (λ i. replay_status (wrote.0 i)) ∙ (λ i. replay_status (none i)))))
    r.closes.last_is)
    (λ cut. inr (inr (r.status_is ∙ (λ i. replay_status (cut.0 i)))))
    r.closes.writes

pub closes_either : (how : FsEnd) (written now : Option (List ℕ)) (status : ℕ) → ClosesWith how written now status → Either (status_of how) status
closes_either how written now status c =
    ⊎_elim
    (λ shown. ⊎_elim
    (λ same. inl (shown.0 ∙ (λ i. status_of (same i))))
    (λ none. inr (inl (shown.0 ∙ (λ i. status_of (none i)))))
    c.last_is)
    (λ cut. inr (inr cut.0))
    c.shows

module _ (s : Surroundings) (status : ℕ) (output : status ≡ 8 → s.output_failed) where
  by_either : (own : ℕ) → Either own status → (status ≡ own → HasReason s status) → HasReason s status
  by_either own (inl is) reason = reason is
  by_either own (inr (inl is)) reason = (NoMemory, is, tt)
  by_either own (inr (inr is)) reason = (WriteFailed, is, output is)

  -- ---- before the events

  props_good : (fault : PropsFault) → HasPropsFault s.acls fault → (status ≡ 7 → s.properties_failed) → status ≡ replay_status (ended_by_props fault) → HasReason s status
  props_good ReadFault has failed is = (ReadFailed, is, inl (failed is))
  props_good (TextFault (prop.BadLine number)) has failed is = (BadProperties, is, (prop.BadLine number, λ h. cc, has))
  props_good (TextFault (prop.Repeated number)) has failed is = (BadProperties, is, (prop.Repeated number, λ h. cc, has))
  props_good (TextFault (prop.UnknownName number)) has failed is = (BadProperties, is, (prop.UnknownName number, λ h. cc, has))
  props_good (TextFault prop.TooLong) has failed is = (BadProperties, is, (prop.TooLong, λ h. cc, has))
  props_good (TextFault prop.NoMemory) has failed is = (NoMemory, is, tt)

  text_reads : (fault : PropFault) → replay_status (ended_by_props (TextFault fault)) ≢ 7
  text_reads (prop.BadLine number) h = absurd cc
  text_reads (prop.Repeated number) h = absurd cc
  text_reads (prop.UnknownName number) h = absurd cc
  text_reads prop.TooLong h = absurd cc
  text_reads prop.NoMemory h = absurd cc

  props_reason : (same : Type 0) (written now : Option (List ℕ)) → RefusesProperties same s.acls written now status → (status ≡ 7 → s.properties_failed) → HasReason s status
  props_reason same written now bad failed =
      by_either (replay_status (ended_by_props bad.fault)) (reports_either (ended_by_props bad.fault) written now status bad.reports) (props_good bad.fault bad.has_fault failed)

  start_good : (file : ℕ) (fault : StartFault) → OpensBoth s.disk s.disk' (FailsAt file fault) → status ≡ replay_status (ended_by file fault) → HasReason s status
  start_good zero (start.Damaged at) opens is = (Damaged, is, (zero, at, opens))
  start_good (suc file) (start.Damaged at) opens is = (Damaged, is, (suc file, at, opens))
  start_good file start.StoreFault opens is =
      (StoreFailed, is, ⊎_elim (λ first. opens.keys.cause (first, refl)) (λ second. opens.names.cause (second, refl)) (opens.file file start.StoreFault (refl, refl)))
  start_good file start.NoMemory opens is = (NoMemory, is, tt)
  start_good file start.Spent opens is = (Spent, is, (file, opens))

  start_reason : (same : Type 0) (written now : Option (List ℕ)) → CannotOpen same s.disk s.disk' written now status → HasReason s status
  start_reason same written now bad =
      by_either (replay_status (ended_by bad.file bad.fault)) (reports_either (ended_by bad.file bad.fault) written now status bad.reports) (start_good bad.file bad.fault bad.not_opened)

  -- ---- the events and the body

  end_good : (how : FsEnd) → (IsRefusal how → WasRefused s.disk s.disk' s.acls s.acls' s.words s.words') → (how ≡ end.StoreFault → Rose s.disk.faults s.disk'.faults) → (status ≡ 7 → IsGood s ReadFailed)
      → (status ≡ 12 → IsGood s VaultFailed) → (status ≡ 13 → IsGood s TooLong) → status ≡ status_of how → HasReason s status
  end_good (end.Put count) refused store read vault long is = (Done, is, tt)
  end_good (end.Read count) refused store read vault long is = (Done, is, tt)
  end_good (end.NameRefused why) refused store read vault long is = (Refused, is, refused tt)
  end_good (end.KeyRefused why) refused store read vault long is = (Refused, is, refused tt)
  end_good end.Directory refused store read vault long is = (Refused, is, refused tt)
  end_good end.StoreFault refused store read vault long is = (StoreFailed, is, store refl)
  end_good end.NoMemory refused store read vault long is = (NoMemory, is, tt)
  end_good end.ReadFault refused store read vault long is = (ReadFailed, is, read is)
  end_good end.WriteFault refused store read vault long is = (WriteFailed, is, output is)
  end_good end.VaultFault refused store read vault long is = (VaultFailed, is, vault is)
  end_good end.TooLong refused store read vault long is = (TooLong, is, long is)

  -- ---- both commands

  pub put_reason : (same_disk same : Type 0) (user path : List ℕ) (left' : Option (List ℕ)) (vault' : VaultState) (written now : Option (List ℕ)) → PutsFile same_disk same user path s.disk s.disk' s.acls s.acls' s.words s.words' s.input left' s.vault vault' written now status → s.puts
      → (status ≡ 7 → s.input_failed ⊎ s.properties_failed) → (status ≡ 12 → s.vault_failed ⊎ (TellsBodies s.vault → HadBody s.vault)) → (status ≡ 13 → (all : List ℕ) → s.input ≡ Some all → longest_body < length all)
      → HasReason s status
  put_reason same_disk same user path left' vault' written now did puts read vault long = go did
    where
      read_good : status ≡ 7 → IsGood s ReadFailed
      read_good is = ⊎_elim (λ input. inr (puts, input)) (λ properties. inl properties) (read is)

      go : PutsFile same_disk same user path s.disk s.disk' s.acls s.acls' s.words s.words' s.input left' s.vault vault' written now status → HasReason s status
      go (inl bad) = by_either _ (reports_either (ended_by_props bad.fault) written now status bad.reports) (refused bad.fault bad.has_fault)
        where
          refused : (fault : PropsFault) → HasPropsFault s.acls fault → status ≡ replay_status (ended_by_props fault) → HasReason s status
          refused ReadFault has is = (ReadFailed, is, read_good is)
          refused (TextFault fault) has is = props_good (TextFault fault) has (λ seven. absurd (text_reads fault (sym is ∙ seven))) is
      go (inr with) = under with.put
        where
          on : PutOnDisk with.props user path s.disk s.disk' s.words s.words' s.input left' s.vault vault' written now status → HasReason s status
          on put =
              by_either (status_of put.how) (closes_either put.how written now status put.closes)
              (end_good put.how
              (λ is. let e = put_end put.moment user path put.how put.worked.history s.input left' s.vault vault' put.puts is in
              record { props = with.props; read = with.read; worked = put.worked; last = e.last; earlier = e.earlier; history_is = e.history_is; refused = subst IsRefusal (sym e.tells) is })
              (λ is. rose_within s.disk.faults put.worked.before _ s.disk'.faults put.worked.began put.worked.ended
              (put_store with.props.lines _ _ s.words put.worked.before put.moment user path put.how put.worked.history s.input left' s.vault vault' put.worked.runs put.puts is))
              read_good
              (λ is. ⊎_elim (λ rose. inl rose) (λ had. inr (puts, had)) (vault is))
              (λ is. (puts, long is)))

          under : PutUnder with.props same user path s.disk s.disk' s.words s.words' s.input left' s.vault vault' written now status → HasReason s status
          under (inl bad) = start_reason same written now bad
          under (inr put) = on put

  pub read_reason : (same_disk same : Type 0) (user path : List ℕ) (from count : ℕ) (vault' : VaultState) (written now : Option (List ℕ)) → ReadsFile same_disk same user path from count s.disk s.disk' s.acls s.acls' s.words s.words' s.vault vault' written now status
      → (status ≡ 7 → s.properties_failed) → (status ≡ 12 → s.vault_failed) → status ≢ 13 → HasReason s status
  read_reason same_disk same user path from count vault' written now did read vault long = go did
    where
      go : ReadsFile same_disk same user path from count s.disk s.disk' s.acls s.acls' s.words s.words' s.vault vault' written now status → HasReason s status
      go (inl bad) = props_reason (same_disk × same) written now bad read
      go (inr with) = under with.range
        where
          on : ReadOnDisk with.props user path from count s.disk s.disk' s.words s.words' s.vault vault' written now status → HasReason s status
          on range =
              by_either (status_of range.how) (closes_either range.how range.body now status range.closes)
              (end_good range.how
              (λ is. let e = read_end range.moment user path from count range.how range.worked.history s.vault vault' written range.body range.reads is in
              record { props = with.props; read = with.read; worked = range.worked; last = e.last; earlier = e.earlier; history_is = e.history_is; refused = subst IsRefusal (sym e.tells) is })
              (λ is. rose_within s.disk.faults range.worked.before _ s.disk'.faults range.worked.began range.worked.ended
              (read_store with.props.lines _ _ s.words range.worked.before range.moment user path from count range.how range.worked.history s.vault vault' written range.body range.worked.runs range.reads is))
              (λ is. inl (read is))
              (λ is. inl (vault is))
              (λ is. absurd (long is)))

          under : ReadUnder with.props same user path from count s.disk s.disk' s.words s.words' s.vault vault' written now status → HasReason s status
          under (inl bad) = start_reason same written now bad
          under (inr range) = on range

-- ---- the words

-- the same reasons, as the words say what the order says
pub as_words : (s : Surroundings) (mistake puts : Type 0) (status : ℕ) → (s.mistake → mistake) → (s.puts → puts) → HasReason s status → HasReason (record s { mistake = mistake; puts = puts }) status
as_words s mistake puts status m p (Done, is, good) = (Done, is, tt)
as_words s mistake puts status m p (BadWords, is, good) = (BadWords, is, m good)
as_words s mistake puts status m p (BadProperties, is, good) = (BadProperties, is, good)
as_words s mistake puts status m p (Damaged, is, good) = (Damaged, is, good)
as_words s mistake puts status m p (StoreFailed, is, good) = (StoreFailed, is, good)
as_words s mistake puts status m p (NoMemory, is, good) = (NoMemory, is, tt)
as_words s mistake puts status m p (ReadFailed, is, inl good) = (ReadFailed, is, inl good)
as_words s mistake puts status m p (ReadFailed, is, inr good) = (ReadFailed, is, inr (p good.0, good.1))
as_words s mistake puts status m p (WriteFailed, is, good) = (WriteFailed, is, good)
as_words s mistake puts status m p (Spent, is, good) = (Spent, is, good)
as_words s mistake puts status m p (Refused, is, good) = (Refused, is, good)
as_words s mistake puts status m p (VaultFailed, is, inl good) = (VaultFailed, is, inl good)
as_words s mistake puts status m p (VaultFailed, is, inr good) = (VaultFailed, is, inr (p good.0, good.1))
as_words s mistake puts status m p (TooLong, is, good) = (TooLong, is, (p good.0, good.1))

pub mistaken : (order : OrderRead) (words : List Text) → IfErr order (λ fault. fault ≡ Usage → IsMistake (line_fault words)) → order ≡ Err Usage → IsMistake (line_fault words)
mistaken order words usage is = subst (λ (o : OrderRead). IfErr o (λ fault. fault ≡ Usage → IsMistake (line_fault words))) is usage refl

put_named : (user path : List ℕ) (words : List Text) → IsOrderOf (Put user path) words → Names (Put user path) words
put_named user path words (inl named) = record { no_fault = named.0; command = named.1 }
put_named user path words (inr (inl help)) = absurd help.0
put_named user path words (inr (inr version)) = absurd version.0

pub names_put : (order : OrderRead) (words : List Text) → IfOk order (λ o. IsOrderOf o words) → OrdersPut order → NamesPut words
names_put order words answers (user, path, is) = (user, path, put_named user path words (subst (λ (o : OrderRead). IfOk o (λ x. IsOrderOf x words)) is answers))
