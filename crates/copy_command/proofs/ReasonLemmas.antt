-- A copy, and a read of one, ends with its exit status for a good reason.
use Rattle.std.proofs.Common.{◌≡◌, ◌⊎◌, inl, inr, ⊎_elim, ℕ, zero, suc, List, ap, refl, subst, sym}
use Rattle.std.specs.Prelude.{Option, Result, Ok, Err, IsErrOf}
use Rattle.hk_base.specs.Disk.{DiskState}
use Rattle.frame_log.specs.declared.fault.StartFault.{StartFault}
use Rattle.frame_log.specs.declared.fault.StartFault.TheVariants as start
use Rattle.prop_text.specs.declared.faults.PropFault.TheVariants as prop
use Rattle.prop_text.specs.declared.props.Props.{Props}
use Rattle.command_io.specs.Ends.{Reports, ended_by, ended_by_props, status_of as replay_status}
use Rattle.command_io.specs.Properties.{HasPropsFault, ReadsProperties}
use Rattle.command_io.specs.declared.props.PropsFault.{PropsFault}
use Rattle.command_io.specs.declared.props.PropsFault.TheVariants.{ReadFault, TextFault}
use Rattle.world_run.specs.Starts.{FailsAt, OpensBoth}
use Rattle.name_store.specs.Store.{OpensNames}
use Rattle.file_orders.specs.declared.ends.FsEnd.{FsEnd}
use Rattle.file_orders.specs.declared.ends.FsEnd.TheVariants as end
use Rattle.row_copies.specs.declared.walk.Copied.{Copied}
use Rattle.raw_copy.specs.declared.backup.CopyFault.{CopyFault}
use Rattle.raw_copy.specs.declared.backup.CopyFault.TheVariants.{End, Start}
use Rattle.raw_copy.specs.Copies.{CopiesOver, not_started}
use Rattle.copy_ends.specs.Ends.{ShowsLine, copied_line, start_line, start_status}
use Rattle.copy_reads.specs.Commands.{CopyUnder, ReadsCopyFile, RestAfter, copies_status}
use Rattle.copy_reads.proofs.FaultLemmas.{copies_either}
use Rattle.copy_runs.specs.Commands.{ClosesCopy, CopiesByFile, CopiesOnDisks, CopiesUnder, table_in}
use Rattle.data_stream.specs.Ends.{status_of}
use Rattle.data_stream.specs.Runs.{Worked, last_world, world_before}
use Rattle.data_stream.specs.Statuses.{BadProperties, Damaged, Done, IsRefusal, NoMemory, ReadFailed, Refused, Spent, StoreFailed, VaultFailed, WriteFailed}
use Rattle.data_stream.proofs.StatusLemmas.{Either, closes_either, reports_either}
use Rattle.clap_lines.specs.declared.told.OrderFault.{OrderFault}
use Rattle.clap_lines.specs.declared.told.OrderFault.TheVariants as fault
use Rattle.copy_command_line.specs.declared.order.CopyOrder.{CopyOrder}
use Rattle.copy_command_line.specs.declared.order.CopyOrder.TheVariants.{Copy, Read}
use Rattle.copy_command.specs.Reasons.{Around, EndsRefused, HasReasonFor, OfCopy, OfRead, ReadRefused}

shows_either : (line : List ℕ) (own : ℕ) (written now : Option (List ℕ)) (status : ℕ) → ShowsLine line own written now status → Either own status
shows_either line own written now status (inl (inl shown)) = inl shown.0
shows_either line own written now status (inl (inr cut)) = inr (inr cut.0)
shows_either line own written now status (inr (inl shown)) = inr (inl shown.0)
shows_either line own written now status (inr (inr cut)) = inr (inr cut.0)

module _ {E : Type 0} (s : Around E) (refused : Type 0) (status : ℕ) (disk : status ≡ 5 → s.disk_failed) (properties : status ≡ 7 → s.properties_failed) (output : status ≡ 8 → s.output_failed) (vault : status ≡ 12 → s.vault_failed) (long : status ≡ 13 → ⊥) where
  abbrev Good : Type 0
  Good = HasReasonFor s refused status

  by_either : (own : ℕ) → Either own status → (status ≡ own → Good) → Good
  by_either own (inl is) reason = reason is
  by_either own (inr (inl is)) reason = (NoMemory, is, tt)
  by_either own (inr (inr is)) reason = (WriteFailed, is, output is)

  props_good : (fault : PropsFault) → HasPropsFault s.acls fault → status ≡ replay_status (ended_by_props fault) → Good
  props_good ReadFault has is = (ReadFailed, is, properties is)
  props_good (TextFault (prop.BadLine number)) has is = (BadProperties, is, (prop.BadLine number, λ h. cc, has))
  props_good (TextFault (prop.Repeated number)) has is = (BadProperties, is, (prop.Repeated number, λ h. cc, has))
  props_good (TextFault (prop.UnknownName number)) has is = (BadProperties, is, (prop.UnknownName number, λ h. cc, has))
  props_good (TextFault prop.TooLong) has is = (BadProperties, is, (prop.TooLong, λ h. cc, has))
  props_good (TextFault prop.NoMemory) has is = (NoMemory, is, tt)

  start_good : (file : ℕ) (fault : StartFault) → OpensBoth s.disk s.disk' (FailsAt file fault) → status ≡ replay_status (ended_by file fault) → Good
  start_good zero (start.Damaged at) opens is = (Damaged, is, inl (zero, at, opens))
  start_good (suc file) (start.Damaged at) opens is = (Damaged, is, inl (suc file, at, opens))
  start_good file start.StoreFault opens is = (StoreFailed, is, disk is)
  start_good file start.NoMemory opens is = (NoMemory, is, tt)
  start_good file start.Spent opens is = (Spent, is, inl (file, opens))

  backup_good : (fault : StartFault) → OpensNames (s.backup_of s.backup) (s.backup_of s.backup') (IsErrOf (not_started fault)) → status ≡ start_status fault → Good
  backup_good (start.Damaged at) opens is = (Damaged, is, inr (at, opens))
  backup_good start.StoreFault opens is = (StoreFailed, is, disk is)
  backup_good start.NoMemory opens is = (NoMemory, is, tt)
  backup_good start.Spent opens is = (Spent, is, inr opens)

  copies_good : (fault : StartFault) → OpensNames (s.backup_of s.backup) (s.backup_of s.backup') (IsErrOf (not_started fault)) → status ≡ copies_status fault → Good
  copies_good (start.Damaged at) opens is = (Damaged, is, inr (at, opens))
  copies_good start.StoreFault opens is = (StoreFailed, is, disk is)
  copies_good start.NoMemory opens is = (NoMemory, is, tt)
  copies_good start.Spent opens is = (Spent, is, inr opens)

  end_good : (how : FsEnd) → (IsRefusal how → refused) → status ≡ status_of how → Good
  end_good (end.Put count) refuses is = (Done, is, tt)
  end_good (end.Read count) refuses is = (Done, is, tt)
  end_good (end.NameRefused why) refuses is = (Refused, is, refuses tt)
  end_good (end.KeyRefused why) refuses is = (Refused, is, refuses tt)
  end_good end.Directory refuses is = (Refused, is, refuses tt)
  end_good end.StoreFault refuses is = (StoreFailed, is, disk is)
  end_good end.NoMemory refuses is = (NoMemory, is, tt)
  end_good end.ReadFault refuses is = (ReadFailed, is, properties is)
  end_good end.WriteFault refuses is = (WriteFailed, is, output is)
  end_good end.VaultFault refuses is = (VaultFailed, is, vault is)
  end_good end.TooLong refuses is = absurd (long is)

  -- the properties were refused, or could not be read
  props_ended : (fault : PropsFault) (written now : Option (List ℕ)) → HasPropsFault s.acls fault → Reports (ended_by_props fault) written now status → Good
  props_ended fault written now has reports = by_either (replay_status (ended_by_props fault)) (reports_either (ended_by_props fault) written now status reports) (props_good fault has)

  -- a log of the first cluster could not be opened
  start_ended : (file : ℕ) (fault : StartFault) (written now : Option (List ℕ)) → OpensBoth s.disk s.disk' (FailsAt file fault) → Reports (ended_by file fault) written now status → Good
  start_ended file fault written now opens reports = by_either (replay_status (ended_by file fault)) (reports_either (ended_by file fault) written now status reports) (start_good file fault opens)

-- ---- a zone is copied

abbrev Ended : Type 0
Ended = Result Copied CopyFault

same_start : (ended : Ended) (a b : StartFault) → ended ≡ Err (Start a) → ended ≡ Err (Start b) → a ≡ b
same_start ended a b e f = cc (e, f)

module _ {E : Type 0} (s : Around E) (from to : List ℕ) (written now : Option (List ℕ)) (status : ℕ) (disk : status ≡ 5 → s.disk_failed) (properties : status ≡ 7 → s.properties_failed) (output : status ≡ 8 → s.output_failed) (vault : status ≡ 12 → s.vault_failed)
    (long : status ≡ 13 → ⊥) where
  abbrev OfCopied : Type 0
  OfCopied = EndsRefused s from to written now status

  abbrev GoodCopy : Type 0
  GoodCopy = HasReasonFor s OfCopied status

  either : (own : ℕ) → Either own status → (status ≡ own → GoodCopy) → GoodCopy
  either = by_either s OfCopied status disk properties output vault long

  module _ (props : Props) (read : ReadsProperties s.acls s.acls' props)
      (c : CopiesOnDisks s.backup_of props from to s.disk s.disk' s.backup s.backup' s.words s.words' s.vault s.vault' s.copies s.copies' written now status) where
    -- a log that the copy could not open is that of the second cluster
    not_opened : (fault : StartFault) → c.ended ≡ Err (Start fault)
        → CopiesOver props.sizes.batch from to c.ended (table_in (world_before c.worked)) (table_in (last_world c.worked)) s.vault s.vault' s.copies s.copies' (s.backup_of s.backup) (s.backup_of s.backup') → OpensNames (s.backup_of s.backup) (s.backup_of s.backup') (IsErrOf (not_started fault))
    not_opened fault is (inl bad) = subst (λ (f : StartFault). OpensNames (s.backup_of s.backup) (s.backup_of s.backup') (IsErrOf (not_started f))) (same_start c.ended bad.fault fault bad.result_is is) bad.opens
    not_opened fault is (inr opened) = absurd (opened.begun fault is)

    copied_end : (how : FsEnd) → c.ended ≡ Err (End how) → status ≡ status_of how → GoodCopy
    copied_end how ended = end_good s OfCopied status disk properties output vault long how (λ refusal. record { props = props; read = read; copy = c; why = how; ended_is = ended; refusal = refusal })

    on : (ended : Ended) → c.ended ≡ ended → ClosesCopy ended written now status → GoodCopy
    on (Ok counts) is closes = either 0 (shows_either (copied_line counts) 0 written now status closes) (λ zero. (Done, zero, tt))
    on (Err (Start fault)) is closes =
        either (start_status fault) (shows_either (start_line fault) (start_status fault) written now status closes)
        (backup_good s OfCopied status disk properties output vault long fault (not_opened fault is c.copied))
    on (Err (End how)) is closes = either (status_of how) (closes_either how written now status closes) (copied_end how is)

  under : (props : Props) (same : Type 0) → ReadsProperties s.acls s.acls' props
      → CopiesUnder s.backup_of props same from to s.disk s.disk' s.backup s.backup' s.words s.words' s.vault s.vault' s.copies s.copies' written now status → GoodCopy
  under props same read (inl bad) = start_ended s OfCopied status disk properties output vault long bad.file bad.fault written now bad.not_opened bad.reports
  under props same read (inr c) = on props read c c.ended refl c.closes

  -- the exit status of a copy that did this has a good reason
  pub copies_end : (same_disk same : Type 0) → CopiesByFile s.backup_of same_disk same from to s.disk s.disk' s.backup s.backup' s.acls s.acls' s.words s.words' s.vault s.vault' s.copies s.copies' written now status → GoodCopy
  copies_end same_disk same (inl bad) = props_ended s OfCopied status disk properties output vault long bad.fault written now bad.has_fault bad.reports
  copies_end same_disk same (inr with) = under with.props same with.read with.copy

-- ---- a range of a copy is read

-- a log that could not be opened by this fault is one that was not opened, with it as the error
not_started_by : (old new : DiskState) (why : StartFault) → OpensNames old new (λ other. why ≡ other) → OpensNames old new (IsErrOf (not_started why))
not_started_by old new why o = record {
  why = record {
    damaged = λ at same. o.why.damaged at (so (start.Damaged at) same);
    spent = λ same. o.why.spent (so start.Spent same);
    cause = λ same. o.why.cause (so start.StoreFault same);
  };
  any_moment = o.any_moment;
  since_sync = λ tells. ⊎_elim (λ failed. inl (ap not_started failed.0, failed.1)) (λ rest. inr rest) (o.since_sync tells);
  run = o.run;
}
  where
    so : (other : StartFault) → not_started why ≡ not_started other → why ≡ other
    so other same = cc

module _ {E : Type 0} (s : Around E) (user path : List ℕ) (from count : ℕ) (written now : Option (List ℕ)) (status : ℕ) (disk : status ≡ 5 → s.disk_failed) (properties : status ≡ 7 → s.properties_failed) (output : status ≡ 8 → s.output_failed)
    (vault : status ≡ 12 → s.vault_failed) (long : status ≡ 13 → ⊥) where
  abbrev OfRange : Type 0
  OfRange = ReadRefused s user path from count written now status

  abbrev GoodRead : Type 0
  GoodRead = HasReasonFor s OfRange status

  either_read : (own : ℕ) → Either own status → (status ≡ own → GoodRead) → GoodRead
  either_read = by_either s OfRange status disk properties output vault long

  rest_end : (props : Props) (same : Type 0) → ReadsProperties s.acls s.acls' props → (worked : Worked props s.disk s.disk' s.words s.words')
      → RestAfter worked same user path from count (s.backup_of s.backup) (s.backup_of s.backup') s.copies s.copies' written now status → GoodRead
  rest_end props same read worked (inl bad) =
      either_read (copies_status bad.fault) (copies_either bad.fault written now status bad.reports)
      (copies_good s OfRange status disk properties output vault long bad.fault (not_started_by (s.backup_of s.backup) (s.backup_of s.backup') bad.fault bad.not_opened))
  rest_end props same read worked (inr (r, wrote)) =
      either_read (status_of r.how) (closes_either r.how r.body now status r.closes)
      (end_good s OfRange status disk properties output vault long r.how (λ refusal. record { props = props; read = read; worked = worked; range = r; refusal = refusal }))

  under_read : (props : Props) (same_backup same : Type 0) → ReadsProperties s.acls s.acls' props → CopyUnder props same_backup same user path from count s.disk s.disk' (s.backup_of s.backup) (s.backup_of s.backup') s.words s.words' s.copies s.copies' written now status → GoodRead
  under_read props same_backup same read (inl bad) = start_ended s OfRange status disk properties output vault long bad.file bad.fault written now bad.not_opened bad.reports
  under_read props same_backup same read (inr o) = rest_end props same read o.worked o.rest

  -- the exit status of a read that did this has a good reason
  pub reads_end : (same_disk same_backup same : Type 0)
      → ReadsCopyFile same_disk same_backup same user path from count s.disk s.disk' (s.backup_of s.backup) (s.backup_of s.backup') s.acls s.acls' s.words s.words' s.copies s.copies' written now status → GoodRead
  reads_end same_disk same_backup same (inl bad) = props_ended s OfRange status disk properties output vault long bad.fault written now bad.has_fault bad.reports
  reads_end same_disk same_backup same (inr with) = under_read with.props same_backup same with.read with.range

-- ---- the order

pub copy_is : (Holds : List ℕ → List ℕ → Type 0) (order : Result CopyOrder OrderFault) (source target : List ℕ) → order ≡ Ok (Copy source target) → Holds source target → OfCopy order Holds
copy_is Holds order source target is holds = subst (λ (o : Result CopyOrder OrderFault). OfCopy o Holds) (sym is) holds

-- what holds of a copy holds of an order that is this copy, or there is no memory to read the words
pub copy_so : (Holds : List ℕ → List ℕ → Type 0) (Lacks : Type 0) (order : Result CopyOrder OrderFault) (source target : List ℕ) → (order ≡ Ok (Copy source target)) ⊎ (order ≡ Err fault.NoMemory) → OfCopy order Holds → (order ≡ Err fault.NoMemory → Lacks)
    → Holds source target ⊎ Lacks
copy_so Holds Lacks order source target (inl is) holds lacks = inl (subst (λ (o : Result CopyOrder OrderFault). OfCopy o Holds) is holds)
copy_so Holds Lacks order source target (inr none) holds lacks = inr (lacks none)

pub read_is : (Holds : List ℕ → List ℕ → ℕ → ℕ → Type 0) (order : Result CopyOrder OrderFault) (user path : List ℕ) (from count : ℕ) → order ≡ Ok (Read user path from count) → Holds user path from count → OfRead order Holds
read_is Holds order user path from count is holds = subst (λ (o : Result CopyOrder OrderFault). OfRead o Holds) (sym is) holds

-- the same of a read
pub read_so : (Holds : List ℕ → List ℕ → ℕ → ℕ → Type 0) (Lacks : Type 0) (order : Result CopyOrder OrderFault) (user path : List ℕ) (from count : ℕ) → (order ≡ Ok (Read user path from count)) ⊎ (order ≡ Err fault.NoMemory) → OfRead order Holds
    → (order ≡ Err fault.NoMemory → Lacks) → Holds user path from count ⊎ Lacks
read_so Holds Lacks order user path from count (inl is) holds lacks = inl (subst (λ (o : Result CopyOrder OrderFault). OfRead o Holds) is holds)
read_so Holds Lacks order user path from count (inr none) holds lacks = inr (lacks none)
