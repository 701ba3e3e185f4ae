-- Which event ended a command.
use Rattle.std.proofs.Common.{◌≡◌, ◌∙◌, ◌⊎◌, ◌≤◌, inl, inr, ℕ, Bool, true, false, List, [], ◌∷◌, ap, arith, refl, subst, sym}
use Rattle.std.specs.Prelude.{◌^◌, nat_lt, Option, None, Some, Result, Ok, Err, if◌then◌else◌}
use Rattle.hk_base.specs.Faults.{Rose}
use Rattle.hk_base.specs.declared.names.Dek.{Dek}
use Rattle.hk_base.specs.declared.names.Edek.{Edek}
use Rattle.hk_events.specs.declared.event.Event.{Event}
use Rattle.hk_events.specs.declared.event.Event.TheVariants as event
use Rattle.hk_events.specs.declared.event.Line.{Line}
use Rattle.hk_events.specs.declared.event.Line.TheVariants as line
use Rattle.kms_calls.specs.declared.calls.KmsReply.{KmsReply}
use Rattle.kms_calls.specs.declared.calls.KmsReply.TheVariants as key_reply
use Rattle.name_calls.specs.declared.calls.NameReply.{NameReply}
use Rattle.name_calls.specs.declared.calls.NameReply.TheVariants as reply
use Rattle.prop_text.specs.declared.lines.PropLine.{PropLine}
use Rattle.body_stream.specs.Vaults.{VaultState}
use Rattle.body_stream.specs.declared.faults.BodyFault.{BodyFault}
use Rattle.body_stream.specs.declared.faults.BodyFault.TheVariants as fault
use Rattle.world_run.specs.World.{WorldState}
use Rattle.hk_runs.specs.Run.{Happened, History, Runs, behind, drawn_in, faults_after, world_after}
use Rattle.file_orders.specs.Bodies.{Puts, PutsUnless, ReadsRange, Sends, Stores}
use Rattle.file_orders.specs.Ends.{end_of_body, end_of_names}
use Rattle.file_orders.specs.Opening.{CreatesFile, Decrypts, Draws, FinishesCreate, OpensEdek, OpensFile, OpensShown, as_sent, asked_in, dek_by, dek_in, file_with, finished_in, replied_in, shown_by, shown_in}
use Rattle.file_orders.specs.declared.ends.FsEnd.{FsEnd}
use Rattle.file_orders.specs.declared.ends.FsEnd.TheVariants as end
use Rattle.file_orders.specs.declared.open.OpenFile.{OpenFile}
use Rattle.file_orders.specs.declared.open.ShownFile.{ShownFile}
use Rattle.data_stream.specs.Runs.{AddsEvent}
use Rattle.data_stream.specs.Statuses.{IsRefusal, end_in}
use Rattle.data_stream.proofs.CauseLemmas.{counted}
use Rattle.data_stream.proofs.FaultLemmas.{ask_never, decrypt_fails, draw_keeps, finish_fails, info_never}
use Rattle.data_stream.proofs.OpenLemmas.{last_step, run_before}

-- ---- what an answer tells

-- a command ends for want of memory, or as the answer says
abbrev Tells : Line → FsEnd → Type 0
Tells answer how = (how ≡ end.NoMemory) ⊎ (end_in answer ≡ how)

abbrev failed : (X : Type 0) → FsEnd → Result X FsEnd
failed X why = Err why

failed_so : (X : Type 0) (why how : FsEnd) → failed X why ≡ failed X how → why ≡ how
failed_so X why how e = cc

lost : (X : Type 0) (how : FsEnd) → failed X end.NoMemory ≡ failed X how → how ≡ end.NoMemory
lost X how e = sym (failed_so X end.NoMemory how e)

some_so : (why how : FsEnd) → Some why ≡ Some how → why ≡ how
some_so why how e = cc

gone : (how : FsEnd) → Some end.NoMemory ≡ Some how → how ≡ end.NoMemory
gone how e = sym (some_so end.NoMemory how e)

few_lost : (few : Bool) (number : ℕ) (how : FsEnd) → (if few then Ok number else Err end.NoMemory) ≡ failed ℕ how → how ≡ end.NoMemory
few_lost true number how e = absurd cc
few_lost false number how e = lost ℕ how e

asked_tells : (answer : Line) (how : FsEnd) → asked_in answer ≡ Err how → Tells answer how
asked_tells (line.Kms given) how e = inl (lost ℕ how e)
asked_tells (line.Name given) how e = inl (lost ℕ how e)
asked_tells (line.Ticket number version wanted) how e = inl (lost ℕ how e)
asked_tells line.NoTicket how e = inl (lost ℕ how e)
asked_tells (line.Deposit deposit) how e = inl (lost ℕ how e)
asked_tells (line.Opened opening) how e = inl (lost ℕ how e)
asked_tells (line.Asked number note) how e = inl (few_lost (nat_lt number (2 ^ 32)) number how e)
asked_tells (line.Replied number given) how e = inl (lost ℕ how e)
asked_tells (line.Batch number files) how e = inl (lost ℕ how e)
asked_tells (line.NoneLeft count) how e = inl (lost ℕ how e)
asked_tells line.Completed how e = inl (lost ℕ how e)
asked_tells (line.Delivered delivered) how e = inl (lost ℕ how e)
asked_tells (line.Refused why) how e = inr (failed_so ℕ (end_of_names why) how e)
asked_tells line.Unknown how e = inl (lost ℕ how e)

replied_lost : (answer : Line) (how : FsEnd) → replied_in answer ≡ Err how → how ≡ end.NoMemory
replied_lost (line.Kms given) how e = lost ℕ how e
replied_lost (line.Name given) how e = lost ℕ how e
replied_lost (line.Ticket number version wanted) how e = lost ℕ how e
replied_lost line.NoTicket how e = lost ℕ how e
replied_lost (line.Deposit deposit) how e = lost ℕ how e
replied_lost (line.Opened opening) how e = lost ℕ how e
replied_lost (line.Asked number note) how e = lost ℕ how e
replied_lost (line.Replied number given) how e = few_lost (nat_lt number (2 ^ 32)) number how e
replied_lost (line.Batch number files) how e = lost ℕ how e
replied_lost (line.NoneLeft count) how e = lost ℕ how e
replied_lost line.Completed how e = lost ℕ how e
replied_lost (line.Delivered delivered) how e = lost ℕ how e
replied_lost (line.Refused why) how e = lost ℕ how e
replied_lost line.Unknown how e = lost ℕ how e

done_tells : (given : NameReply) (how : FsEnd) → finished_in (line.Name given) ≡ Some how → Tells (line.Name given) how
done_tells reply.Done how e = absurd cc
done_tells (reply.Dir id area key) how e = inl (gone how e)
done_tells (reply.File id area edek) how e = inl (gone how e)
done_tells (reply.List children) how e = inl (gone how e)
done_tells (reply.Status status) how e = inl (gone how e)
done_tells (reply.Zones zones) how e = inl (gone how e)
done_tells (reply.Refused why) how e = inl (gone how e)

finished_tells : (answer : Line) (how : FsEnd) → finished_in answer ≡ Some how → Tells answer how
finished_tells (line.Kms given) how e = inl (gone how e)
finished_tells (line.Name given) how e = done_tells given how e
finished_tells (line.Ticket number version wanted) how e = inl (gone how e)
finished_tells line.NoTicket how e = inl (gone how e)
finished_tells (line.Deposit deposit) how e = inl (gone how e)
finished_tells (line.Opened opening) how e = inl (gone how e)
finished_tells (line.Asked number note) how e = inl (gone how e)
finished_tells (line.Replied number given) how e = inl (gone how e)
finished_tells (line.Batch number files) how e = inl (gone how e)
finished_tells (line.NoneLeft count) how e = inl (gone how e)
finished_tells line.Completed how e = inl (gone how e)
finished_tells (line.Delivered delivered) how e = inl (gone how e)
finished_tells (line.Refused why) how e = inr (some_so (end_of_names why) how e)
finished_tells line.Unknown how e = inl (gone how e)

reply_tells : (given : NameReply) (how : FsEnd) → shown_by given ≡ Err how → Tells (line.Name given) how
reply_tells reply.Done how e = inl (lost ShownFile how e)
reply_tells (reply.Dir id area key) how e = inr (failed_so ShownFile end.Directory how e)
reply_tells (reply.File id area edek) how e = absurd cc
reply_tells (reply.List children) how e = inl (lost ShownFile how e)
reply_tells (reply.Status status) how e = inl (lost ShownFile how e)
reply_tells (reply.Zones zones) how e = inl (lost ShownFile how e)
reply_tells (reply.Refused why) how e = inr (failed_so ShownFile (end_of_names why) how e)

shown_tells : (answer : Line) (how : FsEnd) → shown_in answer ≡ Err how → Tells answer how
shown_tells (line.Kms given) how e = inl (lost ShownFile how e)
shown_tells (line.Name given) how e = reply_tells given how e
shown_tells (line.Ticket number version wanted) how e = inl (lost ShownFile how e)
shown_tells line.NoTicket how e = inl (lost ShownFile how e)
shown_tells (line.Deposit deposit) how e = inl (lost ShownFile how e)
shown_tells (line.Opened opening) how e = inl (lost ShownFile how e)
shown_tells (line.Asked number note) how e = inl (lost ShownFile how e)
shown_tells (line.Replied number given) how e = inl (lost ShownFile how e)
shown_tells (line.Batch number files) how e = inl (lost ShownFile how e)
shown_tells (line.NoneLeft count) how e = inl (lost ShownFile how e)
shown_tells line.Completed how e = inl (lost ShownFile how e)
shown_tells (line.Delivered delivered) how e = inl (lost ShownFile how e)
shown_tells (line.Refused why) how e = inl (lost ShownFile how e)
shown_tells line.Unknown how e = inl (lost ShownFile how e)

key_tells : (given : KmsReply) (how : FsEnd) → dek_by given ≡ Err how → Tells (line.Kms given) how
key_tells (key_reply.Key dek) how e = absurd cc
key_tells (key_reply.Refused why) how e = inr (failed_so Dek _ how e)
key_tells (key_reply.Version version material) how e = inl (lost Dek how e)
key_tells (key_reply.Metadata meta) how e = inl (lost Dek how e)
key_tells (key_reply.Metadatas metas) how e = inl (lost Dek how e)
key_tells (key_reply.Names names) how e = inl (lost Dek how e)
key_tells (key_reply.Versions versions) how e = inl (lost Dek how e)
key_tells (key_reply.Ready keys) how e = inl (lost Dek how e)
key_tells (key_reply.Resealed edek) how e = inl (lost Dek how e)
key_tells key_reply.Done how e = inl (lost Dek how e)

dek_tells : (answer : Line) (how : FsEnd) → dek_in answer ≡ Err how → Tells answer how
dek_tells (line.Kms given) how e = key_tells given how e
dek_tells (line.Name given) how e = inl (lost Dek how e)
dek_tells (line.Ticket number version wanted) how e = inl (lost Dek how e)
dek_tells line.NoTicket how e = inl (lost Dek how e)
dek_tells (line.Deposit deposit) how e = inl (lost Dek how e)
dek_tells (line.Opened opening) how e = inl (lost Dek how e)
dek_tells (line.Asked number note) how e = inl (lost Dek how e)
dek_tells (line.Replied number given) how e = inl (lost Dek how e)
dek_tells (line.Batch number files) how e = inl (lost Dek how e)
dek_tells (line.NoneLeft count) how e = inl (lost Dek how e)
dek_tells line.Completed how e = inl (lost Dek how e)
dek_tells (line.Delivered delivered) how e = inl (lost Dek how e)
dek_tells (line.Refused why) how e = inl (lost Dek how e)
dek_tells line.Unknown how e = inl (lost Dek how e)

-- ---- the last event

-- the answer to the last event tells this end
pub record EndsSo (how : FsEnd) (history : History) : Type 0 where
  pub last : Happened
  pub earlier : History
  pub history_is : history ≡ last ∷ earlier
  pub tells : end_in last.reply ≡ how

-- there was no memory, or the last event tells this end
abbrev Ended : FsEnd → History → Type 0
Ended how history = (how ≡ end.NoMemory) ⊎ EndsSo how history

module _ (now : ℕ) where
  -- an end that is told by the answer to an event, which is the last one
  ended_by : (earlier later : History) (e : Event) (answer : Line) (why how : FsEnd) → AddsEvent now earlier e answer later → Tells answer why → why ≡ how → Ended how later
  ended_by earlier later e answer why how a (inl none) same = inl (sym same ∙ none)
  ended_by earlier later e answer why how a (inr told) same = inr (record { last = a.happened; earlier = earlier; history_is = a.later_is; tells = ap end_in a.answer_is ∙ told ∙ same })

  module _ (user path : List ℕ) where
    finishes_end : (replied : Result ℕ FsEnd) (answer : Line) (mid later : History) (how : FsEnd) → replied_in answer ≡ replied → FinishesCreate (AddsEvent now) replied mid (Some how) later → Ended how later
    finishes_end (Err why) answer mid later how is (same, stays) = inl (some_so how why same ∙ replied_lost answer why is)
    finishes_end (Ok number) answer mid later how is (given, adds, same) = ended_by mid later _ given how how adds (finished_tells given how (sym same)) refl

    draws_end : (asked : Result ℕ FsEnd) (answer : Line) (e : Event) (earlier mid later : History) (how : FsEnd) → asked_in answer ≡ asked → AddsEvent now earlier e answer mid → Draws (AddsEvent now) asked mid (Some how) later → Ended how later
    draws_end (Err why) answer e earlier mid later how is a (same, stays) = subst (Ended how) (sym stays) (ended_by earlier mid e answer why how a (asked_tells answer why is) (sym (some_so how why same)))
    draws_end (Ok number) answer e earlier mid later how is a (given, after, adds, finishes) = finishes_end (replied_in given) given after later how refl finishes

    pub makes_end : (earlier later : History) (how : FsEnd) → CreatesFile (AddsEvent now) user path earlier (Some how) later → Ended how later
    makes_end earlier later how (inl (answer, mid, adds, draws)) = draws_end (asked_in answer) answer _ earlier mid later how refl adds draws
    makes_end earlier later how (inr (none, same)) = inl (some_so how end.NoMemory none)

    dek_ends : (dek : Result Dek FsEnd) (id : ℕ) (edek : Edek) (mid later : History) (how : FsEnd) → Decrypts (AddsEvent now) user edek mid dek later → Err how ≡ file_with id edek.iv dek → Ended how later
    dek_ends (Ok dek) id edek mid later how decrypts is = absurd cc
    dek_ends (Err why) id edek mid later how (inl (answer, adds, given)) is = ended_by mid later _ answer why how adds (dek_tells answer why (sym given)) (sym (failed_so OpenFile how why is))
    dek_ends (Err why) id edek mid later how (inr (none, same)) is = inl (failed_so OpenFile how why is ∙ failed_so Dek why end.NoMemory none)

    edek_ends : (id : ℕ) (edek : Option Edek) (mid later : History) (how : FsEnd) → OpensEdek (AddsEvent now) user id edek mid (Err how) later → Ended how later
    edek_ends id None mid later how (is, same) = absurd cc
    edek_ends id (Some edek) mid later how (dek, decrypts, is) = dek_ends dek id edek mid later how decrypts is

    shown_ends : (shown : Result ShownFile FsEnd) (answer : Line) (e : Event) (earlier mid later : History) (how : FsEnd) → shown_in answer ≡ shown → AddsEvent now earlier e answer mid → OpensShown (AddsEvent now) user shown mid (Err how) later → Ended how later
    shown_ends (Err why) answer e earlier mid later how is a (same, stays) = subst (Ended how) (sym stays) (ended_by earlier mid e answer why how a (shown_tells answer why is) (sym (failed_so OpenFile how why same)))
    shown_ends (Ok shown) answer e earlier mid later how is a opens = edek_ends shown.id shown.edek mid later how opens

    pub opens_end : (earlier later : History) (how : FsEnd) → OpensFile (AddsEvent now) user path earlier (Err how) later → Ended how later
    opens_end earlier later how (inl (answer, mid, adds, opens)) = shown_ends (shown_in answer) answer _ earlier mid later how refl adds opens
    opens_end earlier later how (inr (none, same)) = inl (failed_so OpenFile how end.NoMemory none)

    -- ---- a command that ends with a refusal

    refused : (how : FsEnd) (history : History) → IsRefusal how → Ended how history → EndsSo how history
    refused how history is (inl none) = absurd (subst IsRefusal none is)
    refused how history is (inr ends) = ends

    body_refuses : (why : BodyFault) → IsRefusal (end_of_body why) → ⊥
    body_refuses fault.ReadFault is = is
    body_refuses fault.WriteFault is = is
    body_refuses fault.VaultFault is = is
    body_refuses fault.TooLong is = is
    body_refuses fault.NoMemory is = is

    stores_end : (earlier later : History) (result : Result OpenFile FsEnd) (how : FsEnd) (left left' : Option (List ℕ)) (vault vault' : VaultState) → IsRefusal how → OpensFile (AddsEvent now) user path earlier result later → Stores result how left left' vault vault' → EndsSo how later
    stores_end earlier later (Ok file) how left left' vault vault' is opens (inl done) = absurd (subst IsRefusal done.how_is is)
    stores_end earlier later (Ok file) how left left' vault vault' is opens (inr (inl cut)) = absurd (body_refuses cut.fault (subst IsRefusal cut.how_is is))
    stores_end earlier later (Ok file) how left left' vault vault' is opens (inr (inr not)) = absurd (subst IsRefusal not.how_is is)
    stores_end earlier later (Err why) how left left' vault vault' is opens (same, untouched) = subst (λ (h : FsEnd). EndsSo h later) (sym same) (refused why later (subst IsRefusal same is) (opens_end earlier later why opens))

    pub put_end : (how : FsEnd) (history : History) (left left' : Option (List ℕ)) (vault vault' : VaultState) → Puts (AddsEvent now) user path [] how history left left' vault vault' → IsRefusal how → EndsSo how history
    put_end how history left left' vault vault' p is = go p.made p.makes p.puts
      where
        go : (made : Option FsEnd) → CreatesFile (AddsEvent now) user path [] made p.mid → PutsUnless made (AddsEvent now) user path p.mid how history left left' vault vault' → EndsSo how history
        go (Some why) makes (same, stays, untouched) =
            subst (EndsSo how) (sym stays) (subst (λ (h : FsEnd). EndsSo h p.mid) (sym same) (refused why p.mid (subst IsRefusal same is) (makes_end [] p.mid why makes)))
        go None makes (result, opens, stores) = stores_end p.mid history result how left left' vault vault' is opens stores

    sends_end : (earlier later : History) (from count : ℕ) (result : Result OpenFile FsEnd) (how : FsEnd) (vault vault' : VaultState) (written body : Option (List ℕ)) → IsRefusal how → OpensFile (AddsEvent now) user path earlier result later
        → Sends from count result how vault vault' written body → EndsSo how later
    sends_end earlier later from count (Ok file) how vault vault' written body is opens (inl done, same) = absurd (subst IsRefusal done.how_is is)
    sends_end earlier later from count (Ok file) how vault vault' written body is opens (inr cut, same) = absurd (body_refuses cut.fault (subst IsRefusal cut.how_is is))
    sends_end earlier later from count (Err why) how vault vault' written body is opens (same, unwritten, untouched) = subst (λ (h : FsEnd). EndsSo h later) (sym same) (refused why later (subst IsRefusal same is) (opens_end earlier later why opens))

    pub read_end : (from count : ℕ) (how : FsEnd) (history : History) (vault vault' : VaultState) (written body : Option (List ℕ)) → ReadsRange (AddsEvent now) user path from count [] how history vault vault' written body → IsRefusal how → EndsSo how history
    read_end from count how history vault vault' written body r is = sends_end [] history from count r.opened how vault vault' written body is r.opens r.sends

-- ---- a command that ends with a fault of the disk

no_memory : end.NoMemory ≡ end.StoreFault → ⊥
no_memory e = cc

pub body_stores : (why : BodyFault) → end.StoreFault ≡ end_of_body why → ⊥
body_stores fault.ReadFault e = absurd cc
body_stores fault.WriteFault e = absurd cc
body_stores fault.VaultFault e = absurd cc
body_stores fault.TooLong e = absurd cc
body_stores fault.NoMemory e = absurd cc

told_store : (answer : Line) (why : FsEnd) → Tells answer why → why ≡ end.StoreFault → end_in answer ≡ end.StoreFault
told_store answer why (inl none) is = absurd (no_memory (sym none ∙ is))
told_store answer why (inr told) is = told ∙ is

module _ (lines : List PropLine) (tells : Type 0) (first : WorldState) (words : ℕ → ℕ) (before now : ℕ) (user path : List ℕ) where
  abbrev Goes : History → Type 0
  Goes history = Runs lines tells first words before history

  grows : (history : History) → Goes history → before ≤ faults_after before history
  grows [] runs = omega arith
  grows (h ∷ earlier) runs = let le = grows earlier runs.1 in let more = runs.0.later in omega (arith, le, more)

  finishes_store : (replied : Result ℕ FsEnd) (answer : Line) (number : ℕ) (earlier mid later : History) → replied_in answer ≡ replied → AddsEvent now earlier (event.Draw number) answer mid → Goes later
      → FinishesCreate (AddsEvent now) replied mid (Some end.StoreFault) later → Rose before (faults_after before later)
  finishes_store (Err why) answer number earlier mid later is drawn runs (same, stays) = absurd (no_memory (sym (some_so end.StoreFault why same ∙ replied_lost answer why is)))
  finishes_store (Ok own) answer number earlier mid later is drawn runs (given, adds, same) =
      let runs_mid = run_before lines tells first words before now mid later _ given runs adds in
      let step = last_step lines tells first words before now earlier mid _ answer runs_mid drawn in
      let kept = draw_keeps lines (world_after first earlier) (behind (drawn_in earlier) words) drawn.happened.now _ tells answer _ _ (world_after first mid) number own step is in
      let last = last_step lines tells first words before now mid later _ given runs adds in
      let rose = finish_fails lines (world_after first mid) (behind (drawn_in mid) words) adds.happened.now _ tells given _ _ (world_after first later) own kept last (told_store given end.StoreFault (finished_tells given end.StoreFault (sym same)) refl) in
      counted before (faults_after before mid) (faults_after before later) (grows mid runs_mid)
      (inr (subst (λ (n : ℕ). Rose (faults_after before mid) n) (sym (ap (faults_after before) adds.later_is)) rose))

  draws_store : (asked : Result ℕ FsEnd) (answer : Line) (earlier mid later : History) → asked_in answer ≡ asked → AddsEvent now earlier (event.AskCreate user path) answer mid → Goes later → Draws (AddsEvent now) asked mid (Some end.StoreFault) later
      → Rose before (faults_after before later)
  draws_store (Err why) answer earlier mid later is a runs (same, stays) =
      let step = last_step lines tells first words before now earlier mid _ answer (subst Goes stays runs) a in
      absurd (ask_never lines (world_after first earlier) (behind (drawn_in earlier) words) a.happened.now (Rose (faults_after before earlier) a.happened.faults) tells answer _ _ (world_after first mid) user path step (told_store answer why (asked_tells answer why is) (sym (some_so end.StoreFault why same))))
  draws_store (Ok number) answer earlier mid later is a runs (given, after, adds, finishes) = finishes_store (replied_in given) given number mid after later refl adds runs finishes

  makes_store : (earlier later : History) → Goes later → CreatesFile (AddsEvent now) user path earlier (Some end.StoreFault) later → Rose before (faults_after before later)
  makes_store earlier later runs (inl (answer, mid, adds, draws)) = draws_store (asked_in answer) answer earlier mid later refl adds runs draws
  makes_store earlier later runs (inr (none, same)) = absurd (no_memory (sym (some_so end.StoreFault end.NoMemory none)))

  dek_stores : (dek : Result Dek FsEnd) (id : ℕ) (edek : Edek) (mid later : History) → Goes later → Decrypts (AddsEvent now) user edek mid dek later → Err end.StoreFault ≡ file_with id edek.iv dek → Rose before (faults_after before later)
  dek_stores (Ok dek) id edek mid later runs decrypts is = absurd cc
  dek_stores (Err why) id edek mid later runs (inl (answer, adds, given)) is =
      let runs_mid = run_before lines tells first words before now mid later _ answer runs adds in
      let step = last_step lines tells first words before now mid later _ answer runs adds in
      let rose = decrypt_fails lines (world_after first mid) (behind (drawn_in mid) words) adds.happened.now _ tells answer _ _ (world_after first later) user edek.version.key (as_sent edek) step
      (told_store answer why (dek_tells answer why (sym given)) (sym (failed_so OpenFile end.StoreFault why is))) in
      counted before (faults_after before mid) (faults_after before later) (grows mid runs_mid)
      (inr (subst (λ (n : ℕ). Rose (faults_after before mid) n) (sym (ap (faults_after before) adds.later_is)) rose))
  dek_stores (Err why) id edek mid later runs (inr (none, same)) is = absurd (no_memory (sym (failed_so Dek why end.NoMemory none) ∙ sym (failed_so OpenFile end.StoreFault why is)))

  pub edek_stores : (id : ℕ) (edek : Option Edek) (mid later : History) → Goes later → OpensEdek (AddsEvent now) user id edek mid (Err end.StoreFault) later → Rose before (faults_after before later)
  edek_stores id None mid later runs (is, same) = absurd cc
  edek_stores id (Some edek) mid later runs (dek, decrypts, is) = dek_stores dek id edek mid later runs decrypts is

  shown_stores : (shown : Result ShownFile FsEnd) (answer : Line) (earlier mid later : History) → shown_in answer ≡ shown → AddsEvent now earlier (event.Info user path) answer mid → Goes later → OpensShown (AddsEvent now) user shown mid (Err end.StoreFault) later → Rose before (faults_after before later)
  shown_stores (Err why) answer earlier mid later is a runs (same, stays) =
      let step = last_step lines tells first words before now earlier mid _ answer (subst Goes stays runs) a in
      absurd (info_never lines (world_after first earlier) (behind (drawn_in earlier) words) a.happened.now _ tells answer _ _ (world_after first mid) user path step (told_store answer why (shown_tells answer why is) (sym (failed_so OpenFile end.StoreFault why same))))
  shown_stores (Ok shown) answer earlier mid later is a runs opens = edek_stores shown.id shown.edek mid later runs opens

  opens_store : (earlier later : History) → Goes later → OpensFile (AddsEvent now) user path earlier (Err end.StoreFault) later → Rose before (faults_after before later)
  opens_store earlier later runs (inl (answer, mid, adds, opens)) = shown_stores (shown_in answer) answer earlier mid later refl adds runs opens
  opens_store earlier later runs (inr (none, same)) = absurd (no_memory (sym (failed_so OpenFile end.StoreFault end.NoMemory none)))

  stores_store : (earlier later : History) (result : Result OpenFile FsEnd) (how : FsEnd) (left left' : Option (List ℕ)) (vault vault' : VaultState) → how ≡ end.StoreFault → Goes later → OpensFile (AddsEvent now) user path earlier result later → Stores result how left left' vault vault' → Rose before (faults_after before later)
  stores_store earlier later (Ok file) how left left' vault vault' is runs opens (inl done) = let bad : end.StoreFault ≡ end.Put done.count = sym is ∙ done.how_is in absurd cc
  stores_store earlier later (Ok file) how left left' vault vault' is runs opens (inr (inl cut)) = absurd (body_stores cut.fault (sym is ∙ cut.how_is))
  stores_store earlier later (Ok file) how left left' vault vault' is runs opens (inr (inr not)) = let bad : end.StoreFault ≡ end.VaultFault = sym is ∙ not.how_is in absurd cc
  stores_store earlier later (Err why) how left left' vault vault' is runs opens (same, untouched) =
      opens_store earlier later runs (subst (λ (h : FsEnd). OpensFile (AddsEvent now) user path earlier (Err h) later) (sym same ∙ is) opens)

  pub put_store : (how : FsEnd) (history : History) (left left' : Option (List ℕ)) (vault vault' : VaultState) → Goes history → Puts (AddsEvent now) user path [] how history left left' vault vault' → how ≡ end.StoreFault → Rose before (faults_after before history)
  put_store how history left left' vault vault' runs p is = go p.made p.makes p.puts
    where
      go : (made : Option FsEnd) → CreatesFile (AddsEvent now) user path [] made p.mid → PutsUnless made (AddsEvent now) user path p.mid how history left left' vault vault' → Rose before (faults_after before history)
      go (Some why) makes (same, stays, untouched) =
          makes_store [] history runs (subst (λ (h : History). CreatesFile (AddsEvent now) user path [] (Some end.StoreFault) h) (sym stays) (subst (λ (w : FsEnd). CreatesFile (AddsEvent now) user path [] (Some w) p.mid) (sym same ∙ is) makes))
      go None makes (result, opens, stores) = stores_store p.mid history result how left left' vault vault' is runs opens stores

  sends_store : (earlier later : History) (from count : ℕ) (result : Result OpenFile FsEnd) (how : FsEnd) (vault vault' : VaultState) (written body : Option (List ℕ)) → how ≡ end.StoreFault → Goes later → OpensFile (AddsEvent now) user path earlier result later
      → Sends from count result how vault vault' written body → Rose before (faults_after before later)
  sends_store earlier later from count (Ok file) how vault vault' written body is runs opens (inl done, same) = let bad : end.StoreFault ≡ end.Read done.sent = sym is ∙ done.how_is in absurd cc
  sends_store earlier later from count (Ok file) how vault vault' written body is runs opens (inr cut, same) = absurd (body_stores cut.fault (sym is ∙ cut.how_is))
  sends_store earlier later from count (Err why) how vault vault' written body is runs opens (same, unwritten, untouched) =
      opens_store earlier later runs (subst (λ (h : FsEnd). OpensFile (AddsEvent now) user path earlier (Err h) later) (sym same ∙ is) opens)

  pub read_store : (from count : ℕ) (how : FsEnd) (history : History) (vault vault' : VaultState) (written body : Option (List ℕ)) → Goes history → ReadsRange (AddsEvent now) user path from count [] how history vault vault' written body → how ≡ end.StoreFault → Rose before (faults_after before history)
  read_store from count how history vault vault' written body runs r is = sends_store [] history from count r.opened how vault vault' written body is runs r.opens r.sends
