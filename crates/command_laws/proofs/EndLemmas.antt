-- How a command ends if nothing fails.
use Rattle.std.proofs.Common.{◌≡◌, ◌≢◌, ◌⊎◌, inl, inr, ℕ, ◌≤◌, List, [], ◌∷◌, ◌++◌, append-nil, refl, ap, sym, ◌∙◌, subst, Option, None, Some, arith}
use Rattle.std.specs.Io.KnownBytes.{Consumes, IsAtEnd}
use Rattle.hk_base.specs.Disk.{DiskState}
use Rattle.hk_base.specs.Faults.{Rose}
use Rattle.frame_log.specs.declared.fault.StartFault.{StartFault}
use Rattle.frame_log.specs.declared.fault.StartFault.TheVariants as start
use Rattle.prop_text.specs.declared.faults.PropFault.{PropFault}
use Rattle.prop_text.specs.declared.faults.PropFault.TheVariants as prop_fault
use Rattle.prop_text.specs.declared.lines.PropLine.{PropLine}
use Rattle.prop_text.specs.declared.props.Props.{Props}
use Rattle.prop_text.specs.Properties.{IsProps}
use Rattle.world_run.specs.Starts.{FailsAt, OpensBoth}
use Rattle.world_run.specs.World.{WorldState}
use Rattle.command_io.specs.declared.props.PropsFault.{PropsFault}
use Rattle.command_io.specs.declared.props.PropsFault.TheVariants as props_fault
use Rattle.command_io.specs.declared.ends.ReplayEnd.{ReplayEnd}
use Rattle.command_io.specs.declared.ends.ReplayEnd.TheVariants as ended
use Rattle.command_io.specs.Ends.{ShowsWith, ended_by, ended_by_props, last_line, status_of}
use Rattle.command_io.specs.Properties.{HasPropsFault, ReadsProperties}
use Rattle.hk_runs.specs.Replay.{IsFront, SaysEnd}
use Rattle.hk_runs.specs.Run.{History, Runs, faults_after}
use Rattle.command_laws.specs.Complete.{NeverFails}
use Rattle.command_laws.specs.Good.{FaultCounts, GoodDisk, GoodKeys, GoodProperties, HasCauses, NoneRose}
use Rattle.command_laws.proofs.LogLemmas.{keys_not_damaged, keys_not_spent, names_not_damaged, names_not_spent}
use Rattle.text_laws.proofs.FaultLemmas.{not_both_readings, one_list}

-- the statuses that tell of no fault
pub record Unfailed (status : ℕ) : Type 0 where
  pub read : status ≢ 7
  pub write : status ≢ 8
  pub store : status ≢ 5
  pub door : status ≢ 9

pub unfailed : (before after : FaultCounts) (status : ℕ) → HasCauses before after status → NoneRose before after → Unfailed status
unfailed before after status causes none = record {
  read = λ is. neither (causes.read is);
  write = λ is. none.out (causes.write is);
  store = λ is. none.store (causes.store is);
  door = λ is. none.door (causes.door is);
}
  where
    neither : Rose before.input after.input ⊎ Rose before.acls after.acls → ⊥
    neither (inl rose) = none.input rose
    neither (inr rose) = none.acls rose

-- want of memory
pub memory_shown : (text : List ℕ) (written now : Option (List ℕ)) (status : ℕ) → Unfailed status → ShowsWith text 6 written now status → status ≡ 6
memory_shown text written now status ok (inl shown) = shown.0
memory_shown text written now status ok (inr failed) = absurd (ok.write failed.0)

-- no event failed

never_before : (props : List PropLine) (tells : Type 0) (first : WorldState) (words : ℕ → ℕ) (before : ℕ) (history : History) → Runs props tells first words before history → before ≤ faults_after before history
never_before props tells first words before [] runs = omega arith
never_before props tells first words before (h ∷ earlier) runs = omega (arith, never_before props tells first words before earlier runs.1, runs.0.later)

pub never_fails : (props : List PropLine) (tells : Type 0) (first : WorldState) (words : ℕ → ℕ) (before last : ℕ) (history : History) → Runs props tells first words before history → faults_after before history ≤ last → ¬ Rose before last
    → NeverFails before history
never_fails props tells first words before last [] runs few none = tt
never_fails props tells first words before last (h ∷ earlier) runs few none = (
  λ rose. none (omega (arith, never_before props tells first words before earlier runs.1, few, rose)),
  never_fails props tells first words before last earlier runs.1 (omega (arith, runs.0.later, few)) none,
)

pub not_later : (old new before last before' last' : ℕ) → ¬ Rose before' last' → before' ≡ old → last' ≡ new → old ≤ before → last ≡ new → ¬ Rose before last
not_later old new before last before' last' none is are began ended = λ rose. none (omega (arith, is, are, began, ended, rose))

-- the properties

whole_text : (text read : List ℕ) (left' : Option (List ℕ)) → Consumes (Some text) left' read → IsAtEnd left' → text ≡ read
whole_text text read None consumed end = absurd consumed
whole_text text read (Some rest) consumed end = consumed ∙ ap (λ (l : List ℕ). read ++ l) end ∙ append-nil read

pub same_props : (acls acls' : Option (List ℕ)) (props : Props) (good : GoodProperties acls) → ReadsProperties acls acls' props → props ≡ good.props
same_props acls acls' props good read =
    let consumed : Consumes (Some good.text) acls' read.text = subst (λ (o : Option (List ℕ)). Consumes o acls' read.text) good.known read.consumed in
    let text : good.text ≡ read.text = whole_text good.text read.text acls' consumed read.end in
    one_list good.text props good.props (subst (λ (t : List ℕ). IsProps t props) (sym text) read.is_props) good.is_props

-- good properties fail to be read for want of memory alone
pub unread : (acls : Option (List ℕ)) (good : GoodProperties acls) (why : PropsFault) → HasPropsFault acls why → (ended_by_props why ≡ ended.ReadFault) ⊎ (ended_by_props why ≡ ended.NoMemory)
unread acls good props_fault.ReadFault has = inl refl
unread acls good (props_fault.TextFault f) has =
    let none : f ≡ prop_fault.NoMemory = not_both_readings good.text good.props f good.is_props (has good.text good.known) in
    inr (ap (λ (g : PropFault). ended_by_props (props_fault.TextFault g)) none)

-- the logs

-- good logs fail to be opened for a fault of the disk or for want of memory alone
opened_or : (file : ℕ) (fault : StartFault) → (fault ≡ start.StoreFault) ⊎ (fault ≡ start.NoMemory) → (ended_by file fault ≡ ended.StoreFault) ⊎ (ended_by file fault ≡ ended.NoMemory)
opened_or file fault (inl is) = inl (ap (ended_by file) is)
opened_or file fault (inr is) = inr (ap (ended_by file) is)

keys_closed : (bytes : List ℕ) (fault : StartFault) → GoodKeys bytes → ((at : ℕ) → fault ≡ start.Damaged at → ⊥) → (fault ≡ start.Spent → ⊥) → (fault ≡ start.StoreFault) ⊎ (fault ≡ start.NoMemory)
keys_closed bytes (start.Damaged at) good never spent = absurd (never at refl)
keys_closed bytes start.StoreFault good never spent = inl refl
keys_closed bytes start.NoMemory good never spent = inr refl
keys_closed bytes start.Spent good never spent = absurd (spent refl)

pub closed : (old new : DiskState) (file : ℕ) (fault : StartFault) → OpensBoth old new (FailsAt file fault) → GoodDisk old → (ended_by file fault ≡ ended.StoreFault) ⊎ (ended_by file fault ≡ ended.NoMemory)
closed old new file fault fails good = opened_or file fault (by (fails.file file fault (refl, refl)))
  where
    by : (file ≡ 0) ⊎ (file ≡ 1) → (fault ≡ start.StoreFault) ⊎ (fault ≡ start.NoMemory)
    by (inl keys) =
        keys_closed (old.reads 0) fault good.keys (λ at is. keys_not_damaged (old.reads 0) at good.keys (fails.keys.damaged at (keys, is) good.tells))
        (λ is. keys_not_spent (old.reads 0) good.keys (fails.keys.spent (keys, is) good.tells))
    by (inr names) =
        keys_closed (old.reads 0) fault good.keys (λ at is. names_not_damaged (old.reads 1) at good.names (fails.names.damaged at (names, is) good.tells))
        (λ is. names_not_spent (old.reads 1) good.names (fails.names.spent (names, is) good.tells))

-- the last line

-- an end that is not by a fault of the output is the one for which the command stopped, or want of memory
pub said : (stop how : ReplayEnd) (lines : ℕ) (printed text : List ℕ) → SaysEnd stop how lines printed text → (how ≡ ended.WriteFault → ⊥) → (how ≡ stop) ⊎ (how ≡ ended.NoMemory)
said stop how lines printed text says never = by says.last_is says.closes
  where
    by : (says.last ≡ stop) ⊎ (says.last ≡ ended.NoMemory) → ((how ≡ says.last) × (text ≡ says.body ++ last_line says.last lines)) ⊎ ((how ≡ ended.WriteFault) × IsFront text (says.body ++ last_line says.last lines))
        → (how ≡ stop) ⊎ (how ≡ ended.NoMemory)
    by is (inr failed) = absurd (never failed.0)
    by (inl is) (inl shown) = inl (shown.0 ∙ is)
    by (inr is) (inl shown) = inr (shown.0 ∙ is)

pub not_written : (how : ReplayEnd) (status : ℕ) → status ≡ status_of how → Unfailed status → how ≡ ended.WriteFault → ⊥
not_written how status is ok write = ok.write (is ∙ ap status_of write)

pub not_read : (how : ReplayEnd) (status : ℕ) → status ≡ status_of how → Unfailed status → how ≡ ended.ReadFault → ⊥
not_read how status is ok read = ok.read (is ∙ ap status_of read)

pub not_stored : (how : ReplayEnd) (status : ℕ) → status ≡ status_of how → Unfailed status → how ≡ ended.StoreFault → ⊥
not_stored how status is ok store = ok.store (is ∙ ap status_of store)

pub no_memory : (how : ReplayEnd) (status : ℕ) → status ≡ status_of how → how ≡ ended.NoMemory → status ≡ 6
no_memory how status is memory = is ∙ ap status_of memory

-- a command that stopped for want of memory, or for a fault that didn't come, ended for want of memory
pub only_memory : (stop how fault : ReplayEnd) → (how ≡ stop) ⊎ (how ≡ ended.NoMemory) → (stop ≡ fault) ⊎ (stop ≡ ended.NoMemory) → (how ≡ fault → ⊥) → how ≡ ended.NoMemory
only_memory stop how fault (inr memory) why never = memory
only_memory stop how fault (inl stopped) (inl is) never = absurd (never (stopped ∙ is))
only_memory stop how fault (inl stopped) (inr memory) never = stopped ∙ memory
