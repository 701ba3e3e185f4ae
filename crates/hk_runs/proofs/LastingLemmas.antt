-- What is true of a key lasts through a run.
use Rattle.std.proofs.Common.{◌≡◌, ◌⊎◌, inl, inr, ⊎_elim, ℕ, ◌+◌, ◌<◌, Bool, true, false, List, [], ◌∷◌, ◌++◌, Option, Some, None, sym, ◌∙◌, subst, arith}
use Rattle.std.specs.Prelude.{IfSome}
use Rattle.hk_base.specs.Disk.{DiskState, Image}
use Rattle.key_rows.specs.declared.rows.KeyCommand.{KeyCommand}
use Rattle.key_rows.specs.declared.rows.KeyCommand.TheVariants.{Opened, Create, Roll, Delete}
use Rattle.key_rows.specs.declared.rows.KeyRow.{KeyRow}
use Rattle.key_rows.specs.Sound.{IsKeyTable}
use Rattle.key_rows.specs.Table.{Table, after, applies, no_keys}
use Rattle.kms_store.specs.Replay.{HasRoomForBirths}
use Rattle.kms_store.specs.Store.{AKeyOpening, Applies, IsKeyLog, IsLeftByStart, is_key_opening, settled_commands, settled_table}
use Rattle.kms_store.proofs.Layers.{finds, left_by_start, sound_left}
use Rattle.kms_core.specs.State.{ServiceState, no_queues, service_after_opening, settled}
use Rattle.prop_text.specs.SizeValues.{SizeValues}
use Rattle.prop_text.specs.declared.lines.PropLine.{PropLine}
use Rattle.hk_events.specs.declared.event.Event.{Event}
use Rattle.world_run.specs.Acknowledged.{Acknowledged, KeysSurvive}
use Rattle.world_run.specs.Keeps.{LeftByStarts}
use Rattle.world_run.specs.Ledger.{Hidden}
use Rattle.world_run.specs.Linked.{IsOldBirth}
use Rattle.world_run.specs.World.{WorldState}
use Rattle.world_run.proofs.KeySteps.{KeepsBirths, StepsOn, known-world, settled-later, step-on}
use Rattle.world_run.proofs.LawLemmas.{no-keys-table, replayed-table}
use Rattle.world_run.proofs.Laters.{KeysLater, LaterAt, later-with, next-rises, old-recorded, opens-later, recorded-more, room-found, same-later, then-later}
use Rattle.world_run.proofs.StartLemmas.{by-start, key-kept-after-all, pair, pair-image}
use Rattle.hk_runs.specs.KeyFacts.{FactOfDisk, FactOfLog, FactOfTable, FactOfWorld, HasMaterial, IsFact, KeyFact, OpensKey, birth_in}
use Rattle.hk_runs.specs.Logs.{SurvivesLast, SurvivesUntil}
use Rattle.hk_runs.specs.Run.{History, Runs, SurvivesIn, behind, drawn_in, world_after}

-- in later tables

fact_later : (olds rows : List KeyRow) (fact : KeyFact) → LaterAt olds rows (birth_in fact) → IsFact olds fact → IsFact rows fact
fact_later olds rows (HasMaterial birth version material) later h = λ row i born.
    let q = later row i born in
    let was = h q.0 q.1 q.2 in
    (q.3.named ∙ was.0, q.3.has version.number material was.1)
fact_later olds rows (OpensKey draw edek) later h = opens-later olds rows draw edek later h

-- it is true in the table of a service, and no key that is created gets the birth
abbrev pub Holds : KeyFact → Table → Type 0
Holds fact t = IsOldBirth t (birth_in fact) × IsFact t.rows fact

holds_later : (t u : Table) (fact : KeyFact) → KeysLater t u → Holds fact t → Holds fact u
holds_later t u fact later h = (later.births (birth_in fact) h.0, fact_later t.rows u.rows fact (later.rows (birth_in fact) h.0) h.1)

-- once the next opening is recorded
holds_opened : (sizes : SizeValues) (t : Table) (fact : KeyFact) → FactOfTable fact t → Holds fact (service_after_opening (no_queues sizes) t).keys.table
holds_opened sizes t fact h = (inl h.born, h.holds)

-- what is known of a service whose table was found in a log
opened_births : (sizes : SizeValues) (t : Table) → IsKeyTable t → HasRoomForBirths t → KeepsBirths (service_after_opening (no_queues sizes) t)
opened_births sizes t is room = record { ready = record { rising = is.births; births = omega (arith, room); counter = omega arith; waits = tt; ready = tt }; waits = tt }

-- in each world on the way

runs_on : (lines : List PropLine) (tells : Type 0) (first : WorldState) (words : ℕ → ℕ) (before : ℕ) (history : History) → tells → Runs lines tells first words before history → KeepsBirths first.keys
    → StepsOn first.keys (world_after first history).keys
runs_on lines tells first words before [] known runs k = (same-later first.keys.keys.table, k)
runs_on lines tells first words before (h ∷ earlier) known runs k =
    let so_far = runs_on lines tells first words before earlier known runs.1 k in
    let one = step-on lines (world_after first earlier) (behind (drawn_in earlier) words) h.now h.event _ tells h.reply h.drawn h.logged h.world (known-world h.event tells known) runs.0.step.step so_far.1 in
    (then-later first.keys.keys.table (world_after first earlier).keys.keys.table h.world.keys.keys.table so_far.0 one.0, one.1)

-- in what a crash leaves of a running service
survives_so : (s : ServiceState) (own : Bool → KeyCommand → Type 0) (commands : List KeyCommand) (bytes : List ℕ) (fact : KeyFact) → KeepsBirths s → Holds fact s.keys.table → KeysSurvive s own commands bytes → FactOfLog fact bytes
survives_so s own commands bytes fact k h left = record {
  commands = commands ++ settled_commands left.kept s.pending;
  more = left.more;
  table = (settled left.kept s).table;
  log = left.log;
  holds = λ found.
      let there : Table = settled_table found left.more (settled left.kept s).table in
      let now = holds_later s.keys.table there fact (then-later s.keys.table (settled left.kept s).table there (settled-later left.kept s k) (later-with found left.more (settled left.kept s).table left.log.fits)) h in
      record {
        born = old-recorded there (room-found (commands ++ settled_commands left.kept s.pending) found left.more (settled left.kept s).table left.log.makes left.log.fits) (birth_in fact) now.0;
        holds = now.1;
      };
}

-- in what a start leaves

next_holds : (fact : KeyFact) (t : Table) (c : KeyCommand) → is_key_opening c ≡ true → applies t c ≡ true → FactOfTable fact t → FactOfTable fact (after t c)
next_holds fact t (Opened opening) is may h = record { born = recorded-more t.opening opening (birth_in fact) (next-rises t.opening opening may) h.born; holds = h.holds }
next_holds fact t (Create birth name bits description created material) is may h = absurd (cc is)
next_holds fact t (Roll birth number material) is may h = absurd (cc is)
next_holds fact t (Delete birth) is may h = absurd (cc is)

started_holds : (fact : KeyFact) (more : Option KeyCommand) (table : Table) → ((found : Bool) → FactOfTable fact (settled_table found more table)) → (kept found : Bool) (behind : Option KeyCommand)
    → IfSome behind (λ c. ((kept ≡ false) × (more ≡ Some c)) ⊎ AKeyOpening kept c) → Applies (settled_table kept more table) behind → FactOfTable fact (settled_table found behind (settled_table kept more table))
started_holds fact more table h kept found None is may = h kept
started_holds fact more table h kept false (Some c) is may = h kept
started_holds fact more table h kept true (Some c) (inl is) may = subst (FactOfTable fact) (sym (key-kept-after-all table kept more c is.0 is.1)) (h true)
started_holds fact more table h kept true (Some c) (inr is) may = next_holds fact (settled_table kept more table) c is may (h kept)

started : (fact : KeyFact) (bytes left : List ℕ) → FactOfLog fact bytes → IsLeftByStart bytes left → FactOfLog fact left
started fact bytes left h l =
    let k = left_by_start bytes h.commands h.more h.table h.log left l in
    record {
      commands = h.commands ++ settled_commands k.kept h.more;
      more = k.more;
      table = settled_table k.kept h.more h.table;
      log = sound_left h.table h.more AKeyOpening h.commands left h.log.spelled h.log.spelled_more h.log.makes h.log.fits k;
      holds = λ found. started_holds fact h.more h.table h.holds k.kept found k.more k.more_is k.fits;
    }

-- the table that a start finds
found_holds : (fact : KeyFact) (bytes : List ℕ) (commands : List KeyCommand) (table : Table) → FactOfLog fact bytes → IsKeyLog bytes commands table → FactOfTable fact table
found_holds fact bytes commands table h log =
    let f = finds bytes h.commands h.more h.table commands table h.log log in
    subst (FactOfTable fact) (sym f.made_is) (h.holds f.kept)

module _ (old : DiskState) (fact : KeyFact) (h : FactOfDisk old fact) (names : List ℕ) (one : old.leaves 1 names) where
  in_file : (bytes : List ℕ) → old.leaves 0 bytes → FactOfLog fact bytes
  in_file bytes left = h (pair bytes names) (pair-image old bytes names left one)

-- what openings leave
pub opening_holds : (old : DiskState) (fact : KeyFact) → FactOfDisk old fact → ((file : ℕ) → file < 2 → old.leaves file (old.reads file)) → (c : Image) → LeftByStarts old c → FactOfLog fact (c 0)
opening_holds old fact h reads c opening = ⊎_elim (λ first. ⊎_elim (here (c 0)) (λ left. by_left left) first.keys) (λ second. by_left (by-start (old.reads 0) (c 0) second.keys)) opening.left
  where
    here : (bytes : List ℕ) → old.leaves 0 bytes → FactOfLog fact bytes
    here = in_file old fact h (old.reads 1) (reads 1 (omega arith))

    by_left : IsLeftByStart (old.reads 0) (c 0) → FactOfLog fact (c 0)
    by_left left = started fact (old.reads 0) (c 0) (here (old.reads 0) (reads 0 (omega arith))) left

-- the table that a run's start finds
pub start_finds : (old : DiskState) (fact : KeyFact) → FactOfDisk old fact → ((file : ℕ) → file < 2 → old.leaves file (old.reads file)) → (commands : List KeyCommand) (table : Table) → IsKeyLog (old.reads 0) commands table → FactOfTable fact table
start_finds old fact h reads commands table log = found_holds fact (old.reads 0) commands table (in_file old fact h (old.reads 1) (reads 1 (omega arith)) (old.reads 0) (reads 0 (omega arith))) log

-- in a run

module _ (lines : List PropLine) (tells : Type 0) (known : tells) (sizes : SizeValues) (table : Table) (commands : List KeyCommand) (bytes : List ℕ) (log : IsKeyLog bytes commands table) (fact : KeyFact) (found : FactOfTable fact table)
    (first : WorldState) (opened : first.keys ≡ service_after_opening (no_queues sizes) table) (words : ℕ → ℕ) (before : ℕ) where
  births : KeepsBirths first.keys
  births = subst KeepsBirths (sym opened) (opened_births sizes table (replayed-table no_keys table commands log.spelled no-keys-table log.makes) (room-found commands false None table log.makes tt))

  on : (history : History) → Runs lines tells first words before history → StepsOn first.keys (world_after first history).keys
  on history runs = runs_on lines tells first words before history known runs births

  now : (history : History) → Runs lines tells first words before history → Holds fact (world_after first history).keys.keys.table
  now history runs =
      holds_later first.keys.keys.table (world_after first history).keys.keys.table fact (on history runs).0
      (subst (λ (s : ServiceState). Holds fact s.keys.table) (sym opened) (holds_opened sizes table fact found))

  pub world_holds : (history : History) → Runs lines tells first words before history → FactOfWorld (world_after first history) fact
  world_holds history runs kept =
      let w : WorldState = world_after first history in
      (holds_later w.keys.keys.table (settled kept w.keys).table fact (settled-later kept w.keys (on history runs).1) (now history runs)).1

  left_holds : (history : History) → Runs lines tells first words before history → (own : Bool → KeyCommand → Type 0) (done : List KeyCommand) (left : List ℕ) → KeysSurvive (world_after first history).keys own done left → FactOfLog fact left
  left_holds history runs own done left s = survives_so (world_after first history).keys own done left fact (on history runs).1 (now history runs) s

  way_holds : (done : Acknowledged) (Before : Hidden → Type 0) (history : History) (c : Image) → Runs lines tells first words before history → SurvivesIn done Before first words history c → FactOfLog fact (c 0)
  way_holds done Before [] c runs left = left_holds [] runs _ _ (c 0) left.0.keys
  way_holds done Before (x ∷ earlier) c runs (inl left) = left_holds (x ∷ earlier) runs _ _ (c 0) left.0.keys
  way_holds done Before (x ∷ earlier) c runs (inr (inl left)) = left_holds earlier runs.1 _ _ (c 0) left.0.keys
  way_holds done Before (x ∷ earlier) c runs (inr (inr left)) = way_holds done Before earlier c runs.1 left

  pub until_holds : (Cut : Event → Type 0) (done : Acknowledged) (Before : Hidden → Type 0) (history : History) (c : Image) → Runs lines tells first words before history → SurvivesUntil Cut done Before first words history c → FactOfLog fact (c 0)
  until_holds Cut done Before history c runs (inl left) = way_holds done Before history c runs left
  until_holds Cut done Before history c runs (inr (inl keys, sound)) = left_holds history runs _ _ (c 0) keys.1.keys
  until_holds Cut done Before history c runs (inr (inr names, sound)) = left_holds history runs _ _ (c 0) names.1.keys

  pub last_holds : (Cut : Event → Type 0) (done : Acknowledged) (Before : Hidden → Type 0) (history : History) (c : Image) → Runs lines tells first words before history → SurvivesLast Cut done Before first words history c → FactOfLog fact (c 0)
  last_holds Cut done Before history c runs (inl left) = left_holds history runs _ _ (c 0) left.0.keys
  last_holds Cut done Before history c runs (inr left) = until_holds Cut done Before history c runs (inr left)
