-- What a command did over the disk is a history.
use Rattle.std.proofs.Common.{◌≡◌, ℕ, List, [], ◌∷◌, refl, ap, subst, IsTrue, Bool, inl, arith}
use Rattle.hk_base.specs.Disk.{DiskState, Tells}
use Rattle.prop_text.specs.declared.lines.PropLine.{PropLine}
use Rattle.prop_text.specs.declared.props.Props.{Props}
use Rattle.world_run.specs.Acknowledged.{Acknowledged, LeavesBoth, RunBoth}
use Rattle.world_run.specs.Drives.{Standing}
use Rattle.world_run.specs.Keeps.{BeginsFirstWorld, LeftByStarts}
use Rattle.world_run.specs.World.{RunningWorld, WorldState, first_world, world_of}
use Rattle.hk_runs.specs.Logs.{NoRestart, opened_logs}
use Rattle.hk_runs.specs.Run.{History, Runs, world_after}
use Rattle.hk_runs.specs.Steps.{HasLists}
use Rattle.hk_runs.proofs.BeganLemmas.{apart_kept, last_kept, promise_kept, survives_kept}
use Rattle.hk_runs.proofs.LivedLemmas.{Lived, happened_in, has_lists, lived_more, lived_nothing, rests_after, tells_now, weaker}
use Rattle.hk_runs.proofs.HeadlineLemmas.{Ends, headline_of}
use Rattle.hk_runs.specs.Headline.{Headline}
use Rattle.world_run.specs.Ledger.{Past}
use Rattle.world_run.specs.Linked.{StartsSound}
use Rattle.file_orders.proofs.FollowLemmas.{Follows}
use Rattle.data_stream.specs.Runs.{AddsEvent, LeadsAt, Worked, world_before}

-- the state in which a command began: the disk, the services, and the words to come
pub record Opened : Type 1 where
  pub disk : DiskState
  pub services : RunningWorld
  pub words : ℕ → ℕ

-- The events so far, under properties of these lines, have led to this standing.
abbrev pub WorksAs : {D W : Type 0} → (D → DiskState) → (W → ℕ → ℕ) → List PropLine → Opened → Standing D W → History → Type 0
WorksAs state to_come lines o v history = Lived lines o.disk (state v.disk) o.services o.words v.world (to_come v.words) history

-- each event is added to the history
pub adds_on : {D W : Type 0} (state : D → DiskState) (to_come : W → ℕ → ℕ) (lines : List PropLine) (o : Opened) (now : ℕ) → HasLists o.services lines
    → Follows (LeadsAt state to_come now) (AddsEvent now) (WorksAs state to_come lines o)
adds_on state to_come lines o now has a b history e answer so leads =
    let s = leads lines (has_lists o.services a.world lines so.lists has) in (
      happened_in s ∷ history,
      (
        record { happened = happened_in s; later_is = refl; event_is = refl; answer_is = refl; now_is = refl },
        lived_more lines o.disk (state a.disk) (state b.disk) o.services a.world b.world o.words (to_come a.words) (to_come b.words) history now e answer so s,
      ),
    )

pub begins_as : {D W : Type 0} (state : D → DiskState) (to_come : W → ℕ → ℕ) (lines : List PropLine) (v : Standing D W)
    → WorksAs state to_come lines (record { disk = state v.disk; services = v.world; words = to_come v.words }) v []
begins_as state to_come lines v = lived_nothing lines (state v.disk) v.world (to_come v.words) (to_come v.words) (λ k. refl)

-- a history after both logs were opened
unfoldable pub worked_so : {D W : Type 0} (state : D → DiskState) (to_come : W → ℕ → ℕ) (props : Props) (old : DiskState) (v v' : Standing D W) (h : History)
    → BeginsFirstWorld props.sizes old (state v.disk) v.world → (Tells old → LeavesBoth old (state v.disk) (LeftByStarts old)) → RunBoth old (state v.disk)
    → WorksAs state to_come props.lines (record { disk = state v.disk; services = v.world; words = to_come v.words }) v' h
    → Worked props old (state v'.disk) (to_come v.words) (to_come v'.words)
worked_so {D} {W} state to_come props old v v' h b moments run worked = record {
  table = b.table;
  names = b.names;
  before = mid.faults;
  history = h;
  runs = subst (λ (T : Type 0). Runs props.lines T (first_world props.sizes b.table b.names) words mid.faults h) (ap (λ (t : Bool). IsTrue t) run.tells)
      (subst (λ (w : WorldState). Runs props.lines (Tells mid) w words mid.faults h) b.first worked.runs);
  rest = worked.rest;
  began = run.faults;
  ended = omega (arith, worked.faults_are);
  on_disk = λ telling.
      let log = b.log telling in
      let tells = tells_now old mid run telling in
      record {
        commands = log.commands;
        ops = log.ops;
        used = log.used;
        keys = log.keys;
        edits = log.edits;
        keys_room = log.keys_room;
        names_room = log.names_room;
        moments = survives_kept props.sizes old mid (state v'.disk) v.world b telling words h NoRestart (found telling) (moments telling) run (weaker (λ image left. inl left) (worked.survives tells (found telling) log.holds));
        last = λ image is. last_kept props.sizes old mid (state v'.disk) v.world b telling words h NoRestart (found telling) image
            (inl (rests_after props.lines mid (state v'.disk) v.world v'.world words (to_come v'.words) h worked tells b.rests (found telling) log.holds image is));
      };
  promise = λ telling. promise_kept props.sizes old mid (state v'.disk) v.world b telling words h NoRestart (found telling) (worked.files_open (tells_now old mid run telling));
  apart = λ telling. apart_kept props.sizes old mid (state v'.disk) v.world b telling words h NoRestart (found telling) (worked.draws_apart (tells_now old mid run telling));
  reads = λ telling.
      let log = b.log telling in (
        v'.world,
        subst (λ (w : WorldState). world_of v'.world ≡ world_after w h) b.first worked.world_is,
        worked.stands (tells_now old mid run telling) (found telling) log.holds,
      );
}
  where
    mid : DiskState
    mid = state v.disk

    words : ℕ → ℕ
    words = to_come v.words

    found : Tells old → Acknowledged
    found telling = let log = b.log telling in opened_logs log.commands b.table log.ops b.names

-- the history keeps the promise
pub worked_keeps : (past : Past) (props : Props) (old new : DiskState) (words words' : ℕ → ℕ) → Tells old → StartsSound old past → Ends old new → (worked : Worked props old new words words')
    → Headline past props.lines old new words (world_before worked) worked.history
worked_keeps past props old new words words' tells sound ends worked =
    headline_of past props old new words worked.table worked.names worked.history NoRestart
    (record { before = worked.before; runs = worked.runs; on_disk = worked.on_disk; promise = worked.promise; apart = worked.apart }) tells sound ends
