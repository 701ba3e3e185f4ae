-- A start, an event and a drive leave a world that is ready.
use Rattle.std.proofs.Common.{◌≡◌, ℕ, List, [], ◌∷◌, ◌++◌, Ok, Err, sym, subst}
use Rattle.std.specs.Prelude.{IsTrue, MatchResult}
use Rattle.std.specs.declared.result.Result.{Result}
use Rattle.hk_base.specs.Disk.{DiskState, Tells}
use Rattle.hk_events.specs.declared.event.Event.{Event}
use Rattle.hk_events.specs.declared.event.Line.{Line}
use Rattle.kms_acls.specs.Agreement.{AreListsOf}
use Rattle.kms_store.specs.Store.{next_opening}
use Rattle.name_calls.specs.declared.calls.NameRefusal.{NameRefusal}
use Rattle.name_calls.specs.declared.paths.NPath.{NPath}
use Rattle.name_calls.specs.Paths.{path_text}
use Rattle.name_core.specs.declared.walks.Walked.{Walked}
use Rattle.name_store.specs.Table.{next_opening as next_opening_of_names}
use Rattle.prop_text.specs.declared.lines.PropLine.{PropLine}
use Rattle.prop_text.specs.SizeValues.{SizeValues}
use Rattle.world_run.specs.declared.fault.WorldFault.{WorldFault}
use Rattle.world_run.specs.Acknowledged.{also}
use Rattle.world_run.specs.Drives.{Course, Drives, IsCourse, Leads, Standing, standing_after}
use Rattle.world_run.specs.Keeps.{BeginsFirstWorld, FailsToRestart, Steps}
use Rattle.world_run.specs.World.{RunningWorld}
use Rattle.world_run.specs.Ready.{IsReady}

pub ready-at-start : (sizes : SizeValues) (lines : List PropLine) (old new : DiskState) (r : RunningWorld) → Tells old → BeginsFirstWorld sizes old new r → AreListsOf r.keys.acls lines → (lines : List PropLine) × IsReady lines new r
ready-at-start sizes lines old new r telling begins lists =
    let logs = begins.log telling in (
      lines,
      record {
        lists = lists;
        stands = λ tells. (record { keys = logs.commands ++ next_opening begins.table ∷ []; names = logs.ops ++ next_opening_of_names begins.names ∷ [] }, logs.holds);
      },
    )

-- an event, under the lists of these lines
ready-then : (lines : List PropLine) (old new : DiskState) (r : RunningWorld) (words : ℕ → ℕ) (now : ℕ) (e : Event) (answer : Line) (r' : RunningWorld) (words' : ℕ → ℕ)
    → IsReady lines old r → Steps lines old new r words now e answer r' words' → IsReady lines new r'
ready-then lines old new r words now e answer r' words' ready s = record {
  lists = subst (λ lists. AreListsOf lists lines) (sym s.lists) ready.lists;
  stands = λ tells.
      let telling = subst (λ b. IsTrue b) s.run.tells tells in
      let here = ready.stands telling in
      (also here.0 s.logged, s.stands telling here.0 here.1);
}

pub ready-after-step : (old new : DiskState) (r : RunningWorld) (words : ℕ → ℕ) (now : ℕ) (e : Event) (outcome : Result Line WorldFault) (answer : Line) (r' : RunningWorld) (words' : ℕ → ℕ)
    → (lines : List PropLine) × IsReady lines old r → outcome ≡ Ok answer
    → MatchResult outcome (λ line. (lines : List PropLine) → AreListsOf r.keys.acls lines → Steps lines old new r words now e line r' words') (λ fault. FailsToRestart old new r words e fault.file fault.fault r' words')
    → (lines : List PropLine) × IsReady lines new r'
ready-after-step old new r words now e (Ok line) answer r' words' ready is happened = (ready.0, ready-then ready.0 old new r words now e line r' words' ready.1 (happened ready.0 ready.1.lists))
ready-after-step old new r words now e (Err fault) answer r' words' ready is happened = absurd cc

-- the events of a drive
ready-along : {D W : Type 0} (state : D → DiskState) (to_come : W → ℕ → ℕ) (lines : List PropLine) (now : ℕ) (path : List ℕ) (a : Standing D W) (course : Course D W)
    → IsReady lines (state a.disk) a.world → IsCourse (Leads state to_come lines now) path a course → IsReady lines (state (standing_after a course).disk) (standing_after a course).world
ready-along state to_come lines now path a [] ready is = ready
ready-along state to_come lines now path a (p ∷ earlier) ready is =
    let before = standing_after a earlier in
    ready-then lines (state before.disk) (state p.after.disk) before.world (to_come before.words) now p.event p.answer p.after.world (to_come p.after.words)
    (ready-along state to_come lines now path a earlier ready is.2) is.1

pub ready-after-drive : {D W : Type 0} (state : D → DiskState) (to_come : W → ℕ → ℕ) (now : ℕ) (zone : NPath) (a : Standing D W) (result : Result Walked NameRefusal) (b : Standing D W)
    → (lines : List PropLine) × IsReady lines (state a.disk) a.world → ((lines : List PropLine) → AreListsOf a.world.keys.acls lines → Drives state to_come lines now zone a result b) → (lines : List PropLine) × IsReady lines (state b.disk) b.world
ready-after-drive {D = D} {W = W} state to_come now zone a result b ready drives =
    let d = drives ready.0 ready.1.lists in
    (ready.0, subst (λ (s : Standing D W). IsReady ready.0 (state s.disk) s.world) d.last (ready-along state to_come ready.0 now (path_text zone) a d.course ready.1 d.is_course))
