-- A start and an event leave a world that is ready under the same lines.
use Rattle.std.proofs.Common.{◌≡◌, ℕ, List, [], ◌∷◌, ◌++◌, sym, subst}
use Rattle.std.specs.Prelude.{IsTrue}
use Rattle.hk_base.specs.Disk.{DiskState, Tells}
use Rattle.hk_events.specs.declared.event.Event.{Event}
use Rattle.hk_events.specs.declared.event.Line.{Line}
use Rattle.kms_acls.specs.Agreement.{AreListsOf}
use Rattle.kms_store.specs.Store.{next_opening}
use Rattle.name_store.specs.Table.{next_opening as next_opening_of_names}
use Rattle.prop_text.specs.declared.lines.PropLine.{PropLine}
use Rattle.prop_text.specs.SizeValues.{SizeValues}
use Rattle.world_run.specs.Acknowledged.{also}
use Rattle.world_run.specs.Keeps.{BeginsFirstWorld, Steps}
use Rattle.world_run.specs.Ready.{IsReady}
use Rattle.world_run.specs.World.{RunningWorld}

pub ready_at_start : (sizes : SizeValues) (lines : List PropLine) (old new : DiskState) (r : RunningWorld) → Tells old → BeginsFirstWorld sizes old new r → AreListsOf r.keys.acls lines → IsReady lines new r
ready_at_start sizes lines old new r telling begins lists =
    let logs = begins.log telling in record {
      lists = lists;
      stands = λ tells. (record { keys = logs.commands ++ next_opening begins.table ∷ []; names = logs.ops ++ next_opening_of_names begins.names ∷ [] }, logs.holds);
    }

pub ready_after : (lines : List PropLine) (old new : DiskState) (r : RunningWorld) (words : ℕ → ℕ) (now : ℕ) (e : Event) (answer : Line) (r' : RunningWorld) (words' : ℕ → ℕ)
    → IsReady lines old r → Steps lines old new r words now e answer r' words' → IsReady lines new r'
ready_after lines old new r words now e answer r' words' ready s = record {
  lists = subst (λ lists. AreListsOf lists lines) (sym s.lists) ready.lists;
  stands = λ tells.
      let telling = subst (λ b. IsTrue b) s.run.tells tells in
      let here = ready.stands telling in
      (also here.0 s.logged, s.stands telling here.0 here.1);
}
