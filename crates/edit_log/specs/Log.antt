-- An edit log, and the operations that it holds.
use Rattle.std.specs.Prelude.{◌≡◌, ℕ, List, [], ◌∷◌, ◌++◌, map, Option, Some, None, option_map, IfSome, slice_get}
use Rattle.std.specs.List.{AllByRecursion}
use Rattle.hk_base.specs.Disk.{DiskState, Tells}
use Rattle.frame_log.specs.Format.{IsBeforeOrAfter}
use Rattle.frame_log.specs.Stands.{Stands}
use Rattle.frame_log.specs.declared.log.Log.{Log}
use Rattle.edit_ops.specs.Records.{HasSpelling, spelling}
use Rattle.edit_ops.specs.declared.ops.EditOp.{EditOp}

-- its log, and the pending operation
pub record EditLogState : Type 0 where
  pub log : Log
  pub pending : Option EditOp

-- both are pending, or neither is
abbrev pub WaitTogether : Option EditOp → Option ℕ → Type 0
WaitTogether None unsettled = unsettled ≡ None
WaitTogether (Some op) None = ⊥
WaitTogether (Some op) (Some size) = Unit {0}

-- The log holds these acknowledged operations on the disk: they are its records, apart from the pending
-- one.
pub record IsEditLogOf (disk : DiskState) (edits : EditLogState) (ops : List EditOp) : Type 0 where
  pub spelled : AllByRecursion HasSpelling ops
  pub waits : IfSome edits.pending HasSpelling
  pub log : Stands disk edits.log (map spelling ops) (option_map spelling edits.pending)

-- the gate byte before the pending record reads 1, so that the record counts
abbrev pub IsGateSet : DiskState → EditLogState → Type 0
IsGateSet disk edits = slice_get (disk.reads 1) edits.log.end ≡ Some 1

-- if that gate byte is set, the pending operation is kept, and the log holds it too
abbrev pub KeepsIfGateSet : DiskState → DiskState → EditLogState → Option EditOp → EditLogState → Type 0
KeepsIfGateSet old new edits kept edits' =
    Tells old → (ops : List EditOp) (op : EditOp) → IsEditLogOf old edits ops → edits.pending ≡ Some op → IsGateSet old edits → (kept ≡ Some op) × IsEditLogOf new edits' (ops ++ op ∷ [])

-- if it is not set, there is nothing to keep
abbrev pub DropsUnlessGateSet : DiskState → DiskState → EditLogState → Option EditOp → EditLogState → Type 0
DropsUnlessGateSet old new edits kept edits' =
    Tells old → (ops : List EditOp) → IsEditLogOf old edits ops → ¬ IsGateSet old edits → (kept ≡ None) × IsEditLogOf new edits' ops

-- a log of these operations, with one more or without it, now and if its end gate byte is read as 1
abbrev pub IsWithOrWithout : List EditOp → EditOp → List ℕ → Type 0
IsWithOrWithout ops op bytes = IsBeforeOrAfter 1 (map spelling ops) (spelling op) bytes
