-- The operations that a reader of an edit log has returned, and the records that it has not returned yet.
use Rattle.std.specs.Prelude.{◌≡◌, ℕ, List, [], ◌∷◌, ◌++◌, map, Option, Some, None}
use Rattle.std.specs.List.{AllByRecursion}
use Rattle.hk_base.specs.Disk.{DiskState}
use Rattle.frame_log.specs.Format.{log_of, Found, end_of, IsAsFound}
use Rattle.frame_log.specs.Ahead.{Ahead}
use Rattle.edit_ops.specs.Records.{HasSpelling, spelling}
use Rattle.edit_ops.specs.declared.ops.EditOp.{EditOp}
use Rattle.edit_log.specs.declared.replay.PlacedOp.{PlacedOp}
use Rattle.edit_log.specs.declared.reader.OpReader.{OpReader}
use Rattle.edit_log.specs.Replay.{openings, IsNoNext}
use Rattle.edit_log.specs.Log.{EditLogState, IsEditLogOf}

-- The reader returned the operations `done`, each in turn, and the records `todo` follow them.
pub record OpsAhead (disk : DiskState) (reader : OpReader) (done : List EditOp) (todo : List (List ℕ)) : Type 0 where
  pub spelled : AllByRecursion HasSpelling done
  pub turns : openings 0 done ≡ Some reader.opening
  pub place : reader.records.at ≡ end_of (map spelling done)
  pub ahead : Ahead disk reader.records todo

-- the reader returned the operation of the first record, and the offset of the gate before it
pub record IsFirstOp (disk : DiskState) (new : OpReader) (done : List EditOp) (todo : List (List ℕ)) (placed : PlacedOp) : Type 0 where
  pub rest : List (List ℕ)
  pub first : todo ≡ spelling placed.op ∷ rest
  pub place : placed.at ≡ end_of (map spelling done)
  pub ahead : OpsAhead disk new (done ++ placed.op ∷ []) rest

-- a reader returns the operation of the first record, or None if there are no more records, and then has nothing ahead
abbrev pub IsNextOp : DiskState → OpReader → List EditOp → List (List ℕ) → Option PlacedOp → Type 0
IsNextOp disk new done todo (Some placed) = IsFirstOp disk new done todo placed
IsNextOp disk new done todo None = (todo ≡ []) × OpsAhead disk new done []

-- the first record, whose gate is at this offset, is not an operation or is out of turn
pub record HasNoNextOp (reader : OpReader) (done : List EditOp) (todo : List (List ℕ)) (offset : ℕ) : Type 0 where
  pub payload : List ℕ
  pub rest : List (List ℕ)
  pub first : todo ≡ payload ∷ rest
  pub not_next : IsNoNext reader.opening payload
  pub place : offset ≡ end_of (map spelling done)

-- A file of these bytes was recovered: the reader is at its first record, a crash leaves the log found, and if all records are
-- operations, the log holds them.
pub record IsReaderOpened (bytes : List ℕ) (disk : DiskState) (edits : EditLogState) (reader : OpReader) : Type 0 where
  pub payloads : List (List ℕ)
  pub gate : ℕ
  pub found : log_of 1 bytes ≡ Found payloads gate
  pub ahead : OpsAhead disk reader [] payloads
  pub leaves : (left : List ℕ) → disk.leaves 1 left → IsAsFound 1 bytes left
  pub stands : (ops : List EditOp) → AllByRecursion HasSpelling ops → payloads ≡ map spelling ops → IsEditLogOf disk edits ops
