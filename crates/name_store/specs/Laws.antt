-- Properties of edit logs that a run may start from.
use Rattle.std.specs.Prelude.{ℕ, List, Option}
use Rattle.edit_ops.specs.declared.ops.EditOp.{EditOp}
use Rattle.name_store.specs.Table.{Replayed}
use Rattle.name_store.specs.Store.{IsDamagedAt, IsSoundLog}

-- an edit log that a run may start from is not damaged
abbrev pub SoundIsNotDamaged : Type 0
SoundIsNotDamaged = (bytes : List ℕ) (ops : List EditOp) (more : Option EditOp) (made : Replayed) (at : ℕ) → IsSoundLog bytes ops more made → IsDamagedAt bytes at → ⊥
