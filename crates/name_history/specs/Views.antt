-- The namesystem beside its disk, with the pass of the keys that it keeps.
use Rattle.std.specs.Prelude.{List}
use Rattle.hk_base.specs.Disk.{DiskState, Tells}
use Rattle.edit_ops.specs.declared.ops.EditOp.{EditOp}
use Rattle.name_core.specs.State.{IsNamesystemOf, RunningNames}
use Rattle.kms_cell.specs.Entries.{KmsKnown}
use Rattle.name_history.specs.declared.fronts.Front.{Front}

-- the namesystem with its disk, what its pass has seen of the history of the keys, and the fronts of its batches
pub record NameView (D W : Type 0) : Type 0 where
  pub names : RunningNames
  pub disk : D
  pub keys : KmsKnown D W
  pub fronts : List Front

-- The namesystem runs on this disk: the disk, if it tells, holds its log: some operations, with or without the pending one.
abbrev pub NamesRunOn : DiskState → RunningNames → Type 0
NamesRunOn disk names = Tells disk → (ops : List EditOp) × IsNamesystemOf disk names ops
