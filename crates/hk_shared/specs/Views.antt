-- Both services before the cell of the namesystem is made.
use Rattle.hist_cell.specs.Turn.{Unnamed}
use Rattle.name_core.specs.State.{RunningNames}
use Rattle.kms_cell.specs.Views.{KmsView}

-- a cell of the key management service that has no name yet, and the namesystem with its disk
pub record OpeningView (D W : Type 0) : Type 0 where
  pub keys : Unnamed (KmsView D W)
  pub names : RunningNames
  pub disk : D
