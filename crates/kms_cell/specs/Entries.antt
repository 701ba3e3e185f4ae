-- What a caller of the cell learns.
use Rattle.std.specs.Prelude.{◌≡◌, ℕ, List, ◌++◌}
use mathlib.Core.List.{IsPrefix}
use Rattle.hk_base.specs.Disk.{DiskState}
use Rattle.hist_cell.specs.declared.views.Entry.{Entry}
use Rattle.hist_cell.specs.declared.views.Known.{Known}
use Rattle.hist_cell.specs.History.{LegalOf, MakesEntry, own}
use Rattle.kms_cell.specs.Steps.{KmsSteps}
use Rattle.kms_cell.specs.Tickets.{KmsAllows}
use Rattle.kms_cell.specs.Views.{KmsView}
use Rattle.kms_cell.specs.declared.acts.KmsAct.{KmsAct}
use Rattle.kms_cell.specs.declared.acts.KmsActed.{KmsActed}

-- an entry of the history of the service
abbrev pub KmsEntry : Type 0 → Type 0 → Type 0
KmsEntry D W = Entry KmsAct KmsActed (KmsView D W)

-- what a pass knows of that history
abbrev pub KmsKnown : Type 0 → Type 0 → Type 0
KmsKnown D W = Known KmsAct KmsActed (KmsView D W)

-- The call is one entry of the legal history, after all that its caller had seen.
abbrev pub Makes : {D W : Type 0} → (D → DiskState) → (W → ℕ → ℕ) → KmsKnown D W → KmsAct → KmsActed → KmsKnown D W → Type 0
Makes {D = D} {W = W} state to_come v call reply w = MakesEntry (KmsSteps {D = D} {W = W} state to_come) (KmsAllows {S = KmsView D W}) v call reply w

-- A pass made these entries, in this order and no others, after all that it had seen. The history that it has seen then is legal.
pub record MakesAll {D W : Type 0} (state : D → DiskState) (to_come : W → ℕ → ℕ) (v : KmsKnown D W) (made : List (KmsEntry D W)) (w : KmsKnown D W) : Type 0 where
  pub begins : IsPrefix v.seen w.seen
  pub mine : own v.number w.seen ≡ own v.number v.seen ++ made
  pub legal : LegalOf (KmsSteps {D = D} {W = W} state to_come) (KmsAllows {S = KmsView D W}) w.start w.seen
  pub same : (w.number ≡ v.number) × (w.ended ≡ v.ended) × (w.start ≡ v.start)
