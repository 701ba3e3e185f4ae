-- The entries that a pass makes.
use Rattle.std.specs.Prelude.{◌≡◌, ℕ, List, ◌++◌, map}
use mathlib.Core.List.{IsPrefix}
use Rattle.hk_base.specs.Disk.{DiskState}
use Rattle.hist_cell.specs.declared.views.Entry.{Entry}
use Rattle.hist_cell.specs.declared.views.Known.{Known}
use Rattle.hist_cell.specs.History.{LegalOf, own}
use Rattle.kms_cell.specs.Entries.{KmsEntry, KmsKnown}
use Rattle.kms_cell.specs.Steps.{KmsSteps}
use Rattle.kms_cell.specs.Tickets.{KmsAllows}
use Rattle.kms_cell.specs.Views.{KmsView}
use Rattle.name_history.specs.Asked.{NameAllows}
use Rattle.name_history.specs.Entries.{NameEntry, NameKnown}
use Rattle.name_history.specs.Steps.{NameSteps}
use Rattle.name_history.specs.Views.{NameView}

-- the calls of entries, each with its reply
abbrev pub calls_of : {Q R S : Type 0} → List (Entry Q R S) → List (Q × R)
calls_of {Q = Q} {R = R} {S = S} made = map (λ (e : Entry Q R S). (e.call, e.reply)) made

-- A pass made these entries, in this order and no others, after all that it had seen. The history that it has seen then is legal.
pub record MakesEntries {Q R S : Type 0} (step : S → Q → R → S → Type 0) (allows : List (Entry Q R S) → Q → Type 0) (v : Known Q R S) (made : List (Entry Q R S)) (w : Known Q R S) : Type 0 where
  pub begins : IsPrefix v.seen w.seen
  pub mine : own v.number w.seen ≡ own v.number v.seen ++ made
  pub legal : LegalOf step allows w.start w.seen
  pub same : (w.number ≡ v.number) × (w.ended ≡ v.ended) × (w.start ≡ v.start)

-- entries of the history of the key management service
abbrev pub KeysMake : {D W : Type 0} → (D → DiskState) → (W → ℕ → ℕ) → KmsKnown D W → List (KmsEntry D W) → KmsKnown D W → Type 0
KeysMake {D = D} {W = W} state to_come v made w = MakesEntries (KmsSteps {D = D} {W = W} state to_come) (KmsAllows {S = KmsView D W}) v made w

-- entries of the history of the namesystem
abbrev pub NamesMake : {D W : Type 0} → (D → DiskState) → (W → ℕ → ℕ) → NameKnown D W → List (NameEntry D W) → NameKnown D W → Type 0
NamesMake {D = D} {W = W} state to_come v made w = MakesEntries (NameSteps {D = D} {W = W} state to_come) (NameAllows {S = NameView D W}) v made w
