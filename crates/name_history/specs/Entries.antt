-- What a caller of the cell learns.
use Rattle.std.specs.Prelude.{ℕ}
use Rattle.hk_base.specs.Disk.{DiskState}
use Rattle.hist_cell.specs.declared.views.Entry.{Entry}
use Rattle.hist_cell.specs.declared.views.Known.{Known}
use Rattle.hist_cell.specs.History.{MakesEntry, Meets, Splits}
use Rattle.kms_cell.specs.Entries.{KmsKnown}
use Rattle.name_history.specs.Asked.{NameAllows}
use Rattle.name_history.specs.Steps.{NameSteps}
use Rattle.name_history.specs.Views.{NameView}
use Rattle.name_history.specs.declared.acts.NameAct.{NameAct}
use Rattle.name_history.specs.declared.acts.NameActed.{NameActed}

-- an entry of the history of the namesystem
abbrev pub NameEntry : Type 0 → Type 0 → Type 0
NameEntry D W = Entry NameAct NameActed (NameView D W)

-- what a pass knows of that history
abbrev pub NameKnown : Type 0 → Type 0 → Type 0
NameKnown D W = Known NameAct NameActed (NameView D W)

-- The call is one entry of the legal history, after all that its caller had seen.
abbrev pub Makes : {D W : Type 0} → (D → DiskState) → (W → ℕ → ℕ) → NameKnown D W → NameAct → NameActed → NameKnown D W → Type 0
Makes {D = D} {W = W} state to_come v call reply w = MakesEntry (NameSteps {D = D} {W = W} state to_come) (NameAllows {S = NameView D W}) v call reply w

-- Such a call, for which a pass of the keys was met into the kept one. The state of the entry shows it.
pub record MakesMeeting {D W : Type 0} (state : D → DiskState) (to_come : W → ℕ → ℕ) (v : NameKnown D W) (with : KmsKnown D W) (call : NameAct) (reply : NameActed) (w : NameKnown D W) : Type 0 where
  pub makes : Makes state to_come v call reply w
  pub kept : KmsKnown D W
  pub meets : Meets kept with makes.entry.after.keys

-- Such a call, for which a pass of the keys was split from the kept one. The state of the entry shows what it has seen.
pub record MakesLending {D W : Type 0} (state : D → DiskState) (to_come : W → ℕ → ℕ) (v : NameKnown D W) (call : NameAct) (reply : NameActed) (w : NameKnown D W) (lent : KmsKnown D W) : Type 0 where
  pub makes : Makes state to_come v call reply w
  pub splits : Splits makes.entry.after.keys lent
