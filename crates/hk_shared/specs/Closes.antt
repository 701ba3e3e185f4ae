-- What closing both cells leaves.
use Rattle.std.specs.Prelude.{◌≡◌, ℕ}
use Rattle.hk_base.specs.Disk.{DiskState}
use Rattle.hist_cell.specs.History.{Closes, Meets}
use Rattle.kms_cell.specs.Entries.{KmsKnown}
use Rattle.kms_cell.specs.Steps.{KmsSteps}
use Rattle.kms_cell.specs.Tickets.{KmsAllows}
use Rattle.kms_cell.specs.Views.{KmsView}
use Rattle.name_history.specs.Asked.{NameAllows}
use Rattle.name_history.specs.Entries.{NameKnown}
use Rattle.name_history.specs.Steps.{NameSteps}
use Rattle.name_history.specs.Views.{NameView}
use Rattle.hk_shared.specs.declared.shared.Closed.{Closed}

-- The namesystem's cell is closed first, and what its pass of the other cell knows is met into the pass of the keys, before that cell is
-- closed. Both services and their disks are those of the last states.
abbrev pub ClosesBoth : {D W : Type 0} → (D → DiskState) → (W → ℕ → ℕ) → KmsKnown D W → NameKnown D W → Closed D → Type 0
ClosesBoth {D} {W} state to_come keys names closed =
    (last_n : NameView D W) × (met : KmsKnown D W) × (last_k : KmsView D W)
    × Closes (NameSteps state to_come) NameAllows names last_n × Meets keys last_n.keys met × Closes (KmsSteps state to_come) KmsAllows met last_k
    × (closed.kms ≡ last_k.kms) × (closed.keys_disk ≡ last_k.disk) × (closed.names ≡ last_n.names) × (closed.names_disk ≡ last_n.disk)
