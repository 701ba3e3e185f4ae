-- What is known of both services once their cells are closed.
use Rattle.std.specs.Prelude.{◌≡◌, ℕ}
use Rattle.std.proofs.Common.{subst}
use Rattle.hk_base.specs.Disk.{DiskState}
use Rattle.hist_cell.specs.History.{Closes, Meets}
use Rattle.kms_core.specs.Users.{RunningKms}
use Rattle.kms_cell.specs.Entries.{KmsKnown}
use Rattle.kms_cell.specs.Steps.{KmsSteps}
use Rattle.kms_cell.specs.Tickets.{KmsAllows}
use Rattle.kms_cell.specs.Views.{KmsView}
use Rattle.name_core.specs.State.{RunningNames}
use Rattle.name_history.specs.Asked.{NameAllows}
use Rattle.name_history.specs.Entries.{NameKnown}
use Rattle.name_history.specs.Steps.{NameSteps}
use Rattle.name_history.specs.Views.{NameView}

module _ {D W : Type 0} (state : D → DiskState) (to_come : W → ℕ → ℕ) where
  -- the pass that the namesystem kept was joined to the one with which the other cell is closed
  pub both_closed : (keys : KmsKnown D W) (names : NameKnown D W) (kms : RunningKms) (keys_disk : D) (running : RunningNames) (names_disk : D) (kept met : KmsKnown D W)
      → ((last : NameView D W) × Closes (NameSteps state to_come) NameAllows names last × (running ≡ last.names) × (names_disk ≡ last.disk) × (kept ≡ last.keys))
      → Meets keys kept met
      → ((last : KmsView D W) × Closes (KmsSteps state to_come) KmsAllows met last × (kms ≡ last.kms) × (keys_disk ≡ last.disk))
      → (last_n : NameView D W) × (met : KmsKnown D W) × (last_k : KmsView D W)
      × Closes (NameSteps state to_come) NameAllows names last_n × Meets keys last_n.keys met × Closes (KmsSteps state to_come) KmsAllows met last_k
      × (kms ≡ last_k.kms) × (keys_disk ≡ last_k.disk) × (running ≡ last_n.names) × (names_disk ≡ last_n.disk)
  both_closed keys names kms keys_disk running names_disk kept met n m k =
      (n.0, met, k.0, n.1, subst (λ (x : KmsKnown D W). Meets keys x met) n.4 m, k.1, k.2, k.3, n.2, n.3)
