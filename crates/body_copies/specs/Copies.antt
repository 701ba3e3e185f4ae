-- A stored body that is copied into another vault.
use Rattle.std.specs.Prelude.{◌≡◌, ◌⊎◌, ℕ, []}
use Rattle.hk_base.specs.Faults.{Rose}
use Rattle.body_stream.specs.Vaults.{VaultState, TellsBodies, GrowsInPart, OtherBodiesStay}

abbrev pub HasNoBody : ℕ → VaultState → Type 0
HasNoBody id vault = TellsBodies vault → vault.bodies id ≡ []

-- The body of `to`, which was empty, is now the body that the source has for `from`. No other body changed.
pub record CopiesBody (from to : ℕ) (source old new : VaultState) : Type 0 where
  pub tells : new.tells ≡ old.tells
  pub empty : HasNoBody to old
  pub body : TellsBodies source → TellsBodies old → new.bodies to ≡ source.bodies from
  pub others : TellsBodies old → OtherBodiesStay to old.bodies new.bodies

-- A prefix of the body that the source has for `from` was appended to the body of `to`. No other body changed.
pub record CopiesInPart (from to : ℕ) (source old new : VaultState) : Type 0 where
  pub tells : new.tells ≡ old.tells
  pub body : TellsBodies source → TellsBodies old → GrowsInPart to (source.bodies from) old.bodies new.bodies
  pub others : TellsBodies old → OtherBodiesStay to old.bodies new.bodies

-- Why a copy fails: one of the vaults failed, or there was a body under the id already. If one of them promises nothing, it may also fail
-- without a fault that was counted.
abbrev pub CopyFails : ℕ → (source source' old new : VaultState) → Type 0
CopyFails to source source' old new =
    Rose source.faults source'.faults ⊎ (Rose old.faults new.faults ⊎ (TellsBodies source → TellsBodies old → HasNoBody to old → ⊥))
