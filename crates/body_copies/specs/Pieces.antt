-- One piece of a body that is copied.
use Rattle.std.specs.Prelude.{◌≡◌, ◌⊎◌, ℕ, ◌-◌, ◌<◌, ◌≤◌, List, length}
use Rattle.hk_base.specs.Disk.{piece}
use Rattle.hk_base.specs.Faults.{Rose}
use Rattle.body_stream.specs.Vaults.{VaultState, TellsBodies, GrowsBody, GrowsInPart}

-- the n bytes from `at` on of the source's body, none of them past `end`, were appended to the body of `to`
pub record CopiesPiece (from to at end n : ℕ) (source old new : VaultState) : Type 0 where
  pub bytes : List ℕ
  pub long : n ≡ length bytes
  pub some : 0 < n
  pub within : n ≤ end - at
  pub range : TellsBodies source → bytes ≡ piece at n (source.bodies from)
  pub tells : new.tells ≡ old.tells
  pub body : TellsBodies old → GrowsBody to bytes old.bodies new.bodies

-- a prefix of some bytes from `at` on of the source's body was appended to the body of `to`
pub record CopiesPieceInPart (from to at : ℕ) (source old new : VaultState) : Type 0 where
  pub bytes : List ℕ
  pub count : ℕ
  pub range : TellsBodies source → bytes ≡ piece at count (source.bodies from)
  pub tells : new.tells ≡ old.tells
  pub body : TellsBodies old → GrowsInPart to bytes old.bodies new.bodies

-- why a piece is not copied: one of the vaults failed, or the source promises nothing
abbrev pub PieceFails : (source source' old new : VaultState) → Type 0
PieceFails source source' old new = Rose source.faults source'.faults ⊎ (Rose old.faults new.faults ⊎ (TellsBodies source → ⊥))
