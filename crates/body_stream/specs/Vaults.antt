-- How contracts see a vault of bodies, and what each call does to it.
use Rattle.std.specs.Prelude.{◌≡◌, ◌≢◌, ℕ, Bool, IsTrue, List, ◌++◌}

-- The view of a vault in proofs.
pub record VaultState : Type 0 where
  -- whether a proof knows what it holds
  pub tells : Bool
  -- the body of each id, if `tells`; an id never written has an empty one
  pub bodies : ℕ → List ℕ
  -- the number of its failures
  pub faults : ℕ

abbrev pub TellsBodies : VaultState → Type 0
TellsBodies v = IsTrue v.tells

-- the bodies of all other ids are unchanged
abbrev pub OtherBodiesStay : ℕ → (ℕ → List ℕ) → (ℕ → List ℕ) → Type 0
OtherBodiesStay id old new = (j : ℕ) → j ≢ id → new j ≡ old j

-- these bytes were appended to the body of an id
pub record GrowsBody (id : ℕ) (bytes : List ℕ) (old new : ℕ → List ℕ) : Type 0 where
  pub body : new id ≡ old id ++ bytes
  pub others : OtherBodiesStay id old new

-- a prefix of these bytes was appended to the body of an id
pub record GrowsInPart (id : ℕ) (bytes : List ℕ) (old new : ℕ → List ℕ) : Type 0 where
  pub front : List ℕ
  pub more : List ℕ
  pub whole : front ++ more ≡ bytes
  pub grows : GrowsBody id front old new

-- a call that changes no body
pub record KeepsBodies (old new : VaultState) : Type 0 where
  pub tells : new.tells ≡ old.tells
  pub bodies : TellsBodies old → (j : ℕ) → new.bodies j ≡ old.bodies j
