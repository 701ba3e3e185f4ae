-- One piece of a body on its way.
use Rattle.std.specs.Prelude.{◌≡◌, ℕ, ◌+◌, ◌-◌, ◌<◌, ◌≤◌, List, ◌++◌, length, Option}
use Rattle.std.specs.Io.KnownBytes.{Appends, Consumes, IsAtEnd}
use Rattle.hk_base.specs.Disk.{piece}
use Rattle.body_stream.specs.Forms.{coded_form}
use Rattle.body_stream.specs.Transfers.{longest_body}
use Rattle.body_stream.specs.Vaults.{VaultState, TellsBodies, GrowsBody, GrowsInPart}
use Rattle.body_stream.specs.declared.coding.Coding.{Coding}

-- n bytes were read from the source and appended to the body, which had `at` bytes; none only at the end of the source
pub record PutsPiece (coding : Coding) (id at n : ℕ) (left left' : Option (List ℕ)) (old new : VaultState) : Type 0 where
  pub bytes : List ℕ
  pub consumed : Consumes left left' bytes
  pub long : n ≡ length bytes
  pub fits : at + n ≤ longest_body
  pub end : n ≡ 0 → IsAtEnd left'
  pub tells : new.tells ≡ old.tells
  pub body : TellsBodies old → GrowsBody id (coded_form coding at bytes) old.bodies new.bodies

-- some bytes were read from the source, and a prefix of their stored form was appended to the body
pub record PutsPieceInPart (coding : Coding) (id at : ℕ) (left left' : Option (List ℕ)) (old new : VaultState) : Type 0 where
  pub bytes : List ℕ
  pub consumed : Consumes left left' bytes
  pub tells : new.tells ≡ old.tells
  pub body : TellsBodies old → GrowsInPart id (coded_form coding at bytes) old.bodies new.bodies

-- the n bytes from `at` on of the file whose stored form is the body were written, none of them past `end`
pub record ReadsPiece (coding : Coding) (id at end n : ℕ) (vault : VaultState) (written now : Option (List ℕ)) : Type 0 where
  pub bytes : List ℕ
  pub wrote : Appends written now bytes
  pub long : n ≡ length bytes
  pub within : n ≤ end - at
  pub some : TellsBodies vault → 0 < n
  pub range : TellsBodies vault → bytes ≡ coded_form coding at (piece at n (vault.bodies id))

-- a prefix of the bytes from `at` to `end` of the file whose stored form is the body was written
pub record ReadsPieceInPart (coding : Coding) (id at end : ℕ) (vault : VaultState) (written now : Option (List ℕ)) : Type 0 where
  pub bytes : List ℕ
  pub wrote : Appends written now bytes
  pub within : length bytes ≤ end - at
  pub range : TellsBodies vault → (more : List ℕ) × (bytes ++ more ≡ coded_form coding at (piece at (end - at) (vault.bodies id)))
