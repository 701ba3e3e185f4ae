-- The body of a file on its way into a vault, and a range of it on its way out.
use Rattle.std.specs.Prelude.{◌≡◌, ℕ, ◌^◌, ◌≤◌, List, ◌++◌, length, Option, ⊤}
use Rattle.std.specs.Io.KnownBytes.{Appends, Consumes, IsAtEnd}
use Rattle.hk_base.specs.Disk.{piece}
use Rattle.body_stream.specs.Forms.{stored_form}
use Rattle.body_stream.specs.Vaults.{VaultState, TellsBodies, OtherBodiesStay}
use Rattle.body_stream.specs.declared.faults.BodyFault.{BodyFault}
use Rattle.body_stream.specs.declared.faults.BodyFault.TheVariants as fault
use Rattle.body_stream.specs.declared.keys.BodyKey.{BodyKey}

-- the most bytes of a body: 2^40
abbrev pub longest_body : ℕ
longest_body = 2 ^ 40

-- The source was read to its end, and the body of the id is the stored form of all its n bytes. No other body changed.
pub record PutsBody (key : Option BodyKey) (id n : ℕ) (left left' : Option (List ℕ)) (old new : VaultState) : Type 0 where
  pub bytes : List ℕ
  pub consumed : Consumes left left' bytes
  pub end : IsAtEnd left'
  pub long : n ≡ length bytes
  pub fits : n ≤ longest_body
  pub tells : new.tells ≡ old.tells
  pub body : TellsBodies old → new.bodies id ≡ stored_form key 0 bytes
  pub others : TellsBodies old → OtherBodiesStay id old.bodies new.bodies

-- Some bytes were read from the source, and the body of the id is a prefix of their stored form. No other body changed.
pub record PutsInPart (key : Option BodyKey) (id : ℕ) (left left' : Option (List ℕ)) (old new : VaultState) : Type 0 where
  pub bytes : List ℕ
  pub consumed : Consumes left left' bytes
  pub tells : new.tells ≡ old.tells
  pub body : TellsBodies old → (more : List ℕ) × (new.bodies id ++ more ≡ stored_form key 0 bytes)
  pub others : TellsBodies old → OtherBodiesStay id old.bodies new.bodies

-- n bytes were written, at most `count`. If the body of the id is the stored form of a file, they are the bytes of the
-- file from `from` on, up to `count` of them.
pub record ReadsBody (key : Option BodyKey) (id from count n : ℕ) (vault : VaultState) (written now : Option (List ℕ)) : Type 0 where
  pub bytes : List ℕ
  pub wrote : Appends written now bytes
  pub long : n ≡ length bytes
  pub within : n ≤ count
  pub range : TellsBodies vault → (file : List ℕ) → vault.bodies id ≡ stored_form key 0 file → bytes ≡ piece from count file

-- a prefix of what `ReadsBody` says was written
pub record ReadsInPart (key : Option BodyKey) (id from count : ℕ) (vault : VaultState) (written now : Option (List ℕ)) : Type 0 where
  pub bytes : List ℕ
  pub wrote : Appends written now bytes
  pub within : length bytes ≤ count
  pub range : TellsBodies vault → (file : List ℕ) → vault.bodies id ≡ stored_form key 0 file → (more : List ℕ) × (bytes ++ more ≡ piece from count file)

-- what can end a transfer into a vault
abbrev pub EndsPut : BodyFault → Type 0
EndsPut fault.ReadFault = ⊤
EndsPut fault.WriteFault = ⊥
EndsPut fault.VaultFault = ⊤
EndsPut fault.TooLong = ⊤
EndsPut fault.NoMemory = ⊥

-- what can end a transfer out of a vault
abbrev pub EndsRead : BodyFault → Type 0
EndsRead fault.ReadFault = ⊥
EndsRead fault.WriteFault = ⊤
EndsRead fault.VaultFault = ⊤
EndsRead fault.TooLong = ⊥
EndsRead fault.NoMemory = ⊥
