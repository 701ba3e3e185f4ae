-- Sealing of data encryption keys.
use Rattle.std.specs.Prelude.{ℕ, ◌-◌, List, map}
use Rattle.aes_ctr.specs.Ctr.{ctr}

-- the bytes with all their bits flipped
abbrev pub flipped : List ℕ → List ℕ
flipped iv = map (λ byte. 255 - byte) iv

-- a data encryption key sealed under a key version's material: counter mode that starts at the flipped initialization vector
unfoldable pub seal : List ℕ → List ℕ → List ℕ → List ℕ
seal material iv dek = ctr material (flipped iv) 0 dek

-- a sealed key opened under the material: the same operation
unfoldable pub unseal : List ℕ → List ℕ → List ℕ → List ℕ
unseal material iv sealed = ctr material (flipped iv) 0 sealed
