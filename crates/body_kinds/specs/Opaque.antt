-- A vault that promises nothing about its bodies.
use Rattle.std.specs.Prelude.{ℕ, [], false}
use Rattle.body_stream.specs.Vaults.{VaultState}

-- A proof knows the count of faults and nothing else.
abbrev pub opaque_vault : ℕ → VaultState
opaque_vault faults = record { tells = false; bodies = λ id. []; faults = faults }
