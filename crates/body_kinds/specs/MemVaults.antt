-- How contracts see a vault in memory.
use Rattle.std.specs.Prelude.{ℕ, List, true}
use Rattle.disk_kinds.specs.Fakes.{Plan}
use Rattle.body_stream.specs.Vaults.{VaultState}
use Rattle.body_kinds.specs.Shelves.{body_in}
use Rattle.body_kinds.specs.declared.mem_vault.MemVault.{MemVault}

abbrev pub body_of : MemVault → ℕ → List ℕ
body_of v = body_in v.bodies.items

abbrev pub plan_of : MemVault → Plan
plan_of v = v.plan

-- the view of the vault in the clauses of `Vault`
abbrev pub mem_state : MemVault → VaultState
mem_state v = record { tells = true; bodies = body_of v; faults = (plan_of v).faults }
