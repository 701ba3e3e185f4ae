use Rattle.std.proofs.Common.{◌-◌, ◌≤◌}
use Rattle.body_copies.proofs.CopyLemmas.{CopiedSoFar}
use Rattle.body_stream.specs.Vaults.{KeepsBodies}
use Rattle.body_copies.proofs.copy.copy_body.Given as goal

abbrev pub invariant-pieces : goal.invariant-pieces
invariant-pieces g l = record {
  so_far : CopiedSoFar l.from l.to l.at (g.V.Vault.state l.fn.vault) (g.U.Vault.state l.fn.copies) (g.U.Vault.state l.copies);
  within : l.at ≤ l.size;
  same : KeepsBodies (g.V.Vault.state l.fn.vault) (g.V.Vault.state l.vault);
  vault_later : (g.V.Vault.state l.fn.vault).faults ≤ (g.V.Vault.state l.vault).faults;
  copies_later : (g.U.Vault.state l.fn.copies).faults ≤ (g.U.Vault.state l.copies).faults;
}

abbrev pub decreases-pieces : goal.decreases-pieces
decreases-pieces g l = l.size - l.at
