use Rattle.std.proofs.Common.{◌-◌, ◌^◌, ◌≤◌}
use Rattle.body_stream.proofs.PutLemmas.{PutSoFar}
use Rattle.body_stream.proofs.put.put_body.Given as goal

abbrev pub invariant-pieces : goal.invariant-pieces
invariant-pieces g l = record {
  so_far : PutSoFar l.coding l.id l.at (g.S.Source.left l.fn.source) (g.S.Source.left l.source) (g.V.Vault.state l.fn.vault) (g.V.Vault.state l.vault);
  source_later : g.S.Source.faults l.fn.source ≤ g.S.Source.faults l.source;
  vault_later : (g.V.Vault.state l.fn.vault).faults ≤ (g.V.Vault.state l.vault).faults;
}

abbrev pub decreases-pieces : goal.decreases-pieces
decreases-pieces g l = 2 ^ 40 - l.at
