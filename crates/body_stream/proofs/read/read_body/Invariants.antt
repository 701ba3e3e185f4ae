use Rattle.std.proofs.Common.{◌-◌, ◌≤◌}
use Rattle.body_stream.proofs.ReadLemmas.{ReadSoFar}
use Rattle.body_stream.specs.Vaults.{KeepsBodies}
use Rattle.body_stream.proofs.read.read_body.Given as goal

abbrev pub invariant-pieces : goal.invariant-pieces
invariant-pieces g l = record {
  so_far : ReadSoFar l.coding l.id l.from l.at (g.V.Vault.state l.fn.vault) (g.K.Sink.written l.fn.sink) (g.K.Sink.written l.sink);
  begun : l.from ≤ l.at;
  within : l.at ≤ l.end;
  same : KeepsBodies (g.V.Vault.state l.fn.vault) (g.V.Vault.state l.vault);
  sink_later : g.K.Sink.faults l.fn.sink ≤ g.K.Sink.faults l.sink;
  vault_later : (g.V.Vault.state l.fn.vault).faults ≤ (g.V.Vault.state l.vault).faults;
}

abbrev pub decreases-pieces : goal.decreases-pieces
decreases-pieces g l = l.end - l.at
