use Rattle.std.proofs.Common.{true}
use Rattle.cell_workers.proofs.RoundLemmas.{WalksOnce}
use Rattle.cell_workers.proofs.walks.walk_through.Given as goal

abbrev pub invariant-loop : goal.invariant-loop
invariant-loop g l = WalksOnce g.S.Turns.state g.S.Turns.to_come (g.S.Turns.names_seen l.fn.names) l.zone true (g.S.Turns.names_seen l.names)
