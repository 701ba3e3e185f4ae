use Rattle.std.proofs.Common.{take}
use Rattle.cell_workers.proofs.RoundLemmas.{Asking}
use Rattle.cell_workers.proofs.asks.going_zones.Given as goal

abbrev pub invariant-loop-zone : goal.invariant-loop-zone
invariant-loop-zone g l = Asking g.S.Turns.state g.S.Turns.to_come (g.S.Turns.names_seen l.fn.names) (take l.zone-index l.fn.zones) l.going (g.S.Turns.names_seen l.names)
