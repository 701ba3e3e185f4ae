use Rattle.std.proofs.Common.{take}
use Rattle.cell_workers.proofs.RoundLemmas.{WalkingAll}
use Rattle.cell_workers.proofs.walks.walk_through_all.Given as goal

abbrev pub invariant-loop-zone : goal.invariant-loop-zone
invariant-loop-zone g l = WalkingAll g.S.Turns.state g.S.Turns.to_come (g.S.Turns.names_seen l.fn.names) (take l.zone-index l.fn.zones) (g.S.Turns.names_seen l.names)
