use Rattle.std.proofs.Common.{◌-◌}
use Rattle.reenc_walk.proofs.Collects.{IsWalking}
use Rattle.reenc_walk.proofs.files.find.Given as goal

abbrev pub invariant-walk : goal.invariant-walk
invariant-walk l = IsWalking l.tree.rows l.zone l.cursor l.dir l.size l.at l.found.sent.items l.found.last

abbrev pub decreases-walk : goal.decreases-walk
decreases-walk l = l.rows - l.at
