use Rattle.std.proofs.Common.{◌-◌, Some}
use Rattle.reenc_walk.proofs.Starts.{IsSearched}
use Rattle.reenc_walk.proofs.cursor.place_after.Given as goal

abbrev pub invariant-loop-low : goal.invariant-loop-low
invariant-loop-low l = IsSearched l.tree.rows l.dir (Some l.cursor) l.low l.high

abbrev pub decreases-loop-low : goal.decreases-loop-low
decreases-loop-low l = l.high - l.low
