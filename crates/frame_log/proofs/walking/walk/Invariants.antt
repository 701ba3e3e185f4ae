use Rattle.std.proofs.Common.{◌<◌, ◌-◌}
use Rattle.hk_base.specs.Disk.{Tells, Reads}
use Rattle.hk_base.proofs.Runs.{Going}
use Rattle.frame_log.specs.Walked.{Walked}
use Rattle.frame_log.specs.Ahead.{HasBytesOf}
use Rattle.frame_log.proofs.walking.walk.Given as goal

abbrev pub invariant-gates : goal.invariant-gates
invariant-gates g l =
    let old = g.D.Disk.state l.fn.disk in
    let now = g.D.Disk.state l.disk in
    record {
      inside : l.at < l.size;
      going : Going l.file old now (old.leaves l.file);
      same : Reads l.file old now;
      tells : Tells old → Walked l.seek (old.reads l.file) l.fn.from l.at;
      window : Tells old → HasBytesOf (old.reads l.file) l.window;
    }

abbrev pub decreases-gates : goal.decreases-gates
decreases-gates g l = l.size - l.at
