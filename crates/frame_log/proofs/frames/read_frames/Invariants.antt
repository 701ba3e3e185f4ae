use Rattle.std.proofs.Common.{◌≡◌, List, ℕ, map}
use Rattle.hk_base.specs.Disk.{Tells, Reads}
use Rattle.hk_base.proofs.Runs.{Going}
use Rattle.frame_log.specs.Scan.{frame_view}
use Rattle.frame_log.specs.Ahead.{Ahead, IsPartlyRead, left}
use Rattle.frame_log.proofs.frames.read_frames.Given as goal

abbrev pub invariant-payloads : goal.invariant-payloads
invariant-payloads g l =
    let old = g.D.Disk.state l.fn.disk in
    let now = g.D.Disk.state l.disk in
    let file = l.fn.records.file in
    record {
      file_is : l.records.file ≡ file;
      going : Going file old now (old.leaves file);
      same : Reads file old now;
      tells : Tells old → (todo : List (List ℕ)) → Ahead old l.fn.records todo → IsPartlyRead now l.fn.records.at todo l.records (map frame_view l.list.items);
    }

abbrev pub decreases-payloads : goal.decreases-payloads
decreases-payloads g l = left l.records
