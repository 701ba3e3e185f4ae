use Rattle.std.proofs.Common.{◌≡◌}
use Rattle.hk_base.specs.Disk.{Reads}
use Rattle.hk_base.proofs.Runs.{Going}
use Rattle.frame_log.specs.Ahead.{left}
use Rattle.kms_store.specs.Replay.{HasRoomForBirths}
use Rattle.kms_store.proofs.Streams.{IsBuiltSoFar}
use Rattle.kms_store.proofs.replay.replay.Given as goal

abbrev pub invariant-records : goal.invariant-records
invariant-records g l =
    let old = g.D.Disk.state l.fn.disk in
    let now = g.D.Disk.state l.disk in
    let file = l.fn.records.file in
    record {
      file_is : l.records.file ≡ file;
      going : Going file old now (old.leaves file);
      same : Reads file old now;
      births : HasRoomForBirths l.keys.table;
      read : IsBuiltSoFar old now l.fn.records l.records l.keys;
    }

abbrev pub decreases-records : goal.decreases-records
decreases-records g l = left l.records
