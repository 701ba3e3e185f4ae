use Rattle.hk_base.specs.Disk.{Reads}
use Rattle.hk_base.proofs.Runs.{Going}
use Rattle.frame_log.specs.Ahead.{left}
use Rattle.name_store.specs.Used.{is_used}
use Rattle.name_store.proofs.ReaderLemmas.{SoFar}
use Rattle.name_store.proofs.replay.take_all.Given as goal

abbrev pub invariant-each : goal.invariant-each
invariant-each g l =
    let old = g.D.Disk.state l.fn.disk in
    let now = g.D.Disk.state l.disk in
    record {
      going : Going 1 old now (old.leaves 1);
      same : Reads 1 old now;
      read : SoFar old now l.fn.reader l.reader l.names.table (is_used l.used);
    }

abbrev pub decreases-each : goal.decreases-each
decreases-each g l = left l.reader.records
