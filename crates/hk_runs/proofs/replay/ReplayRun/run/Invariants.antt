use Rattle.std.proofs.Common.{◌-◌, ◌≤◌, ◌^◌, None}
use Rattle.hk_base.specs.Reading.{ahead}
use Rattle.hk_runs.specs.Steps.{Caused}
use Rattle.hk_runs.proofs.EndLemmas.{SoFarUnder}
use Rattle.hk_runs.proofs.replay.ReplayRun.run.Given as goal

abbrev pub invariant-lines : goal.invariant-lines
invariant-lines g l = record {
  so_far : SoFarUnder (g.D.Disk.state l.fn.disk) (g.D.Disk.state l.disk)
      (record { world = l.fn.self.session.world; words = g.W.Words.to_come l.fn.words; left = g.S.Source.left l.fn.input; written = g.K.Sink.written l.fn.out })
      (record {
        view = record { world = l.self.session.world; words = g.W.Words.to_come l.words; events = l.self.session.events; written = g.K.Sink.written l.out };
        ahead = ahead l.self.reader (g.S.Source.left l.input);
        used = l.self.reader.used;
        count = l.self.count;
      });
  few : l.self.session.events ≤ l.self.count;
  bounded : l.self.count ≤ l.self.reader.used;
  small : l.self.reader.used ≤ 2 ^ 40;
  caused : Caused (g.S.Source.faults l.fn.input) (g.S.Source.faults l.input) (g.K.Sink.faults l.fn.out) (g.K.Sink.faults l.out) (g.D.Disk.state l.fn.disk).faults (g.D.Disk.state l.disk).faults None;
}

abbrev pub decreases-lines : goal.decreases-lines
decreases-lines g l = 2 ^ 40 - l.self.reader.used
