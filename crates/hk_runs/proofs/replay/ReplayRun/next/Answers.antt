use Rattle.hk_runs.proofs.EndLemmas.{line_caused}
use Rattle.hk_runs.proofs.replay.ReplayRun.next.Goals as goal

pub returns-in-Line-clause-caused : goal.returns-in-Line-clause-caused
returns-in-Line-clause-caused g c =
    line_caused c.requires.lists.0 (g.D.Disk.state c.args.disk.now) (g.D.Disk.state c.play.new.disk) _ _ _ _ _ _ _ _ _ _ _ (c.play.ensures.played c.requires.lists.0 c.requires.lists.1) c.read_line.ensures.later c.play.ensures.later c.play.ensures.fault

pub returns-in-End-clause-caused : goal.returns-in-End-clause-caused
returns-in-End-clause-caused g c =
    line_caused c.requires.lists.0 (g.D.Disk.state c.args.disk.now) (g.D.Disk.state c.play-in-End.new.disk) _ _ _ _ _ _ _ _ _ _ _ (c.play-in-End.ensures.played c.requires.lists.0 c.requires.lists.1) c.read_line.ensures.later c.play-in-End.ensures.later c.play-in-End.ensures.fault
