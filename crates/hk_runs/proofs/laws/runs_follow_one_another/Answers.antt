use Rattle.hk_runs.proofs.ChainLemmas.{draws_apart, empty_disk, follows_crash, follows_run}
use Rattle.hk_runs.proofs.laws.runs_follow_one_another.Goals as goal

pub returns : goal.returns
returns g c = record {
  empty = empty_disk (g.D.Disk.state c.args.next.now);
  follows = follows_run (g.D.Disk.state c.args.before.now) (g.D.Disk.state c.args.after.now) (g.D.Disk.state c.args.next.now);
  after_crash = follows_crash (g.D.Disk.state c.args.before.now) (g.D.Disk.state c.args.after.now) (g.D.Disk.state c.args.next.now);
  apart = draws_apart (g.D.Disk.state c.args.before.now) (g.D.Disk.state c.args.after.now);
}
