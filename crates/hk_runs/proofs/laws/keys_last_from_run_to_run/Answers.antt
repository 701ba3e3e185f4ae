use Rattle.hk_runs.proofs.ChainLemmas.{facts_last, facts_survive, kept_keys_open}
use Rattle.hk_runs.proofs.laws.keys_last_from_run_to_run.Goals as goal

pub returns : goal.returns
returns g c = record {
  kept = kept_keys_open (g.D.Disk.state c.args.before.now);
  last = facts_last (g.D.Disk.state c.args.before.now) (g.D.Disk.state c.args.after.now) (g.D.Disk.state c.args.next.now);
  after_crash = facts_survive (g.D.Disk.state c.args.before.now) (g.D.Disk.state c.args.after.now) (g.D.Disk.state c.args.next.now);
}
