use Rattle.copy_laws.proofs.LawLemmas.{later_read}
use Rattle.copy_laws.proofs.later_runs_read_copies.Goals as goal

pub returns : goal.returns
returns g c = later_read (g.D.Disk.state c.args.at_copy.now) (g.D.Disk.state c.args.copied.now) (g.D.Disk.state c.args.at_read.now) (g.D.Disk.state c.args.done.now)
