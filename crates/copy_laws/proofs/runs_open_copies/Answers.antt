use Rattle.copy_laws.proofs.LawLemmas.{runs_open}
use Rattle.copy_laws.proofs.runs_open_copies.Goals as goal

pub returns : goal.returns
returns g c = runs_open (g.D.Disk.state c.args.before.now) (g.D.Disk.state c.args.after.now)
