use Rattle.world_run.proofs.CrashLemmas.{step-result}
use Rattle.world_run.proofs.world.World.step.Goals as goal

pub returns : goal.returns
returns g c =
    step-result (g.D.Disk.state c.args.disk.now) (g.D.Disk.state c.happen-line.new.disk) c.args.self.now (g.W.Words.to_come c.args.words.now) c.args.now c.args.event c.happen-line.result c.happen-line.new.self
    (g.W.Words.to_come c.happen-line.new.words) c.fits.ensures.keys_file c.fits.ensures.names_file c.fits.ensures.fits c.fits-2.ensures.keys_file c.fits-2.ensures.names_file c.fits-2.ensures.fits c.happen-line.ensures
