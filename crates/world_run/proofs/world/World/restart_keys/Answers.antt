use Rattle.std.proofs.Common.{◌∙◌, ap, []}
use Rattle.kms_core.specs.Users.{RunningKms}
use Rattle.world_run.specs.World.{RunningWorld}
use Rattle.world_run.proofs.RestartLemmas.{keys-fail, keys-restarted}
use Rattle.world_run.proofs.StartLemmas.{failed}
use Rattle.world_run.proofs.StepLemmas.{parts}
use Rattle.world_run.proofs.world.World.restart_keys.Goals as goal

pub returns-in-Err : goal.returns-in-Err
returns-in-Err g c words =
    keys-fail (g.D.Disk.state c.args.disk.now) (g.D.Disk.state c.restart.new.disk) c.args.self.now _ words c.in-Err.fault
    (record { counts = g.met.D.Disk.counts_now c.args.disk.now; only = g.met.D.Disk.only_now c.args.disk.now; is_one = λ tells file lt. g.met.D.Disk.is_one c.args.disk.now file tells lt }) (record { counts = g.met.D.Disk.counts_now c.restart.new.disk; only = g.met.D.Disk.only_now c.restart.new.disk; is_one = λ tells file lt. g.met.D.Disk.is_one c.restart.new.disk file tells lt })
    (ap (λ (keys : RunningKms). parts keys c.self.inside.names c.self.inside.tickets.items c.self.inside.notes.items c.self.inside.batches.items c.self.inside.replies.items) c.in-Err.ensures.started ∙ c.self.view_is) c.fits.ensures.keys_file c.fits.ensures.names_file c.fits.ensures.fits c.requires.stands
    (failed c.in-Err.fault c.in-Err.ensures.opens)

pub returns : goal.returns
returns g c lines words now =
    keys-restarted (g.D.Disk.state c.args.disk.now) (g.D.Disk.state c.restart.new.disk) c.args.self.now (parts c.restart.new.self c.self.inside.names c.self.inside.tickets.items c.self.inside.notes.items c.self.inside.batches.items c.self.inside.replies.items)
    c.opening-opening.result (c.restart.ensures.lists ∙ ap (λ (v : RunningWorld). v.keys.acls) c.self.view_is) (c.in-Ok.ensures.queues ∙ ap (λ (v : RunningWorld). record v.keys.ready { queues = [] }) c.self.view_is) c.fits.ensures.keys_file c.fits.ensures.fits c.requires.stands c.in-Ok.ensures.started
    c.restart.ensures.opens c.opening-opening.ensures (ap (λ (v : RunningWorld). record v { keys = c.restart.new.self }) c.self.view_is) lines words now
