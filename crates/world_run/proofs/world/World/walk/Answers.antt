use Rattle.std.proofs.Common.{◌∙◌, Err, ap, refl, sym}
use Rattle.name_calls.specs.Paths.{read_path}
use Rattle.world_run.proofs.StepLemmas.{so-walked, walk-unread}
use Rattle.world_run.proofs.world.World.walk.Goals as goal

pub returns-in-Err : goal.returns-in-Err
returns-in-Err g c =
    walk-unread (g.D.Disk.state c.args.disk.now) c.args.self.now c.args.self.now (read_path c.args.path) c.in-Err.fault c.unread_ask.result refl c.unread_ask.ensures
    (λ is. ap read_path (sym c.as_slice.ensures) ∙ c.in-Err.ensures.bad.0 (ap Err is)) (λ none. cc (c.in-Err.ensures.bad.1 (ap read_path c.as_slice.ensures ∙ none)))

pub returns : goal.returns
returns g c =
    so-walked (g.D.Disk.state c.args.disk.now) (g.D.Disk.state c.walk_zone.new.disk) c.args.self.now c.walk_zone.new.self (read_path c.args.path) c.in-Ok.path c.walk_zone.result (ap read_path (sym c.as_slice.ensures) ∙ c.in-Ok.ensures.ok) c.walk_zone.ensures
