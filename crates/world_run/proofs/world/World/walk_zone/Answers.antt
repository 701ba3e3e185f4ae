use Rattle.std.proofs.Common.{◌∙◌, List, ap}
use Rattle.reenc_walk.specs.declared.sent.BatchNote.{BatchNote}
use Rattle.world_run.proofs.StepLemmas.{parts, walk-no-room, walk-refused, walked}
use Rattle.world_run.proofs.world.World.walk_zone.Goals as goal

pub returns-in-Err : goal.returns-in-Err
returns-in-Err g c =
    walk-no-room (g.D.Disk.state c.args.disk.now) c.args.self.now (parts c.self.inside.keys c.self.inside.names c.self.inside.tickets.items c.self.inside.notes.items c.reserve.new.self.items c.self.inside.replies.items) c.args.zone.now
    (ap (λ (l : List BatchNote). parts c.self.inside.keys c.self.inside.names c.self.inside.tickets.items c.self.inside.notes.items l c.self.inside.replies.items) c.reserve.ensures.items ∙ c.self.view_is)

pub returns-in-Err-walk : goal.returns-in-Err-walk
returns-in-Err-walk g c =
    walk-refused (g.D.Disk.state c.args.disk.now) (g.D.Disk.state c.walk.new.disk) c.args.self.now c.self.inside.keys c.self.inside.names c.walk.new.self c.self.inside.tickets.items c.self.inside.notes.items c.self.inside.batches.items c.reserve.new.self.items
    c.self.inside.replies.items c.args.zone.now c.walk.result c.in-Err-walk.why c.self.view_is c.reserve.ensures.items c.in-Err-walk.is c.walk.ensures

pub returns-in-Ok-walk : goal.returns-in-Ok-walk
returns-in-Ok-walk g c =
    walked (g.D.Disk.state c.args.disk.now) (g.D.Disk.state c.walk.new.disk) c.args.self.now c.self.inside.keys c.self.inside.names c.walk.new.self c.self.inside.tickets.items c.self.inside.notes.items c.self.inside.batches.items c.reserve.new.self.items
    c.keep_batch.new.batches.items c.self.inside.replies.items c.args.zone.now c.walk.result c.in-Ok-walk.walked c.keep_batch.result c.self.view_is c.reserve.ensures.items c.keep_batch.ensures.kept c.keep_batch.ensures.line c.in-Ok-walk.is c.walk.ensures
