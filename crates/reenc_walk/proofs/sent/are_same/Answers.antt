use Rattle.reenc_walk.proofs.Alike.{other-length}
use Rattle.reenc_walk.proofs.sent.are_same.Goals as goal

pub returns-then-files-others : goal.returns-then-files-others
returns-then-files-others c = other-length c.args.files.now c.args.others.now c.if-files-others.true
