use Rattle.std.proofs.Common.{ap, arith, take}
use Rattle.disk_kinds.specs.declared.mem_disk.Change.TheVariants.{CutTo}
use Rattle.disk_kinds.specs.Past.{now_of, the_file}
use Rattle.disk_kinds.proofs.Puts.{put_call, put_leaves, change_follows, cut_taken}
use Rattle.disk_kinds.proofs.mem_disk.moments.MemDiskDisk.cut.Goals as goal

pub returns-in-Ok-clause-crash : goal.returns-in-Ok-clause-crash
returns-in-Ok-clause-crash c b h =
    let f = the_file (now_of c.args.self.now) c.args.file in
    change_follows c.args.file f (take c.args.len f.reads) (CutTo c.args.len) (cut_taken c.args.len f.reads) b (put_leaves c.args.file _ _ _ _ _ c.in-Ok.ensures.ok b h)

pub returns-in-Ok-clause-call : goal.returns-in-Ok-clause-call
returns-in-Ok-clause-call c =
    put_call c.args.file _ _ _ _ _ _ _ c.requires.file (omega (arith, c.in_ok-call.ensures.cause.later, ap (λ p. p.faults) c.in-Ok.ensures.plan)) c.in-Ok.ensures.ok
