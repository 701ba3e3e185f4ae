use Rattle.std.proofs.Common.{ap, arith}
use Rattle.disk_kinds.proofs.Puts.{put_call}
use Rattle.disk_kinds.proofs.mem_disk.moments.MemDiskDisk.sync.Goals as goal

pub returns-in-Ok-clause-call : goal.returns-in-Ok-clause-call
returns-in-Ok-clause-call c =
    put_call c.args.file _ _ _ _ _ _ _ c.requires (omega (arith, c.in_ok-call.ensures.cause.later, ap (λ p. p.faults) c.in-Ok.ensures.plan)) c.in-Ok.ensures.ok
