use Rattle.std.proofs.Common.{◌≡◌, take}
use Rattle.eek_queues.specs.Queues.{ready_in}
use Rattle.kms_core.proofs.queued.copy_ready.Given as goal

abbrev pub invariant-loop-position : goal.invariant-loop-position
invariant-loop-position l = l.keys ≡ take l.position (ready_in l.fn.queues.queues l.fn.birth)
