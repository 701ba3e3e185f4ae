use Rattle.kms_core.proofs.ReadLoops.{SealedSoFar}
use Rattle.kms_core.proofs.service.Service.reseal_all.Given as goal

abbrev pub invariant-loop-edek : goal.invariant-loop-edek
invariant-loop-edek g l = SealedSoFar (g.D.Disk.state l.fn.disk) (g.D.Disk.state l.disk) l.fn.self l.self l.fn.name l.fn.sent l.edek-index l.keys
