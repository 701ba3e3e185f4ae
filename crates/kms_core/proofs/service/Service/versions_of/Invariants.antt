use Rattle.kms_core.proofs.ReadLoops.{VersionsSoFar}
use Rattle.kms_core.proofs.service.Service.versions_of.Given as goal

abbrev pub invariant-loop-number : goal.invariant-loop-number
invariant-loop-number g l = VersionsSoFar (g.D.Disk.state l.fn.disk) (g.D.Disk.state l.disk) l.fn.self l.self l.fn.name l.fn.known l.count l.number l.versions
