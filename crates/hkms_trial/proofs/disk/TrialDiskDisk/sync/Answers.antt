use Rattle.std.proofs.Common.{rules}
use Rattle.disk_kinds.proofs.OpaqueLemmas.{opaque_call}
use Rattle.hkms_trial.proofs.disk.TrialDiskDisk.sync.Goals as goal

pub returns-then-ne-clause-call : goal.returns-then-ne-clause-call
returns-then-ne-clause-call c = search (rules, opaque_call)

pub returns-clause-call : goal.returns-clause-call
returns-clause-call c = search (rules, opaque_call)
