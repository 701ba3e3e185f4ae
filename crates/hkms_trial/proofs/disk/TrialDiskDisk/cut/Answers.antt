use Rattle.std.proofs.Common.{rules}
use Rattle.disk_kinds.proofs.OpaqueLemmas.{opaque_call}
use Rattle.hkms_trial.proofs.disk.TrialDiskDisk.cut.Goals as goal

pub returns-then-len-size-clause-call : goal.returns-then-len-size-clause-call
returns-then-len-size-clause-call c = search (rules, opaque_call)

pub returns-then-cut_planned-clause-call : goal.returns-then-cut_planned-clause-call
returns-then-cut_planned-clause-call c = search (rules, opaque_call)

pub returns-else-cut_planned-clause-call : goal.returns-else-cut_planned-clause-call
returns-else-cut_planned-clause-call c = search (rules, opaque_call)
