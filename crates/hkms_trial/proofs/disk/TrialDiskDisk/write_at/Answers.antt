use Rattle.std.proofs.Common.{rules}
use Rattle.disk_kinds.proofs.OpaqueLemmas.{opaque_call}
use Rattle.hkms_trial.proofs.disk.TrialDiskDisk.write_at.Goals as goal

pub returns-then-at-size-clause-call : goal.returns-then-at-size-clause-call
returns-then-at-size-clause-call c = search (rules, opaque_call)

pub returns-then-write_planned-clause-call : goal.returns-then-write_planned-clause-call
returns-then-write_planned-clause-call c = search (rules, opaque_call)

pub returns-else-write_planned-clause-call : goal.returns-else-write_planned-clause-call
returns-else-write_planned-clause-call c = search (rules, opaque_call)
