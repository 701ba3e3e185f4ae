use Rattle.std.proofs.Common.{arith}
use Rattle.disk_kinds.proofs.OpaqueLemmas.{opaque_call}
use Rattle.hkms_tool.proofs.looking.LookDiskDisk.read.Goals as goal

pub returns-in-Ok-clause-call : goal.returns-in-Ok-clause-call
returns-in-Ok-clause-call c = opaque_call c.args.file c.args.self.now.faults c.args.self.now.faults (omega arith)

pub returns-in-Err-clause-call : goal.returns-in-Err-clause-call
returns-in-Err-clause-call c = opaque_call c.args.file c.args.self.now.faults c.report.new.self.faults c.report.ensures.later
