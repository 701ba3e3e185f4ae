use Rattle.disk_kinds.proofs.OpaqueLemmas.{opaque_call}
use Rattle.hkms_tool.proofs.looking.LookDiskDisk.write_at.Goals as goal

pub returns-clause-call : goal.returns-clause-call
returns-clause-call c = opaque_call _ c.args.self.now.faults c.fault.new.self.faults c.fault.ensures.later
