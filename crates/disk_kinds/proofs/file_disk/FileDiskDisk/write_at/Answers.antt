use Rattle.disk_kinds.proofs.OpaqueLemmas.{opaque_call}
use Rattle.disk_kinds.proofs.file_disk.FileDiskDisk.write_at.Goals as goal

pub returns-clause-call : goal.returns-clause-call
returns-clause-call c = opaque_call c.args.file c.args.self.now.faults c.counted.new.faults c.counted.ensures.later
