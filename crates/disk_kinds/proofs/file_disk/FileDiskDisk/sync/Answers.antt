use Rattle.std.proofs.Common.{arith}
use Rattle.disk_kinds.proofs.OpaqueLemmas.{opaque_call}
use Rattle.disk_kinds.proofs.file_disk.FileDiskDisk.sync.Goals as goal

pub returns-clause-call : goal.returns-clause-call
returns-clause-call c =
    opaque_call c.args.file c.args.self.now.faults c.counted.new.faults (omega (arith, c.counted.ensures.later, c.sync_file-outcome.ensures))
