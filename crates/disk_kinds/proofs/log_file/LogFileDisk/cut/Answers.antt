use Rattle.disk_kinds.proofs.OpaqueLemmas.{opaque_call}
use Rattle.disk_kinds.proofs.log_file.LogFileDisk.cut.Goals as goal

pub returns-clause-call : goal.returns-clause-call
returns-clause-call c = opaque_call c.args._file c.args.self.now.faults c.counted.new.faults c.counted.ensures.later
