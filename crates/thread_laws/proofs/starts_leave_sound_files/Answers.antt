use Rattle.thread_laws.proofs.StartFiles.{starts_leave_sound}
use Rattle.thread_laws.proofs.starts_leave_sound_files.Goals as goal

pub returns : goal.returns
returns c = starts_leave_sound
