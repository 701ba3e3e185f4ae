use Rattle.thread_laws.proofs.FileLemmas.{histories_keep_files, sound_files_begin_linked}
use Rattle.thread_laws.proofs.histories_keep_files.Goals as goal

pub returns-clause-begins : goal.returns-clause-begins
returns-clause-begins g c = sound_files_begin_linked

pub returns-clause-keeps : goal.returns-clause-keeps
returns-clause-keeps g c = histories_keep_files g.D.Disk.state g.W.Words.to_come
