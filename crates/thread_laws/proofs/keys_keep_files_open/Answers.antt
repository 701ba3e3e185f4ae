use Rattle.thread_laws.proofs.KeysKeep.{keys_keep_files_open}
use Rattle.thread_laws.proofs.keys_keep_files_open.Goals as goal

pub returns : goal.returns
returns g c = keys_keep_files_open g.D.Disk.state g.W.Words.to_come
