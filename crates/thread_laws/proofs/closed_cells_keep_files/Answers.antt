use Rattle.thread_laws.proofs.CellLemmas.{closed_cells_keep_files}
use Rattle.thread_laws.proofs.closed_cells_keep_files.Goals as goal

pub returns : goal.returns
returns g c = closed_cells_keep_files g.D.Disk.state g.W.Words.to_come
