use Rattle.thread_laws.proofs.PromiseLemmas.{keeps_promise}
use Rattle.thread_laws.proofs.zone_files_stay_open.Goals as goal

pub returns : goal.returns
returns g c = keeps_promise g.D.Disk.state g.W.Words.to_come
