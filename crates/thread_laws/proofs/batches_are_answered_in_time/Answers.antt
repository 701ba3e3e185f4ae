use Rattle.thread_laws.proofs.FrontLemmas.{deliveries_are_timely}
use Rattle.thread_laws.proofs.batches_are_answered_in_time.Goals as goal

pub returns : goal.returns
returns g c = deliveries_are_timely g.D.Disk.state g.W.Words.to_come
