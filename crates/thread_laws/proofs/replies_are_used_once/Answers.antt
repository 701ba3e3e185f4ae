use Rattle.thread_laws.proofs.ServedLemmas.{entries_serve_once, finishes_are_served}
use Rattle.thread_laws.proofs.replies_are_used_once.Goals as goal

pub returns-clause-served : goal.returns-clause-served
returns-clause-served g c = finishes_are_served g.D.Disk.state g.W.Words.to_come

pub returns-clause-once : goal.returns-clause-once
returns-clause-once g c = entries_serve_once g.D.Disk.state g.W.Words.to_come
