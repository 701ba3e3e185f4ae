use Rattle.std.proofs.Common.{sym}
use Rattle.key_index.proofs.RunLemmas.{length-run_places}
use Rattle.key_index.proofs.runs.PlaceRun.len.Goals as goal

pub returns-clause-count : goal.returns-clause-count
returns-clause-count c = rw (← c.self.view_is) (sym (length-run_places c.self.inside.first c.self.inside.step c.self.inside.count))
