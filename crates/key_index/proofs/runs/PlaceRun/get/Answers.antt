use Rattle.std.proofs.Common.{sym}
use Rattle.key_index.proofs.RunLemmas.{after_run, in_run}
use Rattle.key_index.proofs.runs.PlaceRun.get.Goals as goal

pub returns-then-number-self : goal.returns-then-number-self
returns-then-number-self c = rw (← c.self.view_is) (sym (in_run c.self.inside.first c.self.inside.step c.self.inside.count c.args.number c.if-number-self.true))

pub returns : goal.returns
returns c = rw (← c.self.view_is) (sym (after_run c.self.inside.first c.self.inside.step c.self.inside.count c.args.number c.if-number-self.false))
