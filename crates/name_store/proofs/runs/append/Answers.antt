use Rattle.std.proofs.Common.{List, subst, sym, ap, ◌∙◌}
use Rattle.name_store.specs.declared.runs.Run.{Run}
use Rattle.name_store.specs.Runs.{AreRunsRising, is_in_runs}
use Rattle.name_store.proofs.RunLemmas.{appended_has, appended_rises}
use Rattle.name_store.proofs.runs.append.Goals as goal

pub returns-clause-rising : goal.returns-clause-rising
returns-clause-rising c = subst AreRunsRising (sym c.in_ok-push.ensures.items) (appended_rises c.args.runs.now.items c.args.id c.requires.rising c.requires.begun c.requires.free)

pub returns-clause-ids : goal.returns-clause-ids
returns-clause-ids c x = ap (λ (runs : List Run). is_in_runs runs x) c.in_ok-push.ensures.items ∙ appended_has c.args.runs.now.items c.args.id x
