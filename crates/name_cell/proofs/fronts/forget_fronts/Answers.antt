use Rattle.std.proofs.Common.{rules}
use Rattle.std.proofs.lemmas.Fn.{filter_same}
use Rattle.name_core.specs.State.{names_of}
use Rattle.name_core.specs.Updates.{is_outstanding}
use Rattle.name_history.specs.declared.fronts.Front.{Front}
use Rattle.name_cell.proofs.fronts.forget_fronts.Goals as goal

pub returns-clause-fronts : goal.returns-clause-fronts
returns-clause-fronts c = filter_same _ (λ (f : Front). is_outstanding (names_of c.args.names.now) f.note) _ (λ x b g says. search rules) _ _ c.retain.ensures.filtered
