use Rattle.std.proofs.Common.{◌∙◌, sym, subst}
use Rattle.name_calls.specs.declared.calls.KeyAnswer.TheVariants as answer
use Rattle.backup_names.specs.Changes.{ChangesTable, FinishesFile}
use Rattle.backup_names.proofs.FinishLemmas.{file_makes, finish_ended, given_only}
use Rattle.backup_names.proofs.OrderLemmas.{orders_of_logs}
use Rattle.std.specs.Prelude.{IfErr}
use Rattle.file_orders.specs.Ends.{IsFailure}
use Rattle.backup_names.proofs.LookLemmas.{finish_fails}
use Rattle.backup_names.proofs.RefusalLemmas.{finish_caused}
use Rattle.backup_names.proofs.files.finish_file.Goals as goal

pub returns-clause-makes : goal.returns-clause-makes
returns-clause-makes g c =
    subst (λ x. ChangesTable x (FinishesFile c.args.id c.args.edek c.args.name.now) c.args.name.now c.finish_with.new.self) (sym c.finish_end.ensures)
    (finish_ended c.args.name.now c.finish_with.new.self c.args.id (answer.Given c.args.edek) (FinishesFile c.args.id c.args.edek c.args.name.now) _ c.requires.settled (file_makes c.args.name.now c.args.id c.args.edek) c.finish_with.result c.finish_with.ensures.logged c.finish_with.ensures.serves).changes

pub returns-clause-orders : goal.returns-clause-orders
returns-clause-orders g c = orders_of_logs _ _ _ _ _ _ c.requires.settled c.finish_with.ensures.disk

pub returns-clause-fault : goal.returns-clause-fault
returns-clause-fault g c = λ is.
    given_only c.args.edek _
    ((finish_ended c.args.name.now c.finish_with.new.self c.args.id (answer.Given c.args.edek) (FinishesFile c.args.id c.args.edek c.args.name.now) _ c.requires.settled (file_makes c.args.name.now c.args.id c.args.edek) c.finish_with.result c.finish_with.ensures.logged c.finish_with.ensures.serves).why (sym c.finish_end.ensures ∙ is))

pub returns-clause-failure : goal.returns-clause-failure
returns-clause-failure g c = subst (λ x. IfErr x IsFailure) (sym c.finish_end.ensures) (finish_fails c.finish_with.result)

pub returns-clause-cause : goal.returns-clause-cause
returns-clause-cause g c =
    finish_caused (g.E.Disk.state c.args.disk.now) (g.E.Disk.state c.finish_with.new.disk) c.args.name.now c.finish_with.new.self c.args.id (answer.Given c.args.edek) c.finish_with.result c.finish_end.result c.finish_end.ensures c.finish_with.ensures
