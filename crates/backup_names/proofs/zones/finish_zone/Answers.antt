use Rattle.std.proofs.Common.{◌∙◌, Some, sym, subst}
use Rattle.name_calls.specs.Answers.{answer_of}
use Rattle.backup_names.specs.Changes.{ChangesTable, FinishesZone}
use Rattle.backup_names.specs.Ends.{ShowsRefusal}
use Rattle.backup_names.proofs.FinishLemmas.{finish_ended, shows_refusal, zone_fault, zone_makes}
use Rattle.backup_names.proofs.OrderLemmas.{orders_of_logs}
use Rattle.std.specs.Prelude.{IfErr}
use Rattle.file_orders.specs.Ends.{IsFailure}
use Rattle.backup_names.proofs.LookLemmas.{finish_fails}
use Rattle.backup_names.proofs.RefusalLemmas.{finish_caused}
use Rattle.backup_names.proofs.zones.finish_zone.Goals as goal

pub returns-clause-makes : goal.returns-clause-makes
returns-clause-makes g c =
    subst (λ x. ChangesTable x (FinishesZone c.args.id c.args.name.now) c.args.name.now c.finish.new.self) (sym c.finish_end.ensures)
    (finish_ended c.args.name.now c.finish.new.self c.args.id (answer_of (Some c.args.reply)) (FinishesZone c.args.id c.args.name.now) _ c.requires.settled (zone_makes c.args.name.now c.args.id (answer_of (Some c.args.reply))) c.finish.result c.finish.ensures.logged c.finish.ensures.serves).changes

pub returns-clause-orders : goal.returns-clause-orders
returns-clause-orders g c = orders_of_logs _ _ _ _ _ _ c.requires.settled c.finish.ensures.disk

pub returns-clause-refused : goal.returns-clause-refused
returns-clause-refused g c =
    subst (λ x. ShowsRefusal c.args.reply c.args.id c.args.name.now x) (sym c.finish_end.ensures)
    (shows_refusal c.args.name.now c.finish.new.self c.args.id c.args.reply _ c.finish.result c.finish.ensures.logged c.finish.ensures.serves)

pub returns-clause-fault : goal.returns-clause-fault
returns-clause-fault g c = λ is.
    zone_fault c.args.reply _
    ((finish_ended c.args.name.now c.finish.new.self c.args.id (answer_of (Some c.args.reply)) (FinishesZone c.args.id c.args.name.now) _ c.requires.settled (zone_makes c.args.name.now c.args.id (answer_of (Some c.args.reply))) c.finish.result c.finish.ensures.logged c.finish.ensures.serves).why (sym c.finish_end.ensures ∙ is))

pub returns-clause-failure : goal.returns-clause-failure
returns-clause-failure g c = subst (λ x. IfErr x IsFailure) (sym c.finish_end.ensures) (finish_fails c.finish.result)

pub returns-clause-cause : goal.returns-clause-cause
returns-clause-cause g c =
    finish_caused (g.E.Disk.state c.args.disk.now) (g.E.Disk.state c.finish.new.disk) c.args.name.now c.finish.new.self c.args.id (answer_of (Some c.args.reply)) c.finish.result c.finish_end.result c.finish_end.ensures c.finish.ensures
