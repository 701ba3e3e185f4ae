use Rattle.std.proofs.Common.{ap, inl, refl, sym, subst}
use Rattle.std.specs.Prelude.{IfErr}
use Rattle.file_orders.specs.Ends.{IsFailure}
use Rattle.backup_names.proofs.LookLemmas.{row_fails}
use Rattle.backup_names.proofs.OrderLemmas.{no_orders, orders_of_logs}
use Rattle.backup_names.specs.Refusals.{info_at}
use Rattle.backup_names.proofs.RefusalLemmas.{row_caused}
use Rattle.backup_names.proofs.looks.look.Goals as goal

pub returns-in-Err-clause-orders : goal.returns-in-Err-clause-orders
returns-in-Err-clause-orders g c = no_orders _ _

pub returns-clause-orders : goal.returns-clause-orders
returns-clause-orders g c = orders_of_logs _ _ _ _ _ _ c.requires.settled c.act-reply.ensures.disk

pub returns-clause-failure : goal.returns-clause-failure
returns-clause-failure g c = subst (λ x. IfErr x IsFailure) (sym c.row_end.ensures) (row_fails c.act-reply.result)

pub returns-in-Err-clause-cause : goal.returns-in-Err-clause-cause
returns-in-Err-clause-cause g c = inl refl

pub returns-clause-cause : goal.returns-clause-cause
returns-clause-cause g c =
    row_caused (g.E.Disk.state c.args.disk.now) (g.E.Disk.state c.act-reply.new.disk) c.args.name.now c.act-reply.new.self c.args.user.now (info_at c.in-Ok.path) (info_at c.args.path.now) (ap info_at c.in-Ok.ensures) c.act-reply.result c.row_end.result c.row_end.ensures c.act-reply.ensures
