use Rattle.std.proofs.Common.{ap, inl, refl, sym, subst}
use Rattle.backup_names.specs.Changes.{ChangesTable, MakesDirectory}
use Rattle.backup_names.specs.Ends.{change_end}
use Rattle.backup_names.proofs.MakeLemmas.{directory_ended}
use Rattle.backup_names.proofs.OrderLemmas.{no_orders, orders_of_logs}
use Rattle.std.specs.Prelude.{IfErr}
use Rattle.file_orders.specs.Ends.{IsFailure}
use Rattle.backup_names.proofs.LookLemmas.{change_fails}
use Rattle.name_calls.specs.declared.calls.NameCall.TheVariants as call
use Rattle.backup_names.proofs.RefusalLemmas.{change_caused}
use Rattle.backup_names.proofs.directories.make_directory.Goals as goal

pub returns-in-Err-clause-orders : goal.returns-in-Err-clause-orders
returns-in-Err-clause-orders g c = no_orders _ _

pub returns-clause-makes : goal.returns-clause-makes
returns-clause-makes g c =
    let ended = directory_ended c.args.name.now c.act-reply.new.self c.args.user.now c.in-Ok.path _ c.act-reply.result c.act-reply.ensures.logged c.invariants.ensures.names c.requires.settled c.act-reply.ensures.serves in
    subst (λ x. ChangesTable x (MakesDirectory c.args.path.now) c.args.name.now c.act-reply.new.self) (sym c.change_end.ensures)
    (subst (λ p. ChangesTable (change_end c.act-reply.result) (MakesDirectory p) c.args.name.now c.act-reply.new.self) c.in-Ok.ensures ended.changes)

pub returns-clause-orders : goal.returns-clause-orders
returns-clause-orders g c = orders_of_logs _ _ _ _ _ _ c.requires.settled c.act-reply.ensures.disk

pub returns-clause-failure : goal.returns-clause-failure
returns-clause-failure g c = subst (λ x. IfErr x IsFailure) (sym c.change_end.ensures) (change_fails c.act-reply.result)

pub returns-in-Err-clause-cause : goal.returns-in-Err-clause-cause
returns-in-Err-clause-cause g c = inl refl

pub returns-clause-cause : goal.returns-clause-cause
returns-clause-cause g c =
    change_caused (g.E.Disk.state c.args.disk.now) (g.E.Disk.state c.act-reply.new.disk) c.args.name.now c.act-reply.new.self c.args.user.now (call.Mkdir c.in-Ok.path) (call.Mkdir c.args.path.now) (ap call.Mkdir c.in-Ok.ensures) c.act-reply.result c.change_end.result c.change_end.ensures c.act-reply.ensures
