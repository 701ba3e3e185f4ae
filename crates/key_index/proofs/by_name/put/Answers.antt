use Rattle.std.proofs.Common.{sym, ◌∙◌, ap, subst, List}
use Rattle.key_rows.specs.declared.by_name.NamedBirth.{NamedBirth}
use Rattle.key_rows.specs.Names.{AreInNameOrder, names_of, birth_in}
use Rattle.key_rows.proofs.Orders.{found_in, order_put, birth_put}
use Rattle.key_index.proofs.by_name.put.Goals as goal

pub unreachable-requires : goal.unreachable-requires
unreachable-requires c =
    let entry : NamedBirth = record { name = c.args.name; birth = 0 } in
    let no = sym c.requires.absent ∙ found_in c.args.entries.now.items c.args.name c.in-Ok.field-0 entry c.requires.order c.in-Ok.ensures.bound (c.in-Ok.ensures.place entry) in
    absurd cc

pub returns-clause-order : goal.returns-clause-order
returns-clause-order c =
    let new : NamedBirth = record { name = c.args.name; birth = c.args.birth } in
    subst (λ (es : List NamedBirth). AreInNameOrder (names_of es)) (sym c.in_ok-insert-in-Err.ensures.items) (order_put c.args.entries.now.items c.in-Err.place new c.in-Err.ensures.bound c.requires.order c.in-Err.ensures.place)

pub returns-clause-ok : goal.returns-clause-ok
returns-clause-ok c =
    let new : NamedBirth = record { name = c.args.name; birth = c.args.birth } in
    λ other. ap (λ (es : List NamedBirth). birth_in es other) c.in_ok-insert-in-Err.ensures.items ∙ birth_put c.args.entries.now.items c.in-Err.place new other c.in-Err.ensures.place
