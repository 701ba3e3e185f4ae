use Rattle.std.proofs.Common.{sym, ap, Some, ◌∙◌}
use Rattle.key_rows.specs.declared.by_name.NamedBirth.{NamedBirth}
use Rattle.key_rows.proofs.Orders.{found_in, missing_in}
use Rattle.key_index.proofs.by_name.birth_of.Goals as goal

pub returns-in-Err : goal.returns-in-Err
returns-in-Err c = sym (missing_in c.args.entries.now.items c.args.name.now c.in-Err.field-0 c.in-Err.ensures.place)

pub returns-in-Ok : goal.returns-in-Ok
returns-in-Ok c =
    let entry = c.index.result.now in
    ap Some c.birth_in_entry.ensures
    ∙ ap (λ (e : NamedBirth). Some e.birth) c.index.ensures
    ∙ sym (found_in c.args.entries.now.items c.args.name.now c.in-Ok.place entry c.requires c.in-Ok.ensures.bound (c.in-Ok.ensures.place entry))
