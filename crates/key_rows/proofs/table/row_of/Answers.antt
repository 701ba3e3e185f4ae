use Rattle.std.proofs.Common.{sym, ◌∙◌}
use Rattle.key_rows.proofs.Orders.{named_there}
use Rattle.key_rows.proofs.table.row_of.Goals as goal

pub returns-in-Some : goal.returns-in-Some
returns-in-Some c =
    c.row_at.ensures
    ∙ named_there c.args.rows.now.items c.args.names.now.items c.args.name.now c.in-Some.birth c.requires.rising.0 c.requires.rising.1 c.requires.index (sym c.birth_of.ensures ∙ c.in-Some.is)
