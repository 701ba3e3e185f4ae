use Rattle.std.proofs.Common.{sym, ◌∙◌}
use Rattle.name_core.proofs.RowLemmas.{zone-path, zone-stands}
use Rattle.name_core.proofs.reads.zone_path.Goals as goal

pub path_of-requires : goal.path_of-requires
path_of-requires c = zone-stands c.args.tree.now.rows c.args.path.now c.in-Some.id c.rows.ensures.rules (sym c.in-Some.ensures)

pub returns-in_ok-path_of-in-Some : goal.returns-in_ok-path_of-in-Some
returns-in_ok-path_of-in-Some c =
    sym c.in_ok-path_of-in-Some.ensures ∙ zone-path c.args.tree.now.rows c.args.path.now c.in-Some.id c.rows.ensures.rules (sym c.in-Some.ensures)
