use Rattle.std.proofs.Common.{sym, ◌∙◌}
use Rattle.name_calls.specs.Paths.{parent}
use Rattle.name_core.proofs.RowLemmas.{zone-path, zone-stands}
use Rattle.name_core.proofs.SnapshotZones.{over-parent}
use Rattle.name_core.proofs.reads.zone_over.Goals as goal

pub path_of-requires : goal.path_of-requires
path_of-requires c = zone-stands c.args.tree.now.rows (parent c.args.path.now) c.in-Some.id c.rows.ensures.rules (sym c.in-Some.ensures)

pub returns-in_ok-path_of-in-Some : goal.returns-in_ok-path_of-in-Some
returns-in_ok-path_of-in-Some c =
    sym c.in_ok-path_of-in-Some.ensures
    ∙ zone-path c.args.tree.now.rows (parent c.args.path.now) c.in-Some.id c.rows.ensures.rules (sym c.in-Some.ensures)
    ∙ sym (over-parent c.args.tree.now.rows c.args.path.now (λ root. cc (c.if-is_root.false, c.is_root.ensures.1 root)))
