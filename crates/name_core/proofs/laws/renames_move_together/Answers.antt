use Rattle.name_core.proofs.RenameLaws.{others_keep_zone, renamed_has_moved, renamed_keeps_rows, renamed_keeps_snapshots, renamed_keeps_zone}
use Rattle.name_core.proofs.laws.renames_move_together.Goals as goal

pub returns-clause-moves : goal.returns-clause-moves
returns-clause-moves c = renamed_has_moved

pub returns-clause-ids : goal.returns-clause-ids
returns-clause-ids c = renamed_keeps_rows

pub returns-clause-zones : goal.returns-clause-zones
returns-clause-zones c = renamed_keeps_zone

pub returns-clause-others : goal.returns-clause-others
returns-clause-others c = others_keep_zone

pub returns-clause-snapshots : goal.returns-clause-snapshots
returns-clause-snapshots c = renamed_keeps_snapshots
