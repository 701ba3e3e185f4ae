use Rattle.inode_tree.proofs.MovedLaws.{entry-renamed, row-renamed, rows-renamed}
use Rattle.inode_tree.proofs.laws.rows_move_together.Goals as goal

pub returns-clause-moves : goal.returns-clause-moves
returns-clause-moves c rows p q r is can = row-renamed rows p q is can r

pub returns-clause-ids : goal.returns-clause-ids
returns-clause-ids c rows p q id is can = entry-renamed rows p q is can id

pub returns-clause-rules : goal.returns-clause-rules
returns-clause-rules c = rows-renamed
