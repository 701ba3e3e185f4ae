use Rattle.reenc_walk.proofs.Collects.{goes-none}
use Rattle.reenc_walk.proofs.files.next_files.Goals as goal

pub returns-in-None : goal.returns-in-None
returns-in-None c = goes-none c.args.tree.now.rows c.args.zone c.args.cursor.now c.row.result c.rows.ensures.rules c.in-None.is c.row.ensures
