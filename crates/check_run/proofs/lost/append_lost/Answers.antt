use Rattle.check_run.proofs.RowLemmas.{lines_more}
use Rattle.check_run.proofs.lost.append_lost.Goals as goal

pub loop-at-preserved : goal.loop-at-preserved
loop-at-preserved c =
    lines_more c.args.keys.now.table.keys.rows c.args.tree.now.rows c.loop-at.at c.args.text.now c.loop-at.text c.append_at.new.text c.loop-at.invariant c.in_ok-append_at.ensures
