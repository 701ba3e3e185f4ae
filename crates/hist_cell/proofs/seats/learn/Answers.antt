use Rattle.hist_cell.proofs.Commits.{learns}
use Rattle.hist_cell.proofs.seats.learn.Goals as goal

pub load-requires : goal.load-requires
load-requires g c = (
  c.requires.seat.0,
  c.requires.seat.1,
  learns g.C.Core.step g.C.Core.allows c.args.word.now.key.value c.args.word.now.table_id.slots c.args.seat.now.id c.args.seat.now.me.0 c.args.seat.now.me.1,
)
