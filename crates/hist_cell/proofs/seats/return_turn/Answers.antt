use Rattle.hist_cell.proofs.Cuts.{returns}
use Rattle.hist_cell.proofs.seats.return_turn.Goals as goal

pub split_seat-requires : goal.split_seat-requires
split_seat-requires g c = (
  c.requires.seat.0,
  c.requires.seat.1,
  returns g.C.Core.step g.C.Core.allows c.args.word.now.key.value c.args.seat.now.id c.args.seat.now.me.0 c.requires.turn c.requires.held,
)
