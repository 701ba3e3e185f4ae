use Rattle.hist_cell.proofs.Unions.{takes}
use Rattle.hist_cell.proofs.seats.take_turn.Goals as goal

pub join_seat-requires : goal.join_seat-requires
join_seat-requires g c = (
  c.requires.seat.0,
  c.requires.turn.0,
  c.requires.turn.1,
  c.requires.seat.1,
  takes g.C.Core.step g.C.Core.allows c.args.word.now.key.value c.args.seat.now.id c.args.turn.id c.args.seat.now.me.0 c.args.turn.me.0 c.requires.alive c.requires.turn.2,
)
