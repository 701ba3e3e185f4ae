use Rattle.hist_cell.proofs.Cuts.{gives}
use Rattle.hist_cell.proofs.seats.give_turn.Goals as goal

pub split_seat-requires : goal.split_seat-requires
split_seat-requires g c = (
  c.requires.seat.0,
  c.requires.seat.1,
  gives g.C.Core.step g.C.Core.allows c.args.word.now.key.value c.args.seat.now.id c.args.seat.now.me.0 c.requires.turn,
)
