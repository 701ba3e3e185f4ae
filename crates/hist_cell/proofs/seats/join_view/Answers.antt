use Rattle.hist_cell.proofs.Unions.{unites}
use Rattle.hist_cell.proofs.seats.join_view.Goals as goal

pub join_seat-requires : goal.join_seat-requires
join_seat-requires g c = (
  c.requires.seat.0,
  c.requires.other.0,
  c.requires.other.1,
  c.requires.seat.1,
  unites g.C.Core.step g.C.Core.allows c.args.word.now.key.value c.args.seat.now.id c.args.other.id c.args.seat.now.me.0 c.args.other.me.0 c.requires.alive.0 c.requires.alive.1,
)
