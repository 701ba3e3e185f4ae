use Rattle.std.proofs.Common.{◌∙◌}
use Rattle.hist_cell.proofs.Commits.{commits}
use Rattle.hist_cell.proofs.seats.commit.Goals as goal

pub fetch_add-requires : goal.fetch_add-requires
fetch_add-requires g c =
    let me = c.args.seat.now.me in
    let said = c.requires.said in (
      c.requires.seat.0,
      c.requires.seat.1,
      commits g.C.Core.step g.C.Core.allows c.args.word.now.key.value c.args.word.now.table_id.slots c.args.seat.now.id me.0 g.W.AddsEntry.entry me.1 said.0 said.1
          c.requires.turn.0 c.requires.turn.1 said.2 said.3,
    )

pub returns-clause-seat : goal.returns-clause-seat
returns-clause-seat g c =
    let done = c.fetch_add.ensures in
    (done.0, done.1, done.2.1 ∙ c.requires.seat.2)
