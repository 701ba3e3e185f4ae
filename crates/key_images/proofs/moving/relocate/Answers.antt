use Rattle.std.proofs.Common.{◌^◌, arith}
use Rattle.key_images.proofs.Lengths.{table_of_length}
use Rattle.key_images.proofs.Moves.{ends, moved_all, moved_next, moved_none, now_within}
use Rattle.key_images.proofs.Spelled.{counted}
use Rattle.key_images.proofs.moving.relocate.Goals as goal

pub overflow_add-place : goal.overflow_add-place
overflow_add-place c =
    let x = c.args.index.now.index in
    omega (arith, c.requires.end.2, table_of_length c.requires.end.0 x c.opening.ensures.sound c.requires.end.1)

pub loop-number-init : goal.loop-number-init
loop-number-init c = moved_none c.args.index.now.index c.args.at

pub move_row-end-requires-clause-number : goal.move_row-end-requires-clause-number
move_row-end-requires-clause-number c =
    let x = c.args.index.now.index in
    now_within x c.args.at c.loop-number.number c.loop-number.place c.loop-number.index.index c.loop-number.invariant (omega (arith, counted x c.count-number-end.result c.count-number-end.ensures, c.loop-number-test.true, c.loop-number.auto.number-end))

pub move_row-end-requires-clause-end : goal.move_row-end-requires-clause-end
move_row-end-requires-clause-end c =
    let x = c.args.index.now.index in
    ends x c.args.at c.loop-number.number c.loop-number.place c.loop-number.index.index c.loop-number.invariant (omega (arith, counted x c.count-number-end.result c.count-number-end.ensures, c.loop-number-test.true, c.loop-number.auto.number-end)) (2 ^ 62)
    (omega (arith, c.requires.end.2, table_of_length c.requires.end.0 x c.opening.ensures.sound c.requires.end.1))

pub loop-number-preserved : goal.loop-number-preserved
loop-number-preserved c =
    let x = c.args.index.now.index in
    moved_next x c.args.at c.loop-number.number c.loop-number.place c.loop-number.index.index c.loop-number.invariant (omega (arith, counted x c.count-number-end.result c.count-number-end.ensures, c.loop-number-test.true, c.loop-number.auto.number-end))
    c.move_row-end.result c.move_row-end.new.index.index c.move_row-end.ensures.end c.move_row-end.ensures.moved

pub returns : goal.returns
returns c m sized =
    let x = c.args.index.now.index in
    moved_all x c.args.at c.loop-number.number c.loop-number.place c.loop-number.index.index m c.loop-number.invariant (omega (arith, counted x c.count-number-end.result c.count-number-end.ensures, c.loop-number-test.false, c.loop-number.auto.number-end)) c.opening.ensures.sound sized
