use Rattle.std.proofs.Common.{◌<◌, length, arith}
use Rattle.reenc_walk.proofs.Collects.{walk-all, walk-full, walk-more, walk-past, walk-start}
use Rattle.reenc_walk.proofs.files.find.Goals as goal
use Rattle.reenc_walk.proofs.files.find.Goals.{then-walk-test+then-len-size+else-place_is_below, then-walk-test+else-len-size, else-walk-test}

pub walk-init : goal.walk-init
walk-init c = walk-start c.args.tree.now.rows c.args.zone c.args.cursor.now c.args.dir.now c.args.size c.rows-rows.ensures.rules c.requires.dir c.in_ok-at.at 0 c.new.result.items c.new.ensures.items c.in_ok-at.ensures

pub walk-preserved : goal.walk-preserved
walk-preserved c =
    let few : length c.walk.found.sent.items < c.args.size = omega (arith, c.if-len-size.true, c.len.ensures, c.walk.found.sent.ok) in
    let within : c.walk.at < length c.args.tree.now.rows = omega (arith, c.walk-test.true, c.rows-rows.ensures.count) in
    walk-more c.args.tree.now.rows c.args.zone c.args.cursor.now c.args.dir.now c.args.size c.rows-rows.ensures.rules c.requires.dir c.walk.at c.walk.found.last c.add_row.new.found.last c.walk.found.sent.items c.add_row.new.found.sent.items
    c.walk.invariant few within c.in_ok-add_row.ensures.sent c.in_ok-add_row.ensures.last

pub returns : goal.returns
returns c = elim c.walk-test.branch [
  | then-walk-test+then-len-size+else-place_is_below w ↦ (
      walk-past c.args.tree.now.rows c.args.zone c.args.cursor.now c.args.dir.now c.args.size c.rows-rows.ensures.rules c.requires.dir c.walk.at c.walk.found.last c.walk.found.sent.items w.place_is_below.result c.walk.invariant
      (omega (arith, w.walk-test.true, c.rows-rows.ensures.count)) w.place_is_below.ensures w.if-place_is_below.false)
  | then-walk-test+else-len-size w ↦ (
      walk-full c.args.tree.now.rows c.args.zone c.args.cursor.now c.args.dir.now c.args.size c.rows-rows.ensures.rules c.requires.dir c.walk.at c.walk.found.last c.walk.found.sent.items c.walk.invariant
      (omega (arith, w.if-len-size.false, w.len.ensures, c.walk.found.sent.ok)))
  | else-walk-test w ↦ (
      walk-all c.args.tree.now.rows c.args.zone c.args.cursor.now c.args.dir.now c.args.size c.rows-rows.ensures.rules c.requires.dir c.walk.at c.walk.found.last c.walk.found.sent.items c.walk.invariant
      (omega (arith, w.walk-test.false, c.rows-rows.ensures.count)))
]
