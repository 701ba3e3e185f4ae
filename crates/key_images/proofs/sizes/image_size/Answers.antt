use Rattle.std.proofs.Common.{◌+◌, ◌∙◌, ap, length, ◌<◌, List, arith}
use Rattle.std.proofs.lemmas.List.{take_all}
use Rattle.key_index.specs.declared.rows.PlacedRow.{PlacedRow}
use Rattle.key_images.specs.Sizes.{row_len, rows_len}
use Rattle.key_images.proofs.Lengths.{rows_len_take}
use Rattle.key_images.proofs.Spelled.{counted, no_row}
use Rattle.key_images.proofs.sizes.image_size.Goals as goal

pub row-requires : goal.row-requires
row-requires c = omega (arith, counted c.args.index.now.index c.count-number-end.result c.count-number-end.ensures, c.loop-number-test.true, c.loop-number.auto.number-end)

pub loop-number-preserved : goal.loop-number-preserved
loop-number-preserved c =
    let rows = c.args.index.now.index.rows in
    let within : c.loop-number.number < length rows = omega (arith, counted c.args.index.now.index c.count-number-end.result c.count-number-end.ensures, c.loop-number-test.true, c.loop-number.auto.number-end) in
    let row = ap row_len (c.row.ensures.row no_row) in
    let sum = rows_len_take rows c.loop-number.number no_row within in
    record {
      sum = omega (arith, c.row_size-more.ensures.size, row, sum, c.loop-number.invariant.sum);
      small = omega (arith, c.row_size-more.ensures.small c.row.ensures.rules, c.loop-number.invariant.small);
    }

pub returns-clause-size : goal.returns-clause-size
returns-clause-size c =
    let rows = c.args.index.now.index.rows in
    let all = take_all c.loop-number.number rows (omega (arith, counted c.args.index.now.index c.count-number-end.result c.count-number-end.ensures, c.loop-number-test.false, c.loop-number.auto.number-end)) in
    c.loop-number.invariant.sum ∙ ap (λ (l : List PlacedRow). 16 + rows_len l) all
