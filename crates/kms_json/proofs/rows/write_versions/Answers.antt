use Rattle.std.proofs.Common.{subst}
use Rattle.kms_calls.specs.Shown.{Shown}
use Rattle.kms_json.specs.Replies.{row_data}
use Rattle.kms_json.specs.Writing.{AddsData}
use Rattle.kms_json.proofs.Adding.{adds_none, all_rows, one_more_row}
use Rattle.kms_json.proofs.rows.write_versions.Goals as goal

pub loop-row-init : goal.loop-row-init
loop-row-init c = adds_none c.open_array.new.out

pub loop-row-preserved : goal.loop-row-preserved
loop-row-preserved c =
    let added = subst (λ (r : Shown). AddsData (row_data r) c.loop-row.out c.write_shown.new.out) c.row.view_is c.in_ok-write_shown.ensures in
    one_more_row row_data c.as_slice-row-items.result.now c.loop-row.row-index c.row-item.result _ _ _ c.loop-row-test.true c.row-item.is c.loop-row.invariant added

pub returns : goal.returns
returns c =
    all_rows row_data c.as_slice-row-items.result.now _ c.loop-row.row-index _ _ _ _ c.close_array.result c.loop-row-test.false c.as_slice-row-items.ensures c.in_ok-open_array.ensures c.loop-row.invariant c.close_array.ensures
