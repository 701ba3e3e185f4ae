use Rattle.kms_json.specs.Replies.{edek_data}
use Rattle.kms_json.proofs.Adding.{adds_none, all_rows, one_more_row}
use Rattle.kms_json.proofs.rows.write_edeks.Goals as goal

pub loop-edek-init : goal.loop-edek-init
loop-edek-init c = adds_none c.open_array.new.out

pub loop-edek-preserved : goal.loop-edek-preserved
loop-edek-preserved c =
    one_more_row edek_data c.as_slice-edek-items.result.now c.loop-edek.edek-index c.edek-item.result _ _ _ c.loop-edek-test.true c.edek-item.is c.loop-edek.invariant c.in_ok-write_edek.ensures

pub returns : goal.returns
returns c =
    all_rows edek_data c.as_slice-edek-items.result.now _ c.loop-edek.edek-index _ _ _ _ c.close_array.result c.loop-edek-test.false c.as_slice-edek-items.ensures c.in_ok-open_array.ensures c.loop-edek.invariant c.close_array.ensures
