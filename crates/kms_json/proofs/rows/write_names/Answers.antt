use Rattle.serde_json.specs.Data.{string}
use Rattle.kms_json.proofs.Adding.{adds_none, all_rows, one_more_row}
use Rattle.kms_json.proofs.rows.write_names.Goals as goal

pub loop-name-init : goal.loop-name-init
loop-name-init c = adds_none c.open_array.new.out

pub loop-name-preserved : goal.loop-name-preserved
loop-name-preserved c =
    one_more_row string c.as_slice-name-items.result.now c.loop-name.name-index c.name-item.result _ _ _ c.loop-name-test.true c.name-item.is c.loop-name.invariant c.in_ok-write_name.ensures

pub returns : goal.returns
returns c =
    all_rows string c.as_slice-name-items.result.now _ c.loop-name.name-index _ _ _ _ c.close_array.result c.loop-name-test.false c.as_slice-name-items.ensures c.in_ok-open_array.ensures c.loop-name.invariant c.close_array.ensures
