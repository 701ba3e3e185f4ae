use Rattle.kms_json.specs.Replies.{meta_data}
use Rattle.kms_json.proofs.Adding.{adds_none, all_rows, one_more_row}
use Rattle.kms_json.proofs.rows.write_metas.Goals as goal

pub loop-meta-init : goal.loop-meta-init
loop-meta-init c = adds_none c.open_array.new.out

pub loop-meta-preserved : goal.loop-meta-preserved
loop-meta-preserved c =
    one_more_row meta_data c.as_slice-meta-items.result.now c.loop-meta.meta-index c.meta-item.result _ _ _ c.loop-meta-test.true c.meta-item.is c.loop-meta.invariant c.in_ok-write_meta.ensures

pub returns : goal.returns
returns c =
    all_rows meta_data c.as_slice-meta-items.result.now _ c.loop-meta.meta-index _ _ _ _ c.close_array.result c.loop-meta-test.false c.as_slice-meta-items.ensures c.in_ok-open_array.ensures c.loop-meta.invariant c.close_array.ensures
