use Rattle.std.proofs.Common.{◌≡◌, Ok, rules}
use Rattle.serde_json.specs.View.{view}
use Rattle.kms_json.specs.Bodies.{element_of}
use Rattle.kms_json.proofs.Elements.{none_read, one_more}
use Rattle.kms_json.proofs.batch.elements_of.Goals as goal

pub loop-item-init : goal.loop-item-init
loop-item-init c = search (rules, none_read)

pub loop-item-preserved : goal.loop-item-preserved
loop-item-preserved c =
    let element : element_of (view c.item-item.result) ≡ Ok c.in_ok-edek.edek = search rules in
    let more = one_more c.deref-item-items.result.now c.loop-item.item-index c.item-item.result c.loop-item.sent c.in_ok-edek.edek _ c.loop-item-test.true c.item-item.is element c.loop-item.invariant in
    search (rules, more)
