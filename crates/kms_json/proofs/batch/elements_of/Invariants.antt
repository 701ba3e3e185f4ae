use Rattle.std.proofs.Common.{◌≡◌}
use Rattle.serde_json.specs.View.{items_view}
use Rattle.kms_json.specs.Bodies.{elements_of}
use Rattle.kms_json.proofs.Elements.{behind, from_place}
use Rattle.kms_json.proofs.batch.elements_of.Given as goal

abbrev pub invariant-loop-item : goal.invariant-loop-item
invariant-loop-item l = elements_of (items_view l.items.items) ≡ behind l.sent (from_place l.item-items l.item-index)
