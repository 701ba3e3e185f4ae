use Rattle.std.proofs.Common.{◌≡◌, ℕ, List, take}
use Rattle.prop_text.specs.Properties.{is_among}
use Rattle.kms_acls.proofs.members.set_of.Given as goal

abbrev pub invariant-loop-text : goal.invariant-loop-text
invariant-loop-text l = (name : List ℕ) → is_among name l.names ≡ is_among name (take l.text-index l.text-items)
