use Rattle.std.proofs.Common.{◌∙◌, sym}
use Rattle.std.specs.List.{slice_split}
use Rattle.std.proofs.lemmas.List.Elements.{All-same}
use Rattle.prop_text.specs.Acls.{IsName, is_comma}
use Rattle.prop_text.proofs.PartLemmas.{listed_parts}
use Rattle.prop_text.proofs.values.read_names.Goals as goal

pub returns-in_default : goal.returns-in_default
returns-in_default c = λ names spelled.
    let bad = rw c.in_default.is at c.in_ok-names.ensures in
    bad (All-same IsName (slice_split is_comma c.args.bytes.now) names (sym (listed_parts c.args.bytes.now (sym c.if-is_empty.ensures)) ∙ spelled.parts) spelled.each)
