use Rattle.std.proofs.Common.{◌++◌, ◌∙◌, ap}
use Rattle.prop_text.specs.Acls.{IsName}
use Rattle.prop_text.proofs.PartLemmas.{bad_part, first_part}
use Rattle.prop_text.proofs.values.read_parts.Goals as goal

pub returns-in_default : goal.returns-in_default
returns-in_default c =
    let first = c.cut_at_comma.result.0.now in
    let cut = first_part c.parts.rest.now first c.cut_at_comma.result.1 c.cut_at_comma.ensures.cut in
    let bad : ¬ IsName first = rw c.in_default.is at c.in_ok-name.ensures in
    bad_part _ c.parts.names first cut.0 (c.parts.invariant.so_far ∙ ap (λ parts. c.parts.names ++ parts) cut.1) bad
