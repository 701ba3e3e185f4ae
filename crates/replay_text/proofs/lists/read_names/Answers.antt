use Rattle.std.proofs.Common.{◌++◌, ◌∙◌, ap}
use Rattle.hk_base.specs.Names.{IsKeyName}
use Rattle.replay_text.proofs.ListLemmas.{bad_part, first_part}
use Rattle.replay_text.proofs.lists.read_names.Goals as goal

pub returns-in_default : goal.returns-in_default
returns-in_default c =
    let first = c.cut_at_comma.result.0.now in
    let cut = first_part c.parts.rest.now first c.cut_at_comma.result.1 c.cut_at_comma.ensures.cut in
    let bad : ¬ IsKeyName first = rw c.in_default.is at c.read.ensures in
    bad_part _ c.parts.names first cut.0 (c.parts.invariant.so_far ∙ ap (λ parts. c.parts.names ++ parts) cut.1) bad
