use Rattle.prop_text.specs.Acls.{is_space}
use Rattle.prop_text.proofs.CutLemmas.{never_empty}
use Rattle.prop_text.proofs.cuts.without_space.Goals as goal

pub returns-in-Some : goal.returns-in-Some
returns-in-Some c = λ part is.
    let cut = rw c.in-Some.is at c.cut_at_space.ensures in
    never_empty is_space c.in-Some.field-0.now cc
