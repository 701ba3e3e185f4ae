use Rattle.replay_text.specs.Events.{is_colon}
use Rattle.replay_text.proofs.FieldLemmas.{never_empty}
use Rattle.replay_text.proofs.lists.without_colon.Goals as goal

pub returns-in-Some : goal.returns-in-Some
returns-in-Some c = λ part is.
    let cut = rw c.in-Some.is at c.cut_at_colon.ensures in
    never_empty is_colon c.in-Some.field-0.now cc
