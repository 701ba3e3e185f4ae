use Rattle.replay_text.specs.Events.{is_space}
use Rattle.replay_text.proofs.FieldLemmas.{never_empty}
use Rattle.replay_text.proofs.fields.only_field.Goals as goal

pub returns-in-Some : goal.returns-in-Some
returns-in-Some c = λ field is.
    let cut = rw c.in-Some.is at c.cut.ensures in
    never_empty is_space c.in-Some.field-0.now cc
