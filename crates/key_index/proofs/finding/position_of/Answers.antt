use Rattle.std.proofs.Common.{rules, Ok, Err}
use Rattle.std.proofs.lemmas.List.Sorted.{answers_always}
use Rattle.key_index.specs.declared.rows.PlacedRow.{PlacedRow}
use Rattle.key_index.proofs.Searches.{birth_searched, nothing}
use Rattle.key_index.proofs.finding.position_of.Goals as goal

pub returns-in-Err : goal.returns-in-Err
returns-in-Err c =
    let by_birth = c.in-Err.ensures.position (λ (placed : PlacedRow). placed.row.birth) (answers_always _ _ _ (λ f a r g called. search rules)) in
    record { place = tt; none = birth_searched nothing 0 c.args.rows.now.items c.requires.0 c.args.birth (Err c.in-Err.field-0) (c.requires.1 nothing) (rw c.deref.ensures.value at by_birth) }

pub returns-in-Ok : goal.returns-in-Ok
returns-in-Ok c =
    let by_birth = c.in-Ok.ensures.position (λ (placed : PlacedRow). placed.row.birth) (answers_always _ _ _ (λ f a r g called. search rules)) in
    record { place = (rw c.deref.ensures.value at c.in-Ok.ensures.bound, birth_searched nothing 0 c.args.rows.now.items c.requires.0 c.args.birth (Ok c.in-Ok.place) (c.requires.1 nothing) (rw c.deref.ensures.value at by_birth)); none = tt }
