use Rattle.std.proofs.Common.{rules, Ok, Err}
use Rattle.std.proofs.lemmas.List.Sorted.{answers_always}
use Rattle.key_rows.specs.declared.rows.KeyRow.{KeyRow}
use Rattle.key_rows.proofs.Orders.{birth_searched}
use Rattle.key_rows.proofs.table.place_of.Goals as goal

pub returns-in-Err : goal.returns-in-Err
returns-in-Err c =
    let by_birth = c.in-Err.ensures.position (λ (row : KeyRow). row.birth) (answers_always _ _ _ (λ f a r g called. search rules)) in
    record { place = tt; none = birth_searched 0 c.args.rows.now.items c.requires.0 c.args.birth (Err c.in-Err.field-0) c.requires.1 (rw c.deref.ensures.value at by_birth) }

pub returns-in-Ok : goal.returns-in-Ok
returns-in-Ok c =
    let by_birth = c.in-Ok.ensures.position (λ (row : KeyRow). row.birth) (answers_always _ _ _ (λ f a r g called. search rules)) in
    record { place = (rw c.deref.ensures.value at c.in-Ok.ensures.bound, birth_searched 0 c.args.rows.now.items c.requires.0 c.args.birth (Ok c.in-Ok.place) c.requires.1 (rw c.deref.ensures.value at by_birth)); none = tt }
