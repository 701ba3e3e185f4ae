use Rattle.std.proofs.Common.{◌≡◌, ◌<◌, get_or, false, sym, ap, subst, ◌∙◌, length, Option, Some, IfSome}
use Rattle.std.proofs.lemmas.List.Elements.{recursion_from_All}
use Rattle.key_rows.specs.declared.rows.KeyRow.{KeyRow}
use Rattle.std.specs.Vec.{vec_capacity}
use Rattle.key_rows.specs.Table.{is_born, find_birth}
use Rattle.key_rows.proofs.Orders.{row_found, first_at, is_born_at}
use Rattle.key_rows.proofs.Rolls.{rolled_with, rolled_nowhere}
use Rattle.key_rows.proofs.table.roll.Goals as goal

pub returns-in_ok-push_in-in-Some-clause-ok : goal.returns-in_ok-push_in-in-Some-clause-ok
returns-in_ok-push_in-in-Some-clause-ok c =
    let rows = c.args.rows.now.items in
    let row = c.index_mut-row.result.now in
    let within = c.in-Some.ensures.place.0 in
    let here = c.in-Some.ensures.place.1 row in
    rolled_with c.args.birth c.args.material rows c.requires.rising.0 c.in-Some.place row _ c.requires.rising.1 within c.index_mut-row.ensures.value (is_born_at c.args.birth (get_or rows c.in-Some.place row) here)
    (first_at 0 rows c.requires.rising.0 c.args.birth c.in-Some.place row c.requires.rising.1 within here) c.in_ok-push_in-in-Some.ensures.ok

pub returns-in-None-clause-ok : goal.returns-in-None-clause-ok
returns-in-None-clause-ok c = sym (rolled_nowhere c.args.birth c.args.material c.args.rows.now.items (recursion_from_All (λ (row : KeyRow). is_born c.args.birth row ≡ false) _ c.in-None.ensures.none))

pub returns-in_err-push_in-in-Some-clause-room : goal.returns-in_err-push_in-in-Some-clause-room
returns-in_err-push_in-in-Some-clause-room c room =
    let rows = c.args.rows.now.items in
    let row = c.index_mut-row.result.now in
    let at : find_birth rows c.args.birth ≡ Some row =
    row_found 0 rows c.requires.rising.0 c.args.birth c.in-Some.place row c.requires.rising.1 c.in-Some.ensures.place.0 (c.in-Some.ensures.place.1 row) ∙ ap (λ (r : KeyRow). Some r) (sym c.index_mut-row.ensures.value) in
    let no = c.in_err-push_in-in-Some.ensures.room (subst (λ (o : Option KeyRow). IfSome o (λ r. length r.materials < vec_capacity c.args.buffer)) at room) in
    absurd cc
