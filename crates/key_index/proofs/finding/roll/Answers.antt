use Rattle.std.proofs.Common.{◌≡◌, ◌<◌, false, get_or, sym, ap, subst, ◌∙◌, length, find, Option, Some, IfSome}
use Rattle.std.proofs.lemmas.Bool.Decides.{Decides-eqb}
use Rattle.std.proofs.lemmas.List.Elements.{recursion_from_All}
use Rattle.std.specs.Vec.{vec_capacity}
use Rattle.key_index.specs.declared.rows.PlacedRow.{PlacedRow}
use Rattle.key_index.specs.Index.{is_born}
use Rattle.key_index.proofs.Searches.{first_at, nothing, rolled_nowhere, rolled_with, row_found}
use Rattle.key_index.proofs.finding.roll.Goals as goal

pub returns-in_ok-push_in-in-Some-clause-ok : goal.returns-in_ok-push_in-in-Some-clause-ok
returns-in_ok-push_in-in-Some-clause-ok c =
    let rows = c.args.rows.now.items in
    let placed = c.index_mut-placed.result.now in
    let within = c.in-Some.ensures.place.0 in
    let here = c.in-Some.ensures.place.1 placed in
    rolled_with nothing c.args.birth c.args.material c.args.place rows c.requires.rising.0 c.in-Some.at placed _ (c.requires.rising.1 nothing) within c.index_mut-placed.ensures.value ((Decides-eqb (get_or rows c.in-Some.at placed).row.birth c.args.birth).1 here)
    (first_at nothing 0 rows c.requires.rising.0 c.args.birth c.in-Some.at placed (c.requires.rising.1 nothing) within here) c.in_ok-push_in-in-Some.ensures.ok

pub returns-in-None-clause-ok : goal.returns-in-None-clause-ok
returns-in-None-clause-ok c = sym (rolled_nowhere c.args.birth c.args.material c.args.place c.args.rows.now.items (recursion_from_All (λ (placed : PlacedRow). is_born c.args.birth placed ≡ false) _ c.in-None.ensures.none))

pub returns-in_err-push_in-in-Some-clause-room : goal.returns-in_err-push_in-in-Some-clause-room
returns-in_err-push_in-in-Some-clause-room c room =
    let rows = c.args.rows.now.items in
    let placed = c.index_mut-placed.result.now in
    let at : find (is_born c.args.birth) rows ≡ Some placed =
    row_found nothing 0 rows c.requires.rising.0 c.args.birth c.in-Some.at placed (c.requires.rising.1 nothing) c.in-Some.ensures.place.0 (c.in-Some.ensures.place.1 placed) ∙ ap (λ (p : PlacedRow). Some p) (sym c.index_mut-placed.ensures.value) in
    let no = c.in_err-push_in-in-Some.ensures.room (subst (λ (o : Option PlacedRow). IfSome o (λ p. length p.places < vec_capacity c.args.buffer)) at room) in
    absurd cc
