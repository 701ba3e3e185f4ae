use Rattle.std.proofs.Common.{◌≡◌, false, sym, ap, ◌∙◌, Some}
use Rattle.std.proofs.lemmas.List.Elements.{recursion_from_All}
use Rattle.key_index.specs.declared.rows.PlacedRow.{PlacedRow}
use Rattle.key_index.specs.Index.{is_born}
use Rattle.key_index.proofs.Searches.{nothing, row_found, row_missing}
use Rattle.key_index.proofs.finding.row_at.Goals as goal

pub returns-in-None : goal.returns-in-None
returns-in-None c = sym (row_missing c.args.birth c.args.rows.now.items (recursion_from_All (λ (row : PlacedRow). is_born c.args.birth row ≡ false) _ c.in-None.ensures.none))

pub returns-in-Some : goal.returns-in-Some
returns-in-Some c =
    let row = c.index.result.now in
    ap (λ (r : PlacedRow). Some r) c.index.ensures
    ∙ sym (row_found nothing 0 c.args.rows.now.items c.requires.0 c.args.birth c.in-Some.place row (c.requires.1 nothing) c.in-Some.ensures.place.0 (c.in-Some.ensures.place.1 row))
