-- An index is sound and named as before after one of its keys is placed elsewhere.
use Rattle.std.proofs.Common.{◌≡◌, ℕ, zero, suc, ◌<◌, List, [], ◌∷◌, length, get_or, map, set, ap, sym, subst, ◌∙◌, arith}
use Rattle.std.specs.List.{AllByRecursion, HoldsAt}
use Rattle.std.proofs.lemmas.List.{length-set, map-set, set-get_or}
use Rattle.key_rows.specs.declared.by_name.NamedBirth.{NamedBirth}
use Rattle.key_rows.specs.declared.rows.KeyRow.{KeyRow}
use Rattle.key_rows.specs.Names.{IsIndex}
use Rattle.key_rows.specs.Sound.{AreRowsRising, NamesOnce}
use Rattle.key_index.specs.declared.rows.PlacedRow.{PlacedRow}
use Rattle.key_index.specs.Index.{Index, Materials, row_of, rows_of}
use Rattle.key_index.specs.Sound.{AreNamed, IsPlacedRow, IsSoundIndex}
use Rattle.key_index.specs.Walk.{placed_from}
use Rattle.key_index.proofs.RunLemmas.{length-run_places}

-- a row where none is asked for
no_row : PlacedRow
no_row = record { row = record { name = []; birth = 0; bits = 0; current = []; versions = 0; description = []; created = 0 }; places = [] }

module _ (first : ℕ) (rows : List PlacedRow) (at : ℕ) (within : at < length rows) where
  abbrev moved : List PlacedRow
  moved = set rows at (placed_from first (get_or rows at no_row))

  same_rows : (m : Materials) → rows_of m rows ≡ rows_of m moved
  same_rows m =
      let f : PlacedRow → KeyRow = λ placed. row_of m placed.row in
      sym (map-set f rows at (placed_from first (get_or rows at no_row)) ∙ sym (map-set f rows at (get_or rows at no_row)) ∙ ap (map f) (set-get_or rows at no_row))

  moved_placed : (placed : PlacedRow) → IsPlacedRow placed → IsPlacedRow (placed_from first placed)
  moved_placed placed is = record { row = is.row; places = length-run_places first _ placed.row.versions }

  each_moved : (l : List PlacedRow) (i : ℕ) → i < length l → AllByRecursion IsPlacedRow l → AllByRecursion IsPlacedRow (set l i (placed_from first (get_or l i no_row)))
  each_moved [] i within each = tt
  each_moved (placed ∷ l) zero within each = (moved_placed placed each.0, each.1)
  each_moved (placed ∷ l) (suc i) within each = (each.0, each_moved l i (omega arith) each.1)

pub moved_sound : (x : Index) (entries : List NamedBirth) (at first : ℕ) (rows : List PlacedRow) → IsSoundIndex x → AreNamed x.rows entries → at < length x.rows
    → HoldsAt (λ placed. rows ≡ set x.rows at (placed_from first placed)) x.rows at → IsSoundIndex (record x { rows = rows }) × AreNamed rows entries
moved_sound x entries at first rows is named within new =
    let same : (m : Materials) → rows_of m x.rows ≡ rows_of m rows = λ m. same_rows first x.rows at within m ∙ ap (rows_of m) (sym (new no_row)) in (
      record {
        opening = is.opening;
        few = omega (arith, is.few, ap (λ (l : List PlacedRow). length l) (new no_row), length-set x.rows at (placed_from first (get_or x.rows at no_row)));
        births = λ m. subst (λ (l : List KeyRow). AreRowsRising 0 l x.greatest) (same m) (is.births m);
        names = λ m. subst NamesOnce (same m) (is.names m);
        rows = subst (AllByRecursion IsPlacedRow) (sym (new no_row)) (each_moved first x.rows at within x.rows at within is.rows);
      },
      λ m. subst (λ (l : List KeyRow). IsIndex l entries) (same m) (named m),
    )
