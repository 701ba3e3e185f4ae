-- Places stay right: while the log grows, and at each command.
use Rattle.std.proofs.Common.{◌≡◌, ◌≢◌, ℕ, ◌-◌, ◌/◌, true, not, List, [], ◌∷◌, ◌++◌, length, take, drop, map, refl, sym, ◌∙◌, ap, subst, arith, length-take, length-drop, inl, inr}
use Rattle.std.specs.Prelude.{OnOk, Result, Ok, Err}
use Rattle.std.specs.List.{AllByRecursion}
use Rattle.std.proofs.lemmas.List.{take-append-le, drop-append-le}
use Rattle.std.proofs.lemmas.Bool.{cases_eq, cases_lt}
use Rattle.hk_base.specs.Disk.{piece}
use Rattle.hk_base.specs.declared.names.Dek.{Dek}
use Rattle.key_rows.specs.declared.rows.KeyCommand.{KeyCommand}
use Rattle.key_rows.specs.declared.rows.KeyCommand.TheVariants.{Opened, Create, Roll, Delete}
use Rattle.key_rows.proofs.Births.{each_filter, each_more}
use Rattle.key_index.specs.declared.rows.PlacedRow.{PlacedRow}
use Rattle.key_index.specs.Index.{Index, Materials, after_at, applies_at, first_version, is_born, materials_after, newest, rolled_at, row_of, with_version}
use Rattle.key_index.specs.Held.{AreHeld, HoldsMaterial, IsHeld}
use Rattle.key_index.specs.Sound.{AreSized, IsSoundIndex}
use Rattle.key_index.proofs.Commands.{fits_applying}
use Rattle.key_index.proofs.Sounds.{create_says}
use Rattle.key_index.proofs.Standing.{Rolls, elsewhere, kept_row, materials_grow, next, rolled_row, same_older}

-- a piece that is whole stays as it is when bytes come after the end
stays : (p n : ℕ) (file more : List ℕ) → length (piece p n file) ≡ n → piece p n (file ++ more) ≡ piece p n file
stays p n file more whole = elim (cases_lt (length file) p) [
  | inl past ↦
      let none : n ≡ 0 = omega (arith, whole, length-take n (drop p file), length-drop p file) in
      ap (λ (k : ℕ). take k (drop p (file ++ more))) none ∙ sym (ap (λ (k : ℕ). take k (drop p file)) none)
  | inr inside ↦
      ap (take n) (drop-append-le p file more (omega arith))
      ∙ take-append-le n (drop p file) more (omega (arith, whole, length-take n (drop p file)))
]

pieces_stay : (n : ℕ) (file more : List ℕ) (ps : List ℕ) → AllByRecursion (λ (x : List ℕ). length x ≡ n) (map (λ p. piece p n file) ps) → map (λ p. piece p n (file ++ more)) ps ≡ map (λ p. piece p n file) ps
pieces_stay n file more [] sized = refl
pieces_stay n file more (p ∷ ps) sized = λ i. stays p n file more sized.0 i ∷ pieces_stay n file more ps sized.1 i

-- bytes after the end change no material
held_longer : (m : Materials) (file more : List ℕ) (placed : PlacedRow) → IsHeld m file placed → IsHeld m (file ++ more) placed
held_longer m file more placed held = record {
  pieces = pieces_stay (placed.row.bits / 8) file more placed.places (subst (AllByRecursion (λ (x : List ℕ). length x ≡ placed.row.bits / 8)) (sym held.pieces) held.sized) ∙ held.pieces;
  sized = held.sized;
}

pub rows_longer : (m : Materials) (file more : List ℕ) (rows : List PlacedRow) → AllByRecursion (IsHeld m file) rows → AllByRecursion (IsHeld m (file ++ more)) rows
rows_longer m file more [] held = tt
rows_longer m file more (placed ∷ rows) held = (held_longer m file more placed held.0, rows_longer m file more rows held.1)

places_more : (f : ℕ → List ℕ) (ps : List ℕ) (p : ℕ) → map f (ps ++ p ∷ []) ≡ map f ps ++ f p ∷ []
places_more f [] p = refl
places_more f (x ∷ ps) p = λ i. f x ∷ places_more f ps p i

-- a roll whose material is in the file at the place
module _ (m : Materials) (birth number : ℕ) (material current : Dek) (place : ℕ) (file : List ℕ) (there : piece place (length material) file ≡ material) where
  abbrev later : Materials
  later = next m birth number material current place

  materials_rolled : (placed : PlacedRow) → Rolls birth number material current placed → placed.row.birth ≡ birth → (row_of later (with_version material place placed).row).materials ≡ (row_of m placed.row).materials ++ material ∷ []
  materials_rolled placed rolls born = λ i. materials_grow m birth number material current place placed.row rolls.some born (rolls.its born).0 (rolls.its born).1 i ++ material ∷ []

  held_born : (placed : PlacedRow) → Rolls birth number material current placed → placed.row.birth ≡ birth → IsHeld m file placed → IsHeld later file (with_version material place placed)
  held_born placed rolls born held =
      let here : piece place (placed.row.bits / 8) file ≡ material = ap (λ (n : ℕ). piece place n file) (sym (rolls.long born)) ∙ there in
      record {
        pieces = places_more (λ p. piece p (placed.row.bits / 8) file) placed.places place ∙ (λ i. held.pieces i ++ here i ∷ []) ∙ sym (materials_rolled placed rolls born);
        sized = subst (AllByRecursion (λ (x : List ℕ). length x ≡ placed.row.bits / 8)) (sym (materials_rolled placed rolls born)) (each_more (λ (x : List ℕ). length x ≡ placed.row.bits / 8) (row_of m placed.row).materials material held.sized (rolls.long born));
      }

  held_other : (placed : PlacedRow) → placed.row.birth ≢ birth → IsHeld m file placed → IsHeld later file placed
  held_other placed other held =
      let same : (row_of later placed.row).materials ≡ (row_of m placed.row).materials =
      λ i. same_older m later placed.row.birth (placed.row.versions - 1) (λ j small. elsewhere m birth number material current place placed.row.birth j other) i ++ placed.row.current ∷ [] in
      record {
        pieces = held.pieces ∙ sym same;
        sized = subst (AllByRecursion (λ (x : List ℕ). length x ≡ placed.row.bits / 8)) (sym same) held.sized;
      }

  held_rolled : (placed : PlacedRow) → Rolls birth number material current placed → IsHeld m file placed → IsHeld later file (rolled_at birth material place placed)
  held_rolled placed rolls held = elim (cases_eq placed.row.birth birth) [
    | inl born ↦ subst (IsHeld later file) (sym (rolled_row birth material place placed born)) (held_born placed rolls born held)
    | inr other ↦ subst (IsHeld later file) (sym (kept_row birth material place placed other)) (held_other placed other held)
  ]

  rows_rolled : (rows : List PlacedRow) → AllByRecursion (Rolls birth number material current) rows → AllByRecursion (IsHeld m file) rows → AllByRecursion (IsHeld later file) (map (rolled_at birth material place) rows)
  rows_rolled [] rolls held = tt
  rows_rolled (placed ∷ rows) rolls held = (held_rolled placed rolls.0 held.0, rows_rolled rows rolls.1 held.1)

-- a command that applies, whose material is in the file at the place
pub held_after : (m : Materials) (file : List ℕ) (x : Index) (command : KeyCommand) (place : ℕ) → IsSoundIndex x → applies_at x command ≡ true → AreHeld m file x → HoldsMaterial file command place
    → AreHeld (materials_after m x command) file (after_at x command place)
unfolding next
held_after m file x (Opened opening) place is may held there = held
held_after m file x (Create birth name bits description created material) place is may held there =
    let says = create_says x name birth bits material may in
    let here : piece place (bits / 8) file ≡ material = ap (λ (n : ℕ). piece place n file) (sym says.long) ∙ there in
    each_more (IsHeld m file) x.rows (record { row = first_version birth name bits description created material; places = place ∷ [] }) held (record { pieces = λ i. here i ∷ []; sized = (says.long, tt) })
held_after m file x (Roll birth number material) place is may held there =
    rows_rolled m birth number material (newest birth x.rows) place file there x.rows (fits_applying x (Roll birth number material) is may) held
held_after m file x (Delete birth) place is may held there = each_filter (IsHeld m file) (λ placed. not (is_born birth placed)) x.rows held

-- materials that a file holds have the lengths of their keys
pub rows_sized : (m : Materials) (file : List ℕ) (rows : List PlacedRow) → AllByRecursion (IsHeld m file) rows → AllByRecursion (λ (placed : PlacedRow). AreSized m placed.row) rows
rows_sized m file [] held = tt
rows_sized m file (placed ∷ rows) held = (held.0.sized, rows_sized m file rows held.1)

-- what follows from what an Ok says
pub then_on : {T E P Q : Type 0} (r : Result T E) → (P → Q) → OnOk r P → OnOk r Q
then_on (Ok x) f given = f given
then_on (Err e) f given = tt
