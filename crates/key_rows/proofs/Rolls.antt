-- The key of a birth gains a material.
use Rattle.std.proofs.Common.{◌≡◌, ◌≢◌, ℕ, ◌/◌, ◌<◌, zero, suc, List, [], ◌∷◌, ◌++◌, length, map, get_or, set, Bool, true, false, ◌&&◌, cond, ◌==◌, nat_lt, Some, refl, ap, sym, ◌∙◌, subst, arith, length-append}
use Rattle.std.specs.List.{AllByRecursion}
use Rattle.std.proofs.lemmas.Bool.Decides.{Decides-eqb}
use Rattle.std.proofs.lemmas.Bool.{and_parts}
use Rattle.key_rows.specs.declared.rows.KeyRow.{KeyRow}
use Rattle.key_rows.specs.Table.{is_born, with_material, rolled, find_birth, may_roll}
use Rattle.key_rows.specs.Sound.{AreRowsRising, NamesOnce, IsRow}
use Rattle.key_rows.proofs.Births.{each_more, none_born}

-- rows of other births are unchanged
pub rolled_nowhere : (birth : ℕ) (material : List ℕ) (rows : List KeyRow) → AllByRecursion (λ (row : KeyRow). is_born birth row ≡ false) rows → map (rolled birth material) rows ≡ rows
rolled_nowhere birth material [] none = refl
rolled_nowhere birth material (row ∷ rows) none =
    ap (λ b. cond b (with_material material row) row ∷ map (rolled birth material) rows) none.0 ∙ ap (λ rest. row ∷ rest) (rolled_nowhere birth material rows none.1)

-- it is one write, at the place of the birth
pub rolled_at : (low birth : ℕ) (material : List ℕ) (rows : List KeyRow) (top i : ℕ) (d : KeyRow) → AreRowsRising low rows top → i < length rows
    → is_born birth (get_or rows i d) ≡ true → ((k : ℕ) → k < i → is_born birth (get_or rows k d) ≡ false)
    → set rows i (with_material material (get_or rows i d)) ≡ map (rolled birth material) rows
rolled_at low birth material [] top i d rising within here before = absurd (omega arith)
rolled_at low birth material (row ∷ rows) top zero d rising within here before =
    let same : row.birth ≡ birth = (Decides-eqb row.birth birth).0 here in
    ap (λ rest. with_material material row ∷ rest) (sym (rolled_nowhere birth material rows (none_born row.birth birth rows top (omega arith) rising.1)))
    ∙ sym (ap (λ b. cond b (with_material material row) row ∷ map (rolled birth material) rows) here)
rolled_at low birth material (row ∷ rows) top (suc i) d rising within here before =
    ap (λ rest. row ∷ rest) (rolled_at row.birth birth material rows top i d rising.1 (omega arith) here (λ k below. before (suc k) (omega arith)))
    ∙ sym (ap (λ b. cond b (with_material material row) row ∷ map (rolled birth material) rows) (before 0 (omega arith)))

pub rolled_with : (birth : ℕ) (material : List ℕ) (rows : List KeyRow) (top i : ℕ) (row : KeyRow) (more : List (List ℕ)) → AreRowsRising 0 rows top → i < length rows → row ≡ get_or rows i row
    → is_born birth (get_or rows i row) ≡ true → ((k : ℕ) → k < i → is_born birth (get_or rows k row) ≡ false) → more ≡ row.materials ++ material ∷ []
    → set rows i (record row { materials = more }) ≡ map (rolled birth material) rows
rolled_with birth material rows top i row more rising within is here before pushed =
    ap (λ m. set rows i (record row { materials = m })) pushed
    ∙ ap (λ (r : KeyRow). set rows i (with_material material r)) is
    ∙ rolled_at 0 birth material rows top i row rising within here before

-- names and births are unchanged

pub length-rolled : (birth : ℕ) (material : List ℕ) (rows : List KeyRow) → length (map (rolled birth material) rows) ≡ length rows
length-rolled birth material [] = refl
length-rolled birth material (row ∷ rows) = ap suc (length-rolled birth material rows)

pub birth-rolled : (birth : ℕ) (material : List ℕ) (row : KeyRow) → (rolled birth material row).birth ≡ row.birth
birth-rolled birth material row =
    let P : Bool → Type 0 = λ b. (cond b (with_material material row) row).birth ≡ row.birth in
    elim (is_born birth row) as P [ true ↦ refl | false ↦ refl ]

pub name-rolled : (birth : ℕ) (material : List ℕ) (row : KeyRow) → (rolled birth material row).name ≡ row.name
name-rolled birth material row =
    let P : Bool → Type 0 = λ b. (cond b (with_material material row) row).name ≡ row.name in
    elim (is_born birth row) as P [ true ↦ refl | false ↦ refl ]

pub rising_rolled : (low birth : ℕ) (material : List ℕ) (rows : List KeyRow) (top : ℕ) → AreRowsRising low rows top → AreRowsRising low (map (rolled birth material) rows) top
rising_rolled low birth material [] top rising = rising
rising_rolled low birth material (r ∷ rows) top rising =
    let same = birth-rolled birth material r in
    (omega (arith, rising.0, same), subst (λ (b : ℕ). AreRowsRising b (map (rolled birth material) rows) top) (sym same) (rising_rolled r.birth birth material rows top rising.1))

other_rolled : (birth : ℕ) (material name : List ℕ) (rows : List KeyRow) → AllByRecursion (λ (other : KeyRow). other.name ≢ name) rows → AllByRecursion (λ (other : KeyRow). other.name ≢ name) (map (rolled birth material) rows)
other_rolled birth material name [] others = tt
other_rolled birth material name (r ∷ rows) others = (λ same. others.0 (sym (name-rolled birth material r) ∙ same), other_rolled birth material name rows others.1)

pub names_rolled : (birth : ℕ) (material : List ℕ) (rows : List KeyRow) → NamesOnce rows → NamesOnce (map (rolled birth material) rows)
names_rolled birth material [] once = tt
names_rolled birth material (r ∷ rows) once = (
  subst (λ (name : List ℕ). AllByRecursion (λ (other : KeyRow). other.name ≢ name) (map (rolled birth material) rows)) (sym (name-rolled birth material r)) (other_rolled birth material r.name rows once.0),
  names_rolled birth material rows once.1,
)

-- the key that gains the material is still a key
row_rolled : (row : KeyRow) (number : ℕ) (material : List ℕ) → may_roll (Some row) number material ≡ true → IsRow row → IsRow (with_material material row)
row_rolled row number material may is =
    let first = and_parts (number == length row.materials && nat_lt number 65535) (length material == row.bits / 8) may in
    let outer = and_parts (number == length row.materials) (nat_lt number 65535) first.0 in
    let number_is : number ≡ length row.materials = (Decides-eqb number (length row.materials)).0 outer.0 in
    let below : number < 65535 = grind (arith, outer.1) in
    let long : length material ≡ row.bits / 8 = (Decides-eqb (length material) (row.bits / 8)).0 first.1 in
    record {
      born = is.born;
      bits = is.bits;
      some = omega (arith, length-append row.materials (material ∷ []));
      few = omega (arith, length-append row.materials (material ∷ []), number_is, below);
      materials = each_more (λ (m : List ℕ). length m ≡ row.bits / 8) row.materials material is.materials long;
    }

pub rows_rolled : (low birth number : ℕ) (material : List ℕ) (rows : List KeyRow) (top : ℕ) → AreRowsRising low rows top → may_roll (find_birth rows birth) number material ≡ true → AllByRecursion IsRow rows
    → AllByRecursion IsRow (map (rolled birth material) rows)
rows_rolled low birth number material [] top rising may rows = tt
rows_rolled low birth number material (r ∷ rest) top rising may rows =
    let P : Bool → Type 0 = λ b. is_born birth r ≡ b → may_roll (cond b (Some r) (find_birth rest birth)) number material ≡ true → AllByRecursion IsRow (cond b (with_material material r) r ∷ map (rolled birth material) rest) in
    let cases : P (is_born birth r) = elim (is_born birth r) as P [
      | true ↦ λ e h.
          let same : r.birth ≡ birth = (Decides-eqb r.birth birth).0 e in
          (row_rolled r number material h rows.0, subst (λ (rs : List KeyRow). AllByRecursion IsRow rs) (sym (rolled_nowhere birth material rest (none_born r.birth birth rest top (omega arith) rising.1))) rows.1)
      | false ↦ λ e h. (rows.0, rows_rolled r.birth birth number material rest top rising.1 h rows.1)
    ] in
    cases refl may
