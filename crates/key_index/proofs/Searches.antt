-- Rows of an index in order of birth, and where a key is found.
use Rattle.std.proofs.Common.{◌≡◌, ℕ, zero, suc, ◌+◌, ◌<◌, ◌≤◌, Bool, true, false, cond, List, [], ◌∷◌, length, find, get_or, map, set, ◌++◌, All, Option, None, Some, option_map, IfSome, Result, Ok, Err, refl, ap, sym, subst, ◌∙◌, arith, inl, inr}
use Rattle.std.specs.Prelude.{MatchResult}
use Rattle.std.specs.List.{AllByRecursion, HoldsAt}
use Rattle.std.specs.List.Sorted.{IsSortedBy, IsBinarySearchResult, IsNonDecreasingBy}
use Rattle.std.specs.Ordering.{nat_cmp, is_lt}
use Rattle.std.proofs.lemmas.Bool.{cases_lt}
use Rattle.std.proofs.lemmas.Bool.Decides.{Decides-eqb, nat_tests}
use Rattle.std.proofs.lemmas.Cmp.{nat_cmp_total, ranked}
use Rattle.std.proofs.lemmas.List.Sorted.{searchable_from_sorted}
use Rattle.std.proofs.lemmas.Option.{same_Some}
use Rattle.key_rows.specs.declared.rows.KeyRow.{KeyRow}
use Rattle.key_rows.specs.declared.by_name.NamedBirth.{NamedBirth}
use Rattle.key_rows.specs.Table.{find_birth, find_name, is_born as is_born_row, is_named as is_named_row}
use Rattle.key_rows.specs.Names.{IsIndex, birth_in}
use Rattle.key_rows.specs.Sound.{AreRowsRising}
use Rattle.key_rows.proofs.Births.{none_born, other_number}
use Rattle.key_index.specs.declared.rows.PlacedRow.{PlacedRow}
use Rattle.key_index.specs.Index.{Materials, is_born, is_named, rolled_at, row_of, rows_of, with_version}

-- what is found among the rows stands for what is found in the table

pub row_found_in : (m : Materials) (p : KeyRow → Bool) (rows : List PlacedRow) → find p (rows_of m rows) ≡ option_map (λ placed. row_of m placed.row) (find (λ placed. p (row_of m placed.row)) rows)
row_found_in m p [] = refl
row_found_in m p (placed ∷ rows) = step (p (row_of m placed.row)) (find p (rows_of m rows)) (find (λ x. p (row_of m x.row)) rows) (row_found_in m p rows)
  where
    step : (b : Bool) (o : Option KeyRow) (f : Option PlacedRow) → o ≡ option_map (λ x. row_of m x.row) f → cond b (Some (row_of m placed.row)) o ≡ option_map (λ x. row_of m x.row) (cond b (Some placed) f)
    step true o f e = refl
    step false o f e = e

pub named_in : (m : Materials) (rows : List PlacedRow) (name : List ℕ) → find_name (rows_of m rows) name ≡ option_map (λ placed. row_of m placed.row) (find (is_named name) rows)
named_in m rows name = row_found_in m (λ row. is_named_row name row) rows

pub born_in : (m : Materials) (rows : List PlacedRow) (birth : ℕ) → find_birth (rows_of m rows) birth ≡ option_map (λ placed. row_of m placed.row) (find (is_born birth) rows)
born_in m rows birth = row_found_in m (λ row. is_born_row birth row) rows

-- the birth of a name is that of its key, whatever the materials
pub birth_of_name : (m : Materials) (rows : List PlacedRow) (name : List ℕ) → option_map (λ (row : KeyRow). row.birth) (find_name (rows_of m rows) name) ≡ option_map (λ placed. placed.row.birth) (find (is_named name) rows)
birth_of_name m rows name = ap (option_map (λ (row : KeyRow). row.birth)) (named_in m rows name) ∙ twice (find (is_named name) rows)
  where
    twice : (f : Option PlacedRow) → option_map (λ (row : KeyRow). row.birth) (option_map (λ x. row_of m x.row) f) ≡ option_map (λ x. x.row.birth) f
    twice None = refl
    twice (Some x) = refl

-- materials where none are asked for
pub nothing : Materials
nothing birth number = []

-- the first row that passes a test is found
find_at : (p : PlacedRow → Bool) (rows : List PlacedRow) (i : ℕ) (d : PlacedRow) → i < length rows → p (get_or rows i d) ≡ true → ((k : ℕ) → k < i → p (get_or rows k d) ≡ false) → find p rows ≡ Some (get_or rows i d)
find_at p [] i d within here before = absurd (omega arith)
find_at p (row ∷ rows) zero d within here before = ap (λ b. cond b (Some row) (find p rows)) here
find_at p (row ∷ rows) (suc i) d within here before =
    ap (λ b. cond b (Some row) (find p rows)) (before 0 (omega arith)) ∙ find_at p rows i d (omega arith) here (λ k below. before (suc k) (omega arith))

not_below : (a b : ℕ) → a < b → is_lt (nat_cmp b a) ≡ false
not_below a b less = grind (arith, nat_tests, less)

-- rows of other births are unchanged by a roll
pub rolled_nowhere : (birth : ℕ) (material : List ℕ) (place : ℕ) (rows : List PlacedRow) → AllByRecursion (λ (placed : PlacedRow). is_born birth placed ≡ false) rows → map (rolled_at birth material place) rows ≡ rows
rolled_nowhere birth material place [] none = refl
rolled_nowhere birth material place (placed ∷ rows) none =
    ap (λ (b : Bool). cond b (with_version material place placed) placed ∷ map (rolled_at birth material place) rows) none.0 ∙ ap (λ rest. placed ∷ rest) (rolled_nowhere birth material place rows none.1)

module _ (m : Materials) where
  others_born : (birth : ℕ) (rows : List PlacedRow) → AllByRecursion (λ (row : KeyRow). is_born_row birth row ≡ false) (rows_of m rows) → AllByRecursion (λ (placed : PlacedRow). is_born birth placed ≡ false) rows
  others_born birth [] none = tt
  others_born birth (placed ∷ rows) none = (none.0, others_born birth rows none.1)

  -- the rows after a row do not have its birth
  pub rest_of : (low birth : ℕ) (rows : List PlacedRow) (top : ℕ) → birth ≤ low → AreRowsRising low (rows_of m rows) top → AllByRecursion (λ (placed : PlacedRow). is_born birth placed ≡ false) rows
  rest_of low birth rows top below rising = others_born birth rows (none_born low birth (rows_of m rows) top below rising)

  -- a roll is one write, at the place of the birth
  rolled_set : (low birth : ℕ) (material : List ℕ) (place : ℕ) (rows : List PlacedRow) (top i : ℕ) (d : PlacedRow) → AreRowsRising low (rows_of m rows) top → i < length rows
      → is_born birth (get_or rows i d) ≡ true → ((k : ℕ) → k < i → is_born birth (get_or rows k d) ≡ false)
      → set rows i (with_version material place (get_or rows i d)) ≡ map (rolled_at birth material place) rows
  rolled_set low birth material place [] top i d rising within here before = absurd (omega arith)
  rolled_set low birth material place (placed ∷ rows) top zero d rising within here before =
      let same : placed.row.birth ≡ birth = (Decides-eqb placed.row.birth birth).0 here in
      ap (λ rest. with_version material place placed ∷ rest) (sym (rolled_nowhere birth material place rows (rest_of placed.row.birth birth rows top (omega arith) rising.1)))
      ∙ sym (ap (λ (b : Bool). cond b (with_version material place placed) placed ∷ map (rolled_at birth material place) rows) here)
  rolled_set low birth material place (placed ∷ rows) top (suc i) d rising within here before =
      ap (λ rest. placed ∷ rest) (rolled_set placed.row.birth birth material place rows top i d rising.1 (omega arith) here (λ k below. before (suc k) (omega arith)))
      ∙ sym (ap (λ (b : Bool). cond b (with_version material place placed) placed ∷ map (rolled_at birth material place) rows) (before 0 (omega arith)))

  pub rolled_with : (birth : ℕ) (material : List ℕ) (place : ℕ) (rows : List PlacedRow) (top i : ℕ) (placed : PlacedRow) (more : List ℕ) → AreRowsRising 0 (rows_of m rows) top → i < length rows → placed ≡ get_or rows i placed
      → is_born birth (get_or rows i placed) ≡ true → ((k : ℕ) → k < i → is_born birth (get_or rows k placed) ≡ false) → more ≡ placed.places ++ place ∷ []
      → set rows i (record { row = record placed.row { current = material; versions = placed.row.versions + 1 }; places = more }) ≡ map (rolled_at birth material place) rows
  rolled_with birth material place rows top i placed more rising within is here before pushed =
      ap (λ (places : List ℕ). set rows i (record { row = record placed.row { current = material; versions = placed.row.versions + 1 }; places = places })) pushed
      ∙ ap (λ (p : PlacedRow). set rows i (with_version material place p)) is
      ∙ rolled_set 0 birth material place rows top i placed rising within here before

  above_at : (low : ℕ) (rows : List PlacedRow) (top i : ℕ) (d : PlacedRow) → AreRowsRising low (rows_of m rows) top → i < length rows → low < (get_or rows i d).row.birth
  above_at low [] top i d rising within = absurd (omega arith)
  above_at low (row ∷ rows) top zero d rising within = rising.0
  above_at low (row ∷ rows) top (suc i) d rising within = omega (arith, rising.0, above_at row.row.birth rows top i d rising.1 (omega arith))

  rising_at : (low : ℕ) (rows : List PlacedRow) (top k i : ℕ) (d : PlacedRow) → AreRowsRising low (rows_of m rows) top → k < i → i < length rows → (get_or rows k d).row.birth < (get_or rows i d).row.birth
  rising_at low [] top k i d rising below within = absurd (omega arith)
  rising_at low (row ∷ rows) top k zero d rising below within = absurd (omega arith)
  rising_at low (row ∷ rows) top zero (suc i) d rising below within = above_at row.row.birth rows top i d rising.1 (omega arith)
  rising_at low (row ∷ rows) top (suc k) (suc i) d rising below within = rising_at row.row.birth rows top k i d rising.1 (omega arith) (omega arith)

  births_sorted : (low : ℕ) (rows : List PlacedRow) (top : ℕ) → AreRowsRising low (rows_of m rows) top → IsSortedBy (λ (a b : PlacedRow). is_lt (nat_cmp a.row.birth b.row.birth)) rows
  births_sorted low rows top rising k d above within = not_below _ _ (rising_at low rows top k (k + 1) d rising (omega arith) within)

  pub births_rise : (low : ℕ) (rows : List PlacedRow) (top : ℕ) → AreRowsRising low (rows_of m rows) top → IsNonDecreasingBy (λ (placed : PlacedRow). placed.row.birth) rows
  births_rise low rows top rising i j d order within = elim (cases_lt i j) [
    | inl less ↦ omega (arith, rising_at low rows top i j d rising less within)
    | inr more ↦ let same : i ≡ j = omega arith in subst (λ (k : ℕ). (get_or rows i d).row.birth ≤ (get_or rows k d).row.birth) same (omega arith)
  ]

  pub birth_searched : (low : ℕ) (rows : List PlacedRow) (top birth : ℕ) (r : Result ℕ ℕ) → AreRowsRising low (rows_of m rows) top → IsBinarySearchResult (λ (placed : PlacedRow). nat_cmp placed.row.birth birth) rows r
      → MatchResult r (HoldsAt (λ placed. placed.row.birth ≡ birth) rows) (λ _. All (λ placed. is_born birth placed ≡ false) rows)
  birth_searched low rows top birth (Ok place) rising equal = λ d. ranked _ birth _ (sym (equal d))
  birth_searched low rows top birth (Err place) rising parted =
      let halves = parted (searchable_from_sorted nat_cmp_total (λ (placed : PlacedRow). placed.row.birth) rows birth (births_sorted low rows top rising)) in
      λ k d within. elim (cases_lt k place) [
        | inl less ↦ other_number (get_or rows k d).row.birth birth (λ same. let lower = ranked _ birth _ (sym (halves.0 k d (omega arith) less)) in absurd (omega arith))
        | inr more ↦ other_number (get_or rows k d).row.birth birth (λ same. let higher = ranked _ birth _ (sym (halves.1 k d more within)) in absurd (omega arith))
      ]

  -- the row at the place of a birth is the first with it
  pub first_at : (low : ℕ) (rows : List PlacedRow) (top birth i : ℕ) (d : PlacedRow) → AreRowsRising low (rows_of m rows) top → i < length rows → (get_or rows i d).row.birth ≡ birth → (k : ℕ) → k < i → is_born birth (get_or rows k d) ≡ false
  first_at low rows top birth i d rising within here k below = other_number (get_or rows k d).row.birth birth (λ same. absurd (omega (arith, rising_at low rows top k i d rising below within, here, same)))

  pub row_found : (low : ℕ) (rows : List PlacedRow) (top birth i : ℕ) (d : PlacedRow) → AreRowsRising low (rows_of m rows) top → i < length rows → (get_or rows i d).row.birth ≡ birth → find (is_born birth) rows ≡ Some (get_or rows i d)
  row_found low rows top birth i d rising within here = find_at (is_born birth) rows i d within ((Decides-eqb (get_or rows i d).row.birth birth).1 here) (first_at low rows top birth i d rising within here)

  above_low : (low : ℕ) (p : PlacedRow → Bool) (rows : List PlacedRow) (top : ℕ) → AreRowsRising low (rows_of m rows) top → IfSome (find p rows) (λ placed. low < placed.row.birth)
  above_low low p [] top rising = tt
  above_low low p (r ∷ rows) top rising =
      let Q : Bool → Type 0 = λ b. IfSome (cond b (Some r) (find p rows)) (λ placed. low < placed.row.birth) in
      let R : Option PlacedRow → Type 0 = λ o. IfSome o (λ placed. r.row.birth < placed.row.birth) → IfSome o (λ placed. low < placed.row.birth) in
      let later : R (find p rows) = elim (find p rows) as R [ None ↦ λ h. tt | Some placed ↦ λ h. omega (arith, h, rising.0) ] in
      elim (p r) as Q [ true ↦ rising.0 | false ↦ later (above_low r.row.birth p rows top rising.1) ]

  -- a row that is found is also found by its birth
  pub by_birth : (low : ℕ) (p : PlacedRow → Bool) (rows : List PlacedRow) (top : ℕ) → AreRowsRising low (rows_of m rows) top → IfSome (find p rows) (λ placed. find (is_born placed.row.birth) rows ≡ Some placed)
  by_birth low p [] top rising = tt
  by_birth low p (r ∷ rows) top rising =
      let Q : Bool → Type 0 = λ b. IfSome (cond b (Some r) (find p rows)) (λ placed. find (is_born placed.row.birth) (r ∷ rows) ≡ Some placed) in
      let R : Option PlacedRow → Type 0 = λ o. IfSome o (λ placed. r.row.birth < placed.row.birth) → IfSome o (λ placed. find (is_born placed.row.birth) rows ≡ Some placed) → IfSome o (λ placed. find (is_born placed.row.birth) (r ∷ rows) ≡ Some placed) in
      let later : R (find p rows) = elim (find p rows) as R [
        | None ↦ λ h is. tt
        | Some placed ↦ λ h is. ap (λ b. cond b (Some r) (find (is_born placed.row.birth) rows)) (other_number r.row.birth placed.row.birth (λ same. absurd (omega arith))) ∙ is
      ] in
      elim (p r) as Q [
        | true ↦ ap (λ b. cond b (Some r) (find (is_born r.row.birth) rows)) ((Decides-eqb r.row.birth r.row.birth).1 refl)
        | false ↦ later (above_low r.row.birth p rows top rising.1) (by_birth r.row.birth p rows top rising.1)
      ]

  -- a name whose birth is known
  pub named_there : (rows : List PlacedRow) (entries : List NamedBirth) (name : List ℕ) (birth top : ℕ) → AreRowsRising 0 (rows_of m rows) top → IsIndex (rows_of m rows) entries → birth_in entries name ≡ Some birth
      → find (is_born birth) rows ≡ find (is_named name) rows
  named_there rows entries name birth top rising index some =
      there (find (is_named name) rows) (sym (index.births name ∙ birth_of_name m rows name) ∙ some) (by_birth 0 (is_named name) rows top rising)
    where
      there : (o : Option PlacedRow) → option_map (λ placed. placed.row.birth) o ≡ Some birth → IfSome o (λ placed. find (is_born placed.row.birth) rows ≡ Some placed) → find (is_born birth) rows ≡ o
      there None e found = absurd cc
      there (Some placed) e found = ap (λ (b : ℕ). find (is_born b) rows) (sym (same_Some placed.row.birth birth e)) ∙ found

  pub named_nowhere : (rows : List PlacedRow) (entries : List NamedBirth) (name : List ℕ) → IsIndex (rows_of m rows) entries → birth_in entries name ≡ None → find (is_named name) rows ≡ None
  named_nowhere rows entries name index none = nowhere (find (is_named name) rows) (sym (index.births name ∙ birth_of_name m rows name) ∙ none)
    where
      nowhere : (o : Option PlacedRow) → option_map (λ placed. placed.row.birth) o ≡ None → o ≡ None
      nowhere None e = refl
      nowhere (Some placed) e = absurd cc

pub row_missing : (birth : ℕ) (rows : List PlacedRow) → AllByRecursion (λ (placed : PlacedRow). is_born birth placed ≡ false) rows → find (is_born birth) rows ≡ None
row_missing birth [] none = refl
row_missing birth (row ∷ rows) none = ap (λ b. cond b (Some row) (find (is_born birth) rows)) none.0 ∙ row_missing birth rows none.1
