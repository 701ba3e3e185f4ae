-- A row of the index says of its key all but its older materials.
use Rattle.std.proofs.Common.{◌≡◌, ℕ, zero, suc, ◌-◌, Bool, true, false, cond, List, [], ◌∷◌, ◌++◌, length, Option, Some, None, option_map, IfSome, refl, sym, ◌∙◌, ap, subst, arith, Bor}
use Rattle.std.specs.Prelude.{MatchOption, slice_get}
use Rattle.std.proofs.lemmas.Bool.Decides.{Decides-eqb}
use Rattle.std.specs.Option.{option_copied}
use Rattle.key_rows.proofs.Births.{found_has}
use Rattle.key_rows.specs.declared.rows.KeyRow.{KeyRow}
use Rattle.key_rows.specs.Sound.{IsKeyTable, IsRow}
use Rattle.key_rows.specs.Table.{Table, find_birth, find_name, is_born, is_named}
use Rattle.key_index.specs.declared.rows.IndexRow.{IndexRow}
use Rattle.key_index.specs.Index.{Index, Materials, older, row_of, table_of}
use Rattle.key_index.specs.Sound.{IsIndexRow}
use Rattle.key_index.proofs.Standing.{length-older, versions_of}
use Rattle.kms_store.specs.Store.{IsRowOf, ShowsKey, StandsFor}

pub last_is : (xs : List (List ℕ)) (x : List ℕ) (n : ℕ) → length xs ≡ n → slice_get (xs ++ x ∷ []) n ≡ Some x
last_is [] x zero e = refl
last_is [] x (suc n) e = absurd (omega (arith, e))
last_is (y ∷ ys) x zero e = absurd (omega (arith, e))
last_is (y ∷ ys) x (suc n) e = last_is ys x n (omega (arith, e))

shows : (m : Materials) (row : IndexRow) → IsIndexRow row → ShowsKey row (row_of m row)
shows m row is = record {
  name = refl;
  birth = refl;
  bits = refl;
  versions = sym (versions_of m row (omega (arith, is.some)));
  current = last_is (older m row.birth (row.versions - 1)) row.current (row.versions - 1) (length-older m row.birth (row.versions - 1));
  description = refl;
  created = refl;
}

-- the key that is looked up by its name
pub name_found : (m : Materials) (x : Index) (t : Table) (name : List ℕ) (result : Option (Bor IndexRow)) → StandsFor m x t → IsKeyTable (table_of m x) → option_map (row_of m) (option_copied result) ≡ find_name (table_of m x).rows name
    → IfSome result (λ row. IsIndexRow row.now) → IfSome result (λ row. find_birth (table_of m x).rows row.now.birth ≡ Some (row_of m row.now))
    → MatchOption result (find_name t.rows name ≡ None) (λ row. IsRowOf t (find_name t.rows name) row.now)
name_found m x t name None stands rules found is born = ap (λ (u : Table). find_name u.rows name) (sym stands.table_is) ∙ sym found
name_found m x t name (Some row) stands rules found is born =
    let here : find_name (table_of m x).rows name ≡ Some (row_of m row.now) = sym found in
    subst (λ (u : Table). IsRowOf u (find_name u.rows name) row.now) stands.table_is
    (record {
      key = row_of m row.now;
      is = here;
      shows = shows m row.now is;
      rules = subst (λ (o : Option KeyRow). IfSome o IsRow) here (found_has IsRow (is_named name) (table_of m x).rows rules.rows);
      born = born;
    })

born_same : (birth : ℕ) (rows : List KeyRow) (key : KeyRow) → find_birth rows birth ≡ Some key → key.birth ≡ birth
born_same birth [] key found = absurd cc
born_same birth (row ∷ rows) key found = go (born_same birth rows key) (is_born birth row) refl found
  where
    go : (find_birth rows birth ≡ Some key → key.birth ≡ birth) → (b : Bool) → is_born birth row ≡ b → cond b (Some row) (find_birth rows birth) ≡ Some key → key.birth ≡ birth
    go further true is e = let same : row ≡ key = cc e in ap (λ (k : KeyRow). k.birth) (sym same) ∙ (Decides-eqb row.birth birth).0 is
    go further false is e = further e

-- and by its birth
pub birth_found : (m : Materials) (x : Index) (t : Table) (birth : ℕ) (result : Option (Bor IndexRow)) → StandsFor m x t → IsKeyTable (table_of m x) → option_map (row_of m) (option_copied result) ≡ find_birth (table_of m x).rows birth
    → IfSome result (λ row. IsIndexRow row.now) → MatchOption result (find_birth t.rows birth ≡ None) (λ row. IsRowOf t (find_birth t.rows birth) row.now)
birth_found m x t birth None stands rules found is = ap (λ (u : Table). find_birth u.rows birth) (sym stands.table_is) ∙ sym found
birth_found m x t birth (Some row) stands rules found is =
    let here : find_birth (table_of m x).rows birth ≡ Some (row_of m row.now) = sym found in
    let same : row.now.birth ≡ birth = born_same birth (table_of m x).rows (row_of m row.now) here in
    subst (λ (u : Table). IsRowOf u (find_birth u.rows birth) row.now) stands.table_is
    (record {
      key = row_of m row.now;
      is = here;
      shows = shows m row.now is;
      rules = subst (λ (o : Option KeyRow). IfSome o IsRow) here (found_has IsRow (is_born birth) (table_of m x).rows rules.rows);
      born = subst (λ (b : ℕ). find_birth (table_of m x).rows b ≡ Some (row_of m row.now)) (sym same) here;
    })
