-- The versions of all keys, counted by the names of the keys.
use Rattle.std.proofs.Common.{◌≡◌, ◌≢◌, ◌∙◌, ℕ, ◌+◌, Bool, true, false, cond, List, [], ◌∷◌, Some, take, length, refl, sym, ap, arith}
use Rattle.std.specs.List.{AllByRecursion, sum_by}
use Rattle.std.specs.Option.{option_map_or}
use Rattle.std.specs.Str.{bytes_eq}
use Rattle.std.specs.declared.cmp.Ordering.{Ordering}
use Rattle.std.specs.declared.cmp.Ordering.TheVariants.{Less, Equal, Greater}
use Rattle.std.proofs.lemmas.List.{take_all}
use Rattle.std.proofs.lemmas.List.Sums.{sum_by-cons}
use Rattle.std.proofs.lemmas.Map.Lookups.{exact_bytes}
use Rattle.std.proofs.lemmas.Slice.Eq.{bytes_eq-Decides}
use Rattle.key_rows.specs.declared.rows.KeyRow.{KeyRow}
use Rattle.key_rows.specs.Names.{AreNames, name_cmp}
use Rattle.key_rows.specs.Sound.{NamesOnce}
use Rattle.key_rows.specs.Table.{find_name}
use Rattle.kms_core.specs.Order.{names_in_order, put_by, put_name}
use Rattle.kms_core.proofs.NameLemmas.{names_are}
use Rattle.check_run.specs.Rows.{versions_named}

-- names with one more at its place, which none of them has

all_put : (P : List ℕ → Type 0) (name : List ℕ) (names : List (List ℕ)) → P name → AllByRecursion P names → AllByRecursion P (put_name name names)
all_put P name [] holds all = (holds, tt)
all_put P name (other ∷ others) holds all =
    let Q : Ordering → Type 0 = λ o. AllByRecursion P (put_by o name other others (put_name name others)) in
    let cases : Q (name_cmp name other) = elim (name_cmp name other) as Q [
      | Less ↦ (holds, all)
      | Equal ↦ all
      | Greater ↦ (all.0, all_put P name others holds all.1)
    ] in
    cases

sum_put : (f : List ℕ → ℕ) (name : List ℕ) (names : List (List ℕ)) → AllByRecursion (λ (other : List ℕ). other ≢ name) names → sum_by f (put_name name names) ≡ f name + sum_by f names
sum_put f name [] none = sum_by-cons f name []
sum_put f name (other ∷ others) none =
    let Q : Ordering → Type 0 = λ o. name_cmp name other ≡ o → sum_by f (put_by o name other others (put_name name others)) ≡ f name + sum_by f (other ∷ others) in
    let cases : Q (name_cmp name other) = elim (name_cmp name other) as Q [
      | Less ↦ λ e. sum_by-cons f name (other ∷ others)
      | Equal ↦ λ e. absurd (none.0 (sym (exact_bytes name other e)))
      | Greater ↦ λ e.
          let rest : sum_by f (put_name name others) ≡ f name + sum_by f others = sum_put f name others none.1 in
          let first : sum_by f (other ∷ put_name name others) ≡ f other + sum_by f (put_name name others) = sum_by-cons f other (put_name name others) in
          let second : sum_by f (other ∷ others) ≡ f other + sum_by f others = sum_by-cons f other others in
          omega (arith, rest, first, second)
    ] in
    cases refl

-- the names of keys that are named once

names_apart : (name : List ℕ) (rows : List KeyRow) → AllByRecursion (λ (other : KeyRow). other.name ≢ name) rows → AllByRecursion (λ (other : List ℕ). other ≢ name) (names_in_order rows)
names_apart name [] apart = tt
names_apart name (row ∷ rows) apart = all_put (λ (other : List ℕ). other ≢ name) row.name (names_in_order rows) apart.0 (names_apart name rows apart.1)

sum_in_order : (f : List ℕ → ℕ) (rows : List KeyRow) → NamesOnce rows → sum_by f (names_in_order rows) ≡ sum_by (λ (row : KeyRow). f row.name) rows
sum_in_order f [] once = refl
sum_in_order f (row ∷ rows) once =
    let rest : sum_by f (names_in_order rows) ≡ sum_by (λ (r : KeyRow). f r.name) rows = sum_in_order f rows once.1 in
    let first : sum_by f (names_in_order (row ∷ rows)) ≡ f row.name + sum_by f (names_in_order rows) = sum_put f row.name (names_in_order rows) (names_apart row.name rows once.0) in
    let second : sum_by (λ (r : KeyRow). f r.name) (row ∷ rows) ≡ f row.name + sum_by (λ (r : KeyRow). f r.name) rows = sum_by-cons (λ (r : KeyRow). f r.name) row rows in
    omega (arith, rest, first, second)

-- each is found by its name

abbrev Finds : List KeyRow → KeyRow → Type 0
Finds all row = find_name all row.name ≡ Some row

finds_more : (key : KeyRow) (all rows : List KeyRow) → AllByRecursion (λ (other : KeyRow). other.name ≢ key.name) rows → AllByRecursion (Finds all) rows → AllByRecursion (Finds (key ∷ all)) rows
finds_more key all [] apart found = tt
finds_more key all (row ∷ rows) apart found =
    let P : Bool → Type 0 = λ b. bytes_eq key.name row.name ≡ b → cond b (Some key) (find_name all row.name) ≡ Some row in
    let cases : P (bytes_eq key.name row.name) = elim (bytes_eq key.name row.name) as P [
      | true ↦ λ e. absurd (apart.0 (sym ((bytes_eq-Decides key.name row.name).0 e)))
      | false ↦ λ e. found.0
    ] in
    (cases refl, finds_more key all rows apart.1 found.1)

each_found : (rows : List KeyRow) → NamesOnce rows → AllByRecursion (Finds rows) rows
each_found [] once = tt
each_found (row ∷ rows) once =
    (ap (λ (b : Bool). cond b (Some row) (find_name rows row.name)) ((bytes_eq-Decides row.name row.name).1 refl), finds_more row rows rows once.0 (each_found rows once.1))

sum_found : (all rows : List KeyRow) → AllByRecursion (Finds all) rows → sum_by (λ (row : KeyRow). versions_named all row.name) rows ≡ sum_by (λ (row : KeyRow). length row.materials) rows
sum_found all [] found = refl
sum_found all (row ∷ rows) found =
    let f : KeyRow → ℕ = λ r. versions_named all r.name in
    let g : KeyRow → ℕ = λ r. length r.materials in
    let this : f row ≡ g row = ap (λ o. option_map_or (λ (r : KeyRow). length r.materials) o 0) found.0 in
    let rest : sum_by f rows ≡ sum_by g rows = sum_found all rows found.1 in
    let first : sum_by f (row ∷ rows) ≡ f row + sum_by f rows = sum_by-cons f row rows in
    let second : sum_by g (row ∷ rows) ≡ g row + sum_by g rows = sum_by-cons g row rows in
    omega (arith, this, rest, first, second)

-- the versions of the keys with these names, up to the last name, are all versions
pub all_versions : (rows : List KeyRow) (names : List (List ℕ)) (n count : ℕ) → NamesOnce rows → AreNames rows names → count ≡ sum_by (versions_named rows) (take n names) → n ≡ length names
    → count ≡ sum_by (λ (row : KeyRow). length row.materials) rows
all_versions rows names n count once are is end =
    is
    ∙ ap (λ (ns : List (List ℕ)). sum_by (versions_named rows) ns) (take_all n names (omega (arith, end)) ∙ names_are rows names are)
    ∙ sum_in_order (versions_named rows) rows once
    ∙ sum_found rows rows (each_found rows once)
