-- What look-ups in an index say of the table that it stands for.
use Rattle.std.proofs.Common.{◌≡◌, ℕ, zero, suc, ◌+◌, ◌-◌, ◌<◌, ◌/◌, Bool, true, false, cond, nat_lt, List, [], ◌∷◌, find, length, Option, None, Some, option_map, is_some, IfSome, refl, sym, ◌∙◌, ap, subst, arith}
use Rattle.std.specs.Prelude.{option_and_then, slice_get}
use Rattle.std.specs.List.{AllByRecursion}
use Rattle.std.proofs.lemmas.Option.{slice_get-map}
use Rattle.std.proofs.lemmas.Bool.{ltb-true}
use Rattle.hk_base.specs.Disk.{piece}
use Rattle.hk_base.specs.declared.names.VersionName.{VersionName}
use Rattle.key_rows.specs.declared.rows.KeyRow.{KeyRow}
use Rattle.key_rows.specs.Table.{current_of, find_birth, find_name}
use Rattle.key_rows.proofs.Births.{found_has}
use Rattle.key_index.specs.declared.rows.IndexRow.{IndexRow}
use Rattle.key_index.specs.declared.rows.PlacedRow.{PlacedRow}
use Rattle.key_index.specs.Index.{Index, Materials, is_born, is_named, older_place, place_of, row_of, rows_of}
use Rattle.key_index.specs.Held.{IsHeld, IsMaterialAt, has_older}
use Rattle.key_index.specs.Sound.{IsIndexRow, IsPlacedRow, IsSoundIndex}
use Rattle.key_index.proofs.Searches.{born_in, by_birth, named_in, nothing}
use Rattle.key_index.proofs.Standing.{versions_of}

-- an older version, and its place

placed_within : (places : List ℕ) (number : ℕ) → number < length places → is_some (slice_get places number) ≡ true
placed_within [] number within = absurd (omega arith)
placed_within (p ∷ places) zero within = refl
placed_within (p ∷ places) (suc number) within = placed_within places number (omega arith)

older_found : (m : Materials) (f : Option PlacedRow) (number : ℕ) → IfSome f IsPlacedRow → is_some (option_and_then (older_place number) f) ≡ has_older (option_map (λ placed. row_of m placed.row) f) number
older_found m None number is = refl
older_found m (Some placed) number is = tested (nat_lt (number + 1) placed.row.versions) refl ∙ ap (λ (n : ℕ). nat_lt (number + 1) n) (sym (versions_of m placed.row (omega (arith, is.row.some))))
  where
    tested : (b : Bool) → nat_lt (number + 1) placed.row.versions ≡ b → is_some (cond b (slice_get placed.places number) None) ≡ b
    tested true e = placed_within placed.places number (omega (arith, is.places, ltb-true (number + 1) placed.row.versions e))
    tested false e = refl

pub older_is : (m : Materials) (rows : List PlacedRow) (version : VersionName) → AllByRecursion IsPlacedRow rows → is_some (place_of rows version) ≡ has_older (find_name (rows_of m rows) version.key) version.number
older_is m rows version are =
    older_found m (find (is_named version.key) rows) version.number (found_has IsPlacedRow (is_named version.key) rows are)
    ∙ ap (λ (o : Option KeyRow). has_older o version.number) (sym (named_in m rows version.key))

-- the piece of the file at the place of a version is its material
pub held_place : (m : Materials) (file : List ℕ) (rows : List PlacedRow) (version : VersionName) → AllByRecursion (IsHeld m file) rows → IfSome (place_of rows version) (IsMaterialAt (rows_of m rows) version file)
held_place m file rows version held = go (find (is_named version.key) rows) (named_in m rows version.key) (found_has (IsHeld m file) (is_named version.key) rows held)
  where
    there : (placed : PlacedRow) (o : Option ℕ) → find_name (rows_of m rows) version.key ≡ Some (row_of m placed.row) → slice_get (row_of m placed.row).materials version.number ≡ option_map (λ place. piece place (placed.row.bits / 8) file) o
        → (b : Bool) → IfSome (cond b o None) (IsMaterialAt (rows_of m rows) version file)
    there placed o found material false = tt
    there placed None found material true = tt
    there placed (Some place) found material true = record { row = row_of m placed.row; found = found; material = material }

    go : (f : Option PlacedRow) → find_name (rows_of m rows) version.key ≡ option_map (λ placed. row_of m placed.row) f → IfSome f (IsHeld m file) → IfSome (option_and_then (older_place version.number) f) (IsMaterialAt (rows_of m rows) version file)
    go None found is = tt
    go (Some placed) found is =
        there placed (slice_get placed.places version.number) found
        (ap (λ (l : List (List ℕ)). slice_get l version.number) (sym is.pieces) ∙ slice_get-map (λ place. piece place (placed.row.bits / 8) file) placed.places version.number)
        (nat_lt (version.number + 1) placed.row.versions)

-- what is found by a name or a birth

pub named_as : (m : Materials) (rows : List PlacedRow) (name : List ℕ) (o : Option PlacedRow) → o ≡ find (is_named name) rows → option_map (λ placed. row_of m placed.row) o ≡ find_name (rows_of m rows) name
named_as m rows name o found = ap (option_map (λ placed. row_of m placed.row)) found ∙ sym (named_in m rows name)

pub born_as : (m : Materials) (rows : List PlacedRow) (birth : ℕ) (o : Option PlacedRow) → o ≡ find (is_born birth) rows → option_map (λ placed. row_of m placed.row) o ≡ find_birth (rows_of m rows) birth
born_as m rows birth o found = ap (option_map (λ placed. row_of m placed.row)) found ∙ sym (born_in m rows birth)

-- a row that is found is sound
pub found_sound : (p : PlacedRow → Bool) (rows : List PlacedRow) (placed : PlacedRow) → AllByRecursion IsPlacedRow rows → Some placed ≡ find p rows → IsIndexRow placed.row
found_sound p rows placed are found = (subst (λ (o : Option PlacedRow). IfSome o IsPlacedRow) (sym found) (found_has IsPlacedRow p rows are)).row

-- and has its birth alone
pub found_alone : (m : Materials) (x : Index) (name : List ℕ) (placed : PlacedRow) → IsSoundIndex x → Some placed ≡ find (is_named name) x.rows → find_birth (rows_of m x.rows) placed.row.birth ≡ Some (row_of m placed.row)
found_alone m x name placed is found =
    born_in m x.rows placed.row.birth
    ∙ ap (option_map (λ p. row_of m p.row)) (subst (λ (o : Option PlacedRow). IfSome o (λ p. find (is_born p.row.birth) x.rows ≡ Some p)) (sym found) (by_birth nothing 0 (is_named name) x.rows x.greatest (is.births nothing)))

pub current_as : (m : Materials) (o : Option KeyRow) (row : IndexRow) → IsIndexRow row → Some (row_of m row) ≡ o → Some (record { key = row.name; number = row.versions - 1 }) ≡ option_map current_of o
current_as m o row is found = ap (λ (n : ℕ). Some (record { key = row.name; number = n - 1 })) (sym (versions_of m row (omega (arith, is.some)))) ∙ ap (option_map current_of) found
