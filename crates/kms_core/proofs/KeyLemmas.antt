-- Versions of existing keys, and the keys sent for them.
use Rattle.std.proofs.Common.{◌≡◌, ℕ, zero, suc, ◌-◌, List, [], ◌∷◌, length, find, Bool, true, false, cond, Option, None, Some, is_none, IfSome, MatchOption, refl, ap, sym, ◌∙◌, subst}
use Rattle.std.specs.List.{AllByRecursion, slice_get}
use Rattle.std.specs.Option.{option_and_then}
use Rattle.std.specs.Str.{bytes_eq}
use Rattle.std.proofs.lemmas.Slice.Eq.{bytes_eq-Decides}
use Rattle.key_rows.specs.declared.rows.KeyRow.{KeyRow}
use Rattle.kms_calls.specs.declared.calls.RawEdek.{RawEdek}
use Rattle.kms_calls.specs.declared.calls.KmsRefusal.TheVariants.{NoSuchKey, NoSuchVersion, WrongKey, BadMaterial}
use Rattle.key_rows.specs.Table.{find_birth, find_name, is_named, material_of}
use Rattle.kms_core.specs.State.{KmsState}
use Rattle.kms_core.specs.Calls.{first_cause, sent_causes, lacks_version, is_of_other_key, is_malformed, birth_of, row_of, bits_of, current_version}
use Rattle.kms_core.specs.Steps.{IsCurrent, IsNewest}
use Rattle.kms_core.specs.declared.drawing.CurrentVersion.{CurrentVersion}

pub each_get : {X : Type 0} (P : X → Type 0) (xs : List X) (i : ℕ) (x : X) → AllByRecursion P xs → slice_get xs i ≡ Some x → P x
each_get P [] i x each is = absurd cc
each_get P (y ∷ ys) zero x each is = let same : y ≡ x = cc in subst P same each.0
each_get P (y ∷ ys) (suc i) x each is = each_get P ys i x each.1 is

-- an element that is found passes the test
pub found_passes : {X : Type 0} (p : X → Bool) (xs : List X) (x : X) → find p xs ≡ Some x → p x ≡ true
found_passes p [] x found = absurd cc
found_passes {X = X} p (y ∷ ys) x found =
    let P : Bool → Type 0 = λ b. p y ≡ b → cond b (Some y) (find p ys) ≡ Some x → p x ≡ true in
    let cases : P (p y) = elim (p y) as P [
      | true ↦ λ is e. let same : y ≡ x = cc in ap p (sym same) ∙ is
      | false ↦ λ is e. found_passes p ys x e
    ] in
    cases refl found

-- a version of a key that exists
pub version_at : (rows : List KeyRow) (name key : List ℕ) (number : ℕ) (row : KeyRow) (material : List ℕ)
    → find_name rows name ≡ Some row → bytes_eq key name ≡ true → slice_get row.materials number ≡ Some material
    → material_of rows (record { key = key; number = number }) ≡ Some material
version_at rows name key number row material found same got =
    let it : Option KeyRow → Option (List ℕ) = λ o. option_and_then (λ (r : KeyRow). slice_get r.materials number) o in
    ap (λ n. it (find_name rows n)) ((bytes_eq-Decides key name).0 same) ∙ ap it found ∙ got

-- a key that is found has the name
pub named : (rows : List KeyRow) (name : List ℕ) (row : KeyRow) → find_name rows name ≡ Some row → row.name ≡ name
named rows name row found = (bytes_eq-Decides row.name name).0 (found_passes (is_named name) rows row found)

-- the newest version of a key that exists
pub newest_is : (s : KmsState) (name : List ℕ) (row : KeyRow) (current : CurrentVersion) → row_of s name ≡ Some row → find_birth s.table.rows row.birth ≡ Some row → IsNewest row current → IsCurrent s name current
newest_is s name row current found born is = record {
  stands = ap is_none found;
  birth = is.birth ∙ ap birth_of (sym found);
  found = ap (find_birth s.table.rows) is.birth ∙ born ∙ sym found;
  version = is.version ∙ ap current_version (sym found);
  material = ap (material_of s.table.rows) is.version
      ∙ version_at s.table.rows name row.name (length row.materials - 1) row current.material found (found_passes (is_named name) s.table.rows row found) is.material;
}

pub current_is_newest : (s : KmsState) (name : List ℕ) (row : KeyRow) (current : Option CurrentVersion) → row_of s name ≡ Some row → find_birth s.table.rows row.birth ≡ Some row → is_none current ≡ false → IfSome current (IsNewest row)
    → MatchOption current (is_none (row_of s name) ≡ true) (IsCurrent s name)
current_is_newest s name row None found born some is = absurd cc
current_is_newest s name row (Some current) found born some is = newest_is s name row current found born is

pub sent_allowed : (row : Option KeyRow) (name : List ℕ) (sent : RawEdek) → is_none row ≡ false → lacks_version row sent ≡ false → is_of_other_key name sent ≡ false
    → is_malformed (bits_of row) sent ≡ false → first_cause (sent_causes row name sent) ≡ None
sent_allowed row name sent stands has its formed =
    ap (λ b. cond b (Some NoSuchKey) (cond (lacks_version row sent) (Some NoSuchVersion) (cond (is_of_other_key name sent) (Some WrongKey) (cond (is_malformed (bits_of row) sent) (Some BadMaterial) None)))) stands
    ∙ ap (λ b. cond b (Some NoSuchVersion) (cond (is_of_other_key name sent) (Some WrongKey) (cond (is_malformed (bits_of row) sent) (Some BadMaterial) None))) has
    ∙ ap (λ b. cond b (Some WrongKey) (cond (is_malformed (bits_of row) sent) (Some BadMaterial) None)) its
    ∙ ap (λ b. cond b (Some BadMaterial) None) formed
