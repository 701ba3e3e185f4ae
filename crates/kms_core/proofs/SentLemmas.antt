-- Sent keys, at their key and in the service.
use Rattle.std.proofs.Common.{◌≡◌, ℕ, zero, suc, ◌-◌, ◌<◌, List, [], ◌∷◌, ◌++◌, length, map, Bool, true, false, cond, nat_lt, nat_le, Option, None, Some, is_none, refl, ap, sym, ◌∙◌, subst, arith, get_or}
use Rattle.std.specs.List.{list_any, slice_get}
use Rattle.std.specs.Option.{option_and_then, option_map, unwrap_or}
use Rattle.std.specs.Str.{bytes_eq}
use Rattle.std.proofs.lemmas.Bool.Decides.{nat_tests}
use Rattle.std.proofs.lemmas.Option.{slice_get-get_or}
use Rattle.std.proofs.lemmas.Bool.{not-false, or_parts}
use Rattle.hk_base.specs.declared.names.Edek.{Edek}
use Rattle.eek_seal.specs.Seal.{seal, unseal}
use Rattle.key_rows.specs.declared.rows.KeyRow.{KeyRow}
use Rattle.kms_calls.specs.declared.calls.RawEdek.{RawEdek}
use Rattle.kms_calls.specs.declared.calls.KmsRefusal.{KmsRefusal}
use Rattle.kms_calls.specs.declared.calls.KmsRefusal.TheVariants as refusal
use Rattle.key_rows.specs.Table.{find_name, material_of, current_of}
use Rattle.kms_core.specs.State.{KmsState}
use Rattle.kms_core.specs.Opening.{unseals}
use Rattle.kms_core.specs.Calls.{first_cause, sent_causes, batch_causes, lacks_version, is_of_other_key, is_malformed, row_of, bits_of, current_version, current_material, edek_of, same_version, unsealed_dek, resealed}
use Rattle.kms_core.specs.Steps.{Allowed, opened_in, resealed_in}
use Rattle.kms_core.proofs.KeyLemmas.{named, sent_allowed, version_at}

-- no cause is true: not the first, and none of the rest
pub none_stands : (cause : Bool) (why : KmsRefusal) (rest : List (Bool × KmsRefusal)) → first_cause ((cause, why) ∷ rest) ≡ None → (cause ≡ false) × (first_cause rest ≡ None)
none_stands true why rest none = absurd cc
none_stands false why rest none = (refl, none)

-- what a sent key without a cause of a refusal has
pub record SentHas (row : Option KeyRow) (name : List ℕ) (sent : RawEdek) : Type 0 where
  pub stands : is_none row ≡ false
  pub has : lacks_version row sent ≡ false
  pub its : is_of_other_key name sent ≡ false

pub sent_has : (row : Option KeyRow) (name : List ℕ) (sent : RawEdek) → first_cause (sent_causes row name sent) ≡ None → SentHas row name sent
sent_has row name sent none =
    let malformed : List (Bool × KmsRefusal) = (is_malformed (bits_of row) sent, refusal.BadMaterial) ∷ [] in
    let other : List (Bool × KmsRefusal) = (is_of_other_key name sent, refusal.WrongKey) ∷ malformed in
    let lacking : List (Bool × KmsRefusal) = (lacks_version row sent, refusal.NoSuchVersion) ∷ other in
    let one = none_stands (is_none row) refusal.NoSuchKey lacking none in
    let two = none_stands (lacks_version row sent) refusal.NoSuchVersion other one.1 in
    let three = none_stands (is_of_other_key name sent) refusal.WrongKey malformed two.1 in
    record { stands = one.0; has = two.0; its = three.0 }

-- its version exists
pub sent_version : (row : KeyRow) (sent : RawEdek) → Allowed row sent
    → (bytes_eq sent.version.key row.name ≡ true) × (slice_get row.materials sent.version.number ≡ Some (unwrap_or (slice_get row.materials sent.version.number) []))
sent_version row sent allowed =
    let has = sent_has (Some row) row.name sent allowed in
    let below : nat_le (length row.materials) sent.version.number ≡ false = has.has in
    let within : sent.version.number < length row.materials = grind (arith, nat_tests, below) in
    let got = slice_get-get_or row.materials sent.version.number [] within in
    (not-false (bytes_eq sent.version.key row.name) has.its, got ∙ ap (λ o. Some (unwrap_or o [])) (sym got))

-- the causes at the key are those of the call
pub same_cause : (s : KmsState) (name : List ℕ) (row : KeyRow) (sent : RawEdek) → row_of s name ≡ Some row
    → first_cause (sent_causes (Some row) row.name sent) ≡ first_cause (sent_causes (row_of s name) name sent)
same_cause s name row sent found =
    let its = named s.table.rows name row found in
    λ i. first_cause (sent_causes (sym found i) (its i) sent)

pub same_causes : (s : KmsState) (name : List ℕ) (row : KeyRow) (sent : List RawEdek) → row_of s name ≡ Some row
    → first_cause (batch_causes (Some row) row.name sent) ≡ first_cause (batch_causes (row_of s name) name sent)
same_causes s name row sent found =
    let its = named s.table.rows name row found in
    λ i. first_cause (batch_causes (sym found i) (its i) sent)

-- the sent key opens under the material of its version
pub opened_is : (s : KmsState) (name : List ℕ) (row : KeyRow) (sent : RawEdek) → row_of s name ≡ Some row → Allowed row sent
    → unseals s.table.rows (edek_of sent) ≡ Some (opened_in row sent)
opened_is s name row sent found allowed =
    let has = sent_version row sent allowed in
    let same : bytes_eq sent.version.key name ≡ true = subst (λ (n : List ℕ). bytes_eq sent.version.key n ≡ true) (named s.table.rows name row found) has.0 in
    ap (option_map (λ m. unseal m sent.iv sent.sealed)) (version_at s.table.rows name sent.version.key sent.version.number row _ found same has.1)

pub current_material_is : (s : KmsState) (name : List ℕ) (row : KeyRow) → row_of s name ≡ Some row
    → current_material s name ≡ unwrap_or (slice_get row.materials (length row.materials - 1)) []
current_material_is s name row found =
    let it : Option KeyRow → List ℕ = λ o. unwrap_or (option_and_then (λ (r : KeyRow). slice_get r.materials (length row.materials - 1)) o) [] in
    ap (λ o. unwrap_or (material_of s.table.rows (current_version o)) []) found
    ∙ ap (λ n. it (find_name s.table.rows n)) (named s.table.rows name row found) ∙ ap it found

-- it is sealed under the current version
pub resealed_is : (s : KmsState) (name : List ℕ) (row : KeyRow) (sent : RawEdek) → row_of s name ≡ Some row → Allowed row sent
    → resealed_in row sent ≡ resealed s name sent
resealed_is s name row sent found allowed =
    let material = current_material_is s name row found in
    let key : unsealed_dek s sent ≡ opened_in row sent = ap (λ o. unwrap_or o []) (opened_is s name row sent found allowed) in
    let both : Edek → Edek = λ e. cond (same_version sent.version (current_of row)) (edek_of sent) e in
    (λ i. both (record { version = current_of row; iv = sent.iv; sealed = seal (sym material i) sent.iv (sym key i) }))
    ∙ ap (λ o. cond (same_version sent.version (current_version o)) (edek_of sent) (record { version = current_version o; iv = sent.iv; sealed = seal (current_material s name) sent.iv (unsealed_dek s sent) })) (sym found)

-- keys sent together

pub record BatchHas (row : Option KeyRow) (name : List ℕ) (sent : List RawEdek) : Type 0 where
  pub stands : is_none row ≡ false
  pub has : list_any (lacks_version row) sent ≡ false
  pub its : list_any (is_of_other_key name) sent ≡ false
  pub formed : list_any (is_malformed (bits_of row)) sent ≡ false

pub batch_has : (row : Option KeyRow) (name : List ℕ) (sent : List RawEdek) → first_cause (batch_causes row name sent) ≡ None → BatchHas row name sent
batch_has row name sent none =
    let many : List (Bool × KmsRefusal) = (nat_lt 1000 (length sent), refusal.TooManyAsked) ∷ [] in
    let malformed : List (Bool × KmsRefusal) = (list_any (is_malformed (bits_of row)) sent, refusal.BadMaterial) ∷ many in
    let other : List (Bool × KmsRefusal) = (list_any (is_of_other_key name) sent, refusal.WrongKey) ∷ malformed in
    let lacking : List (Bool × KmsRefusal) = (list_any (lacks_version row) sent, refusal.NoSuchVersion) ∷ other in
    let one = none_stands (is_none row) refusal.NoSuchKey lacking none in
    let two = none_stands (list_any (lacks_version row) sent) refusal.NoSuchVersion other one.1 in
    let three = none_stands (list_any (is_of_other_key name) sent) refusal.WrongKey malformed two.1 in
    let four = none_stands (list_any (is_malformed (bits_of row)) sent) refusal.BadMaterial many three.1 in
    record { stands = one.0; has = two.0; its = three.0; formed = four.0 }

pub each_none : {X : Type 0} (p : X → Bool) (xs : List X) (i : ℕ) (d : X) → list_any p xs ≡ false → i < length xs → p (get_or xs i d) ≡ false
each_none p [] i d none within = absurd (omega arith)
each_none p (x ∷ xs) zero d none within = (or_parts (p x) (list_any p xs) none).0
each_none p (x ∷ xs) (suc i) d none within = each_none p xs i d (or_parts (p x) (list_any p xs) none).1 (omega arith)

-- none of them is refused
pub each_allowed : (row : KeyRow) (sent : List RawEdek) (i : ℕ) (d : RawEdek) → first_cause (batch_causes (Some row) row.name sent) ≡ None → i < length sent
    → Allowed row (get_or sent i d)
each_allowed row sent i d none within =
    let all = batch_has (Some row) row.name sent none in
    sent_allowed (Some row) row.name (get_or sent i d) refl (each_none (lacks_version (Some row)) sent i d all.has within)
    (each_none (is_of_other_key row.name) sent i d all.its within) (each_none (is_malformed row.bits) sent i d all.formed within)

pub map_more : {X Y : Type 0} (f : X → Y) (xs : List X) (x : X) → map f (xs ++ x ∷ []) ≡ map f xs ++ f x ∷ []
map_more f [] x = refl
map_more f (y ∷ ys) x = ap (λ rest. f y ∷ rest) (map_more f ys x)
