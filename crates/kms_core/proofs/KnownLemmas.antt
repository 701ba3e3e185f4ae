-- Keys that were sent for a key that is known, and their materials.
use Rattle.std.proofs.Common.{◌≡◌, ℕ, ◌-◌, ◌/◌, List, [], length, Bool, true, false, cond, ◌&&◌, ◌==◌, Option, None, Some, IfSome, ap, sym, ◌∙◌, subst, arith, get_or}
use Rattle.std.specs.Prelude.{IsSome, is_some}
use Rattle.std.specs.List.{slice_get}
use Rattle.std.specs.Option.{option_and_then, option_map, unwrap_or}
use Rattle.std.proofs.lemmas.Bool.Decides.{Decides-eqb, nat_tests}
use Rattle.std.proofs.lemmas.Option.{slice_get-get_or}
use Rattle.std.proofs.lemmas.Slice.Eq.{bytes_eq-Decides}
use Rattle.eek_seal.specs.Seal.{seal, unseal}
use Rattle.hk_base.specs.declared.names.Edek.{Edek}
use Rattle.key_rows.specs.declared.rows.KeyRow.{KeyRow}
use Rattle.key_rows.specs.Table.{current_of, find_name, material_of}
use Rattle.kms_calls.specs.declared.calls.RawEdek.{RawEdek}
use Rattle.kms_calls.specs.declared.calls.KmsRefusal.{KmsRefusal}
use Rattle.kms_core.specs.State.{KmsState}
use Rattle.kms_core.specs.Calls.{edek_of, first_cause, resealed, row_of, same_version, sent_causes, unsealed_dek}
use Rattle.kms_core.specs.Steps.{ChecksSent, HasKey, IsNewest, opened_in}
use Rattle.kms_core.specs.declared.drawing.CurrentVersion.{CurrentVersion}
use Rattle.kms_core.specs.declared.known.Known.{Known}
use Rattle.kms_core.specs.declared.known.SentParts.{SentParts}
use Rattle.key_index.specs.declared.rows.IndexRow.{IndexRow}
use Rattle.key_rows.specs.Sound.{IsRow}
use Rattle.kms_store.specs.Store.{ShowsKey}
use Rattle.kms_core.proofs.KeyLemmas.{each_get, named}
use Rattle.kms_core.proofs.SentLemmas.{resealed_is, same_cause}

eqb-no : {a b : ℕ} → (a ≡ b → ⊥) → (a == b) ≡ false
eqb-no {a} {b} other = grind (arith, nat_tests, other)

module _ (s : KmsState) (name : List ℕ) (known : Known) (has : HasKey s name known) (sent : RawEdek) where
  -- a cause at the key is one of the call
  pub not_free : (why : KmsRefusal) → first_cause (sent_causes (Some has.key) has.key.name sent) ≡ Some why → first_cause (sent_causes (row_of s name) name sent) ≡ Some why
  not_free why stands = sym (same_cause s name has.key sent has.found) ∙ stands

  module _ (parts : SentParts) (checks : ChecksSent has.key sent parts) where
    pub free : first_cause (sent_causes (row_of s name) name sent) ≡ None
    free = sym (same_cause s name has.key sent has.found) ∙ checks.allowed

    its_key : find_name s.table.rows sent.version.key ≡ Some has.key
    its_key = ap (find_name s.table.rows) ((bytes_eq-Decides sent.version.key has.key.name).0 checks.same ∙ named s.table.rows name has.key has.found) ∙ has.found

    -- the version has a material
    pub exists : IsSome (material_of s.table.rows sent.version)
    exists =
        let at : material_of s.table.rows sent.version ≡ Some (get_or has.key.materials sent.version.number []) =
        ap (option_and_then (λ (row : KeyRow). slice_get row.materials sent.version.number)) its_key ∙ slice_get-get_or has.key.materials sent.version.number [] checks.below in
        ap is_some at

    pub of_birth : IfSome (find_name s.table.rows sent.version.key) (λ (key : KeyRow). key.birth ≡ known.birth)
    of_birth = subst (λ (o : Option KeyRow). IfSome o (λ (key : KeyRow). key.birth ≡ known.birth)) (sym its_key) (sym has.knows.birth)

    -- which is as long as the sealed key
    pub as_long : (material : List ℕ) → IfSome (find_name s.table.rows sent.version.key) (λ (key : KeyRow). length material ≡ key.bits / 8) → length material ≡ length parts.sealed
    as_long material long = subst (λ (o : Option KeyRow). IfSome o (λ (key : KeyRow). length material ≡ key.bits / 8)) its_key long ∙ sym checks.as_long

    -- the key that was sent opens under it
    pub opens : (material key : List ℕ) → material_of s.table.rows sent.version ≡ Some material → key ≡ unseal material parts.iv parts.sealed → key ≡ unsealed_dek s sent
    opens material key is opened =
        opened ∙ (λ i. unseal material (checks.iv i) (checks.sealed i)) ∙ sym (ap (λ (o : Option (List ℕ)). unwrap_or (option_map (λ m. unseal m sent.iv sent.sealed) o) []) is)

    -- A key of the current version stays as it is; another one is sealed under the current version.

    same_as : (current : CurrentVersion) → IsNewest has.key current → (b : Bool) → (sent.version.number == current.version.number) ≡ b → same_version sent.version (current_of has.key) ≡ b
    same_as current newest b is =
        (λ i. checks.same i && (sent.version.number == (sym newest.version i).number)) ∙ is

    pub stays : (current : CurrentVersion) → IsNewest has.key current → sent.version.number ≡ current.version.number
        → record { version = sent.version; iv = parts.iv; sealed = parts.sealed } ≡ resealed s name sent
    stays current newest same =
        (λ i. record { version = sent.version; iv = checks.iv i; sealed = checks.sealed i })
        ∙ ap (λ b. cond b (edek_of sent) (moved (opened_in has.key sent))) (sym (same_as current newest true ((Decides-eqb sent.version.number current.version.number).1 same)))
        ∙ resealed_is s name has.key sent has.found checks.allowed
      where
        moved : List ℕ → Edek
        moved dek = record { version = current_of has.key; iv = sent.iv; sealed = seal (unwrap_or (slice_get has.key.materials (length has.key.materials - 1)) []) sent.iv dek }

    pub moves : (current : CurrentVersion) (material dek sealed : List ℕ) → IsNewest has.key current → (sent.version.number ≡ current.version.number → ⊥)
        → material_of s.table.rows sent.version ≡ Some material → dek ≡ unseal material parts.iv parts.sealed → sealed ≡ seal current.material parts.iv dek
        → record { version = current.version; iv = parts.iv; sealed = sealed } ≡ resealed s name sent
    moves current material dek sealed newest other is opened made =
        (λ i. record { version = newest.version i; iv = checks.iv i; sealed = made i }) ∙ (λ i. record { version = current_of has.key; iv = sent.iv; sealed = seal (newest_material i) (checks.iv i) (dek_is i) })
        ∙ ap (λ b. cond b (edek_of sent) (moved (opened_in has.key sent))) (sym (same_as current newest false (eqb-no other)))
        ∙ resealed_is s name has.key sent has.found checks.allowed
      where
        moved : List ℕ → Edek
        moved dek = record { version = current_of has.key; iv = sent.iv; sealed = seal (unwrap_or (slice_get has.key.materials (length has.key.materials - 1)) []) sent.iv dek }

        newest_material : current.material ≡ unwrap_or (slice_get has.key.materials (length has.key.materials - 1)) []
        newest_material = ap (λ (o : Option (List ℕ)). unwrap_or o []) (sym newest.material)

        here : slice_get has.key.materials sent.version.number ≡ Some material
        here = sym (ap (option_and_then (λ (row : KeyRow). slice_get row.materials sent.version.number)) its_key) ∙ is

        dek_is : dek ≡ opened_in has.key sent
        dek_is = opened ∙ (λ i. unseal material (checks.iv i) (checks.sealed i)) ∙ ap (λ (o : Option (List ℕ)). unseal (unwrap_or o []) sent.iv sent.sealed) (sym here)

    pub moves_version : (current : CurrentVersion) → IsNewest has.key current → (sent.version.number ≡ current.version.number → ⊥) → current.version ≡ (resealed s name sent).version
    moves_version current newest other =
        newest.version ∙ ap (λ b. (cond b (edek_of sent) (moved (opened_in has.key sent))).version) (sym (same_as current newest false (eqb-no other)))
        ∙ ap (λ (e : Edek). e.version) (resealed_is s name has.key sent has.found checks.allowed)
      where
        moved : List ℕ → Edek
        moved dek = record { version = current_of has.key; iv = sent.iv; sealed = seal (unwrap_or (slice_get has.key.materials (length has.key.materials - 1)) []) sent.iv dek }

-- the newest version of a key, by what memory has of it
pub shown_newest : (key : KeyRow) (row : IndexRow) → ShowsKey row key → IsRow key
    → IsNewest key (record { birth = row.birth; version = record { key = row.name; number = row.versions - 1 }; material = row.current })
shown_newest key row shows rules = record {
  birth = shows.birth;
  version = λ i. record { key = shows.name i; number = shows.versions i - 1 };
  material = ap (λ n. slice_get key.materials (n - 1)) (sym shows.versions) ∙ shows.current;
  long = each_get (λ (m : List ℕ). length m ≡ key.bits / 8) key.materials (row.versions - 1) row.current rules.materials shows.current;
}
