-- Data encryption keys that are re-encrypted.
use Rattle.std.proofs.Common.{◌≡◌, ℕ, zero, suc, List, [], ◌∷◌, length, map, Bool, true, false, ◌==◌, cond, Option, None, Some, refl, ap, sym, ◌∙◌, subst}
use Rattle.std.specs.List.{list_any, slice_get}
use Rattle.std.specs.Option.{option_map, unwrap_or}
use Rattle.std.specs.Str.{bytes_eq}
use Rattle.std.proofs.lemmas.Bool.Decides.{Decides-eqb}
use Rattle.std.proofs.lemmas.Slice.Eq.{bytes_eq-Decides}
use Rattle.std.proofs.lemmas.Bool.{and_parts, or_parts}
use Rattle.hk_base.specs.declared.names.Edek.{Edek}
use Rattle.hk_base.specs.declared.names.VersionName.{VersionName}
use Rattle.eek_seal.specs.Seal.{seal, unseal}
use Rattle.eek_seal.proofs.SealLemmas.{unseal-seal}
use Rattle.kms_calls.specs.declared.calls.RawEdek.{RawEdek}
use Rattle.kms_calls.specs.declared.calls.KmsCall.{KmsCall}
use Rattle.kms_calls.specs.declared.calls.KmsCall.TheVariants as call
use Rattle.kms_calls.specs.declared.calls.KmsReply.{KmsReply}
use Rattle.kms_calls.specs.declared.calls.KmsReply.TheVariants as reply
use Rattle.kms_calls.specs.declared.calls.KmsRefusal.{KmsRefusal}
use Rattle.kms_calls.specs.declared.calls.KmsRefusal.TheVariants as refusal
use Rattle.key_rows.specs.declared.rows.KeyRow.{KeyRow}
use Rattle.key_rows.specs.Sound.{IsKeyTable}
use Rattle.kms_core.specs.State.{KmsState}
use Rattle.kms_core.specs.Opening.{unseals}
use Rattle.kms_core.specs.Calls.{CallActs, Plain, NoRoom, Ending, outcome, accepted, deed, causes, first_cause, unless_refused, only_answer, sent_causes, batch_causes, lacks_version, is_of_other_key, is_malformed, row_of, bits_of, edek_of, current_version, current_material, same_version, unsealed_dek, resealed}
use Rattle.kms_core.specs.Laws.{BatchOpens, ReencryptedOpens, SameKey}
use Rattle.kms_core.proofs.KeyLemmas.{sent_allowed}
use Rattle.kms_core.proofs.LawLemmas.{Standing_key, standing_key, opens_to}
use Rattle.kms_core.proofs.SentLemmas.{batch_has, sent_has}

-- the reply of a call that only answers, if it is not refused
record Told (s : KmsState) (c : KmsCall) (answer result : KmsReply) (s' : KmsState) : Type 0 where
  none : first_cause (causes s c) ≡ None
  is : result ≡ answer
  same : s' ≡ s

has_answered : (s : KmsState) (words : ℕ → ℕ) (now : ℕ) (c : KmsCall) (answer result : KmsReply) (s' : KmsState) (words' : ℕ → ℕ)
    → deed s words now c ≡ only_answer s answer → ((why : KmsRefusal) → result ≡ reply.Refused why → ⊥) → CallActs s words now c result s' words' → Told s c answer result s'
has_answered s words now c answer result s' words' deed_is let_go acts = by_end acts.acts.0 acts.acts.2
  where
    by_cause : (cause : Option KmsRefusal) → first_cause (causes s c) ≡ cause → (record { reply = result; drawn = acts.drawn; state = s' }) ≡ unless_refused cause s (deed s words now c)
        → Told s c answer result s'
    by_cause (Some why) stands is = absurd (let_go why (ap (λ o. o.reply) is))
    by_cause None none is =
        record { none = none; is = ap (λ o. o.reply) is ∙ ap (λ d. d.answer) deed_is; same = ap (λ o. o.state) is ∙ ap (λ d. (accepted d).state) deed_is }

    by_end : (e : Ending) → (record { reply = result; drawn = acts.drawn; state = s' }) ≡ outcome s words now c e → Told s c answer result s'
    by_end Plain is = by_cause (first_cause (causes s c)) refl is
    by_end (NoRoom some) is = absurd (let_go refusal.NoMemory (ap (λ o. o.reply) is))

same_version_is : (version other : VersionName) → same_version version other ≡ true → version ≡ other
same_version_is version other same =
    let parts = and_parts (bytes_eq version.key other.key) (version.number == other.number) same in
    let key : version.key ≡ other.key = (bytes_eq-Decides version.key other.key).0 parts.0 in
    let number : version.number ≡ other.number = (Decides-eqb version.number other.number).0 parts.1 in
    λ i. record { key = key i; number = number i }

-- a sent key without a cause of a refusal, sealed under the current version
same_key : (s : KmsState) (name : List ℕ) (sent : RawEdek) → IsKeyTable s.table → first_cause (sent_causes (row_of s name) name sent) ≡ None
    → SameKey s name sent s (resealed s name sent)
same_key s name sent is none = cases refl
  where
    row : (r : KeyRow) × Standing_key s name r
    row = standing_key s name is (sent_has (row_of s name) name sent none).stands

    opens : (key : List ℕ) × (unseals s.table.rows (edek_of sent) ≡ Some key)
    opens = opens_to s name sent none

    version : VersionName
    version = current_version (row_of s name)

    material : List ℕ
    material = current_material s name

    again : Edek
    again = record { version = version; iv = sent.iv; sealed = seal material sent.iv (unsealed_dek s sent) }

    after : unseals s.table.rows again ≡ Some opens.0
    after = ap (option_map (λ m. unseal m sent.iv (seal material sent.iv (unsealed_dek s sent)))) row.1.has
        ∙ ap Some (unseal-seal material sent.iv (unsealed_dek s sent)) ∙ ap (λ o. Some (unwrap_or o [])) opens.1

    P : Bool → Type 0
    P b = same_version sent.version version ≡ b → SameKey s name sent s (cond b (edek_of sent) again)

    cases : P (same_version sent.version version)
    cases = elim (same_version sent.version version) as P [
      | true ↦ λ same. record { dek = opens.0; before = opens.1; after = opens.1; iv = refl; version = same_version_is sent.version version same }
      | false ↦ λ other. record { dek = opens.0; before = opens.1; after = after; iv = refl; version = refl }
    ]

moved : (s : KmsState) (name : List ℕ) (sent : RawEdek) (s' : KmsState) (key key' : Edek) → s' ≡ s → key' ≡ key → SameKey s name sent s key → SameKey s name sent s' key'
moved s name sent s' key key' same is it = subst (λ (t : KmsState). SameKey s name sent t key') (sym same) (subst (λ (k : Edek). SameKey s name sent s k) (sym is) it)

pub reencrypted_opens : ReencryptedOpens
reencrypted_opens s words now name sent key s' words' is acts =
    let got = has_answered s words now (call.Reencrypt name sent) (reply.Resealed (resealed s name sent)) (reply.Resealed key) s' words' refl (λ why no. absurd cc) acts in
    let tells : reply.Resealed key ≡ reply.Resealed (resealed s name sent) = got.is in
    let key_is : key ≡ resealed s name sent = cc in
    moved s name sent s' (resealed s name sent) key got.same key_is (same_key s name sent is got.none)

-- keys sent together

neither_at : {X : Type 0} (p : X → Bool) (xs : List X) (i : ℕ) (x : X) → list_any p xs ≡ false → slice_get xs i ≡ Some x → p x ≡ false
neither_at p [] i x none at = absurd cc
neither_at p (y ∷ ys) zero x none at = let same : y ≡ x = cc in ap p (sym same) ∙ (or_parts (p y) (list_any p ys) none).0
neither_at p (y ∷ ys) (suc i) x none at = neither_at p ys i x (or_parts (p y) (list_any p ys) none).1 at

one_allowed : (row : Option KeyRow) (name : List ℕ) (sent : List RawEdek) (i : ℕ) (one : RawEdek) → first_cause (batch_causes row name sent) ≡ None → slice_get sent i ≡ Some one
    → first_cause (sent_causes row name one) ≡ None
one_allowed row name sent i one none at =
    let all = batch_has row name sent none in
    sent_allowed row name one all.stands (neither_at (lacks_version row) sent i one all.has at) (neither_at (is_of_other_key name) sent i one all.its at)
    (neither_at (is_malformed (bits_of row)) sent i one all.formed at)

length-map : {X Y : Type 0} (f : X → Y) (xs : List X) → length (map f xs) ≡ length xs
length-map f [] = refl
length-map f (x ∷ xs) = ap suc (length-map f xs)

map_at : {X Y : Type 0} (f : X → Y) (xs : List X) (i : ℕ) (x : X) (y : Y) → slice_get xs i ≡ Some x → slice_get (map f xs) i ≡ Some y → y ≡ f x
map_at f [] i x y at got = absurd cc
map_at f (z ∷ zs) zero x y at got = let one : z ≡ x = cc in let two : f z ≡ y = cc in sym two ∙ ap f one
map_at f (z ∷ zs) (suc i) x y at got = map_at f zs i x y at got

pub batch_opens : BatchOpens
batch_opens s words now name sent keys s' words' is acts =
    let got = has_answered s words now (call.Batch name sent) (reply.Ready (map (resealed s name) sent)) (reply.Ready keys) s' words' refl (λ why no. absurd cc) acts in
    let tells : reply.Ready keys ≡ reply.Ready (map (resealed s name) sent) = got.is in
    let keys_are : keys ≡ map (resealed s name) sent = cc in (
      ap length keys_are ∙ length-map (resealed s name) sent,
      λ place one key at got_key.
          let key_is : key ≡ resealed s name one = map_at (resealed s name) sent place one key at (ap (λ ks. slice_get ks place) (sym keys_are) ∙ got_key) in
          moved s name one s' (resealed s name one) key got.same key_is (same_key s name one is (one_allowed (row_of s name) name sent place one got.none at)),
    )
