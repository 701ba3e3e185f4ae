-- Calls that only answer.
use Rattle.std.proofs.Common.{◌≡◌, ◌⊎◌, inl, inr, ℕ, ◌+◌, ◌<◌, List, [], ◌∷◌, ◌++◌, length, take, Bool, true, false, cond, Option, None, Some, is_none, MatchBool, MatchOption, refl, ap, sym, ◌∙◌, subst, arith, get_or}
use Rattle.std.specs.List.{list_any, slice_get}
use Rattle.std.proofs.lemmas.List.{length-take-le, take_more}
use Rattle.std.proofs.lemmas.Option.{slice_get-get_or}
use Rattle.key_rows.specs.declared.rows.KeyRow.{KeyRow}
use Rattle.kms_calls.specs.declared.calls.KeyMeta.{KeyMeta}
use Rattle.kms_calls.specs.declared.calls.KmsCall.{KmsCall}
use Rattle.kms_calls.specs.declared.calls.KmsCall.TheVariants as call
use Rattle.kms_calls.specs.declared.calls.KmsReply.{KmsReply}
use Rattle.kms_calls.specs.declared.calls.KmsReply.TheVariants as reply
use Rattle.kms_calls.specs.declared.calls.KmsRefusal.{KmsRefusal}
use Rattle.kms_calls.specs.declared.calls.KmsRefusal.TheVariants as refusal
use Rattle.kms_calls.specs.Shown.{Shown}
use Rattle.kms_core.specs.State.{KmsState}
use Rattle.kms_core.specs.Calls.{causes, first_cause, is_absent, meta_of, metas_of, row_of, takes_memory, versions_from}
use Rattle.kms_core.specs.Steps.{Answers}
use Rattle.kms_core.proofs.KeyLemmas.{named}
use Rattle.kms_core.proofs.SentLemmas.{each_none, map_more}

-- the three outcomes of such a call

abbrev Ends : KmsCall → KmsReply → KmsReply → Option KmsRefusal → Type 0
Ends c answer result cause = MatchOption cause ((result ≡ answer) ⊎ ((takes_memory c ≡ true) × (result ≡ reply.Refused refusal.NoMemory))) (λ why. result ≡ reply.Refused why)

pub answered : (s : KmsState) (c : KmsCall) (answer result : KmsReply) → first_cause (causes s c) ≡ None → result ≡ answer → Answers s c answer result
answered s c answer result none is = subst (Ends c answer result) (sym none) (inl is)

pub not_answered : (s : KmsState) (c : KmsCall) (answer : KmsReply) (why : KmsRefusal) → first_cause (causes s c) ≡ Some why → Answers s c answer (reply.Refused why)
not_answered s c answer why stands = subst (Ends c answer (reply.Refused why)) (sym stands) refl

pub no_room : (s : KmsState) (c : KmsCall) (answer : KmsReply) → takes_memory c ≡ true → first_cause (causes s c) ≡ None → Answers s c answer (reply.Refused refusal.NoMemory)
no_room s c answer takes none = subst (Ends c answer (reply.Refused refusal.NoMemory)) (sym none) (inr (takes, refl))

-- the key exists
pub present : (row : Option KeyRow) → is_none row ≡ false → cond (is_none row) (Some refusal.NoSuchKey) None ≡ None
present row stands = ap (λ b. cond b (Some refusal.NoSuchKey) None) stands

-- the metadata of keys

pub known_of : (s : KmsState) (name : List ℕ) (row : KeyRow) (known : KeyMeta) → row_of s name ≡ Some row → known ≡ meta_of row.name (Some row)
    → (is_absent s name ≡ false) × (known ≡ meta_of name (row_of s name))
known_of s name row known found is =
    let its = named s.table.rows name row found in
    (ap is_none found, is ∙ (λ i. meta_of (its i) (sym found i)))

pub tells_metadata : (s : KmsState) (name : List ℕ) (known : KeyMeta) → is_absent s name ≡ false → known ≡ meta_of name (row_of s name)
    → Answers s (call.Metadata name) (reply.Metadata (meta_of name (row_of s name))) (reply.Metadata known)
tells_metadata s name known stands is = answered s (call.Metadata name) _ _ (present (row_of s name) stands) (ap reply.Metadata is)

pub tells_no_metadata : (s : KmsState) (name : List ℕ) (why : KmsRefusal) → MatchBool (is_absent s name) (why ≡ refusal.NoSuchKey) (why ≡ refusal.NoMemory)
    → Answers s (call.Metadata name) (reply.Metadata (meta_of name (row_of s name))) (reply.Refused why)
tells_no_metadata s name why is = by_row (is_absent s name) refl is
  where
    by_row : (absent : Bool) → is_absent s name ≡ absent → MatchBool absent (why ≡ refusal.NoSuchKey) (why ≡ refusal.NoMemory)
        → Answers s (call.Metadata name) (reply.Metadata (meta_of name (row_of s name))) (reply.Refused why)
    by_row true stands is = not_answered s (call.Metadata name) _ why (ap (λ b. cond b (Some refusal.NoSuchKey) None) stands ∙ ap Some (sym is))
    by_row false stands is =
        subst (λ (w : KmsRefusal). Answers s (call.Metadata name) (reply.Metadata (meta_of name (row_of s name))) (reply.Refused w)) (sym is)
        (no_room s (call.Metadata name) _ refl (present (row_of s name) stands))

-- keys that exist are refused only for lack of memory
pub only_wanting : (s : KmsState) (names : List (List ℕ)) (i : ℕ) (name : List ℕ) (why : KmsRefusal) → list_any (is_absent s) names ≡ false → i < length names → get_or names i name ≡ name
    → MatchBool (is_absent s name) (why ≡ refusal.NoSuchKey) (why ≡ refusal.NoMemory) → why ≡ refusal.NoMemory
only_wanting s names i name why stand within at is =
    let stands : is_absent s name ≡ false = subst (λ (n : List ℕ). is_absent s n ≡ false) at (each_none (is_absent s) names i name stand within) in
    by_row (is_absent s name) stands is
  where
    by_row : (absent : Bool) → absent ≡ false → MatchBool absent (why ≡ refusal.NoSuchKey) (why ≡ refusal.NoMemory) → why ≡ refusal.NoMemory
    by_row true stands is = absurd cc
    by_row false stands is = is

pub one_more_known : (s : KmsState) (names : List (List ℕ)) (i : ℕ) (name : List ℕ) (known known' : List KeyMeta) (one : KeyMeta) → i < length names → get_or names i name ≡ name
    → known ≡ metas_of s (take i names) → one ≡ meta_of name (row_of s name) → known' ≡ known ++ one ∷ [] → known' ≡ metas_of s (take (i + 1) names)
one_more_known s names i name known known' one within at are is more =
    more ∙ (λ j. are j ++ is j ∷ []) ∙ ap (λ n. metas_of s (take i names) ++ meta_of n (row_of s n) ∷ []) (sym at)
    ∙ sym (map_more (λ n. meta_of n (row_of s n)) (take i names) (get_or names i name)) ∙ ap (metas_of s) (sym (take_more names i name within))

pub tells_metadatas : (s : KmsState) (names : List (List ℕ)) (known : List KeyMeta) → list_any (is_absent s) names ≡ false → known ≡ metas_of s names
    → Answers s (call.Metadatas names) (reply.Metadatas (metas_of s names)) (reply.Metadatas known)
tells_metadatas s names known stand are =
    answered s (call.Metadatas names) _ _ (ap (λ b. cond b (Some refusal.NoSuchKey) None) stand) (ap reply.Metadatas are)

-- versions

versions_from_more : (name : List ℕ) (number : ℕ) (materials : List (List ℕ)) (material : List ℕ)
    → versions_from name number (materials ++ material ∷ [])
    ≡ versions_from name number materials ++ record { version = record { key = name; number = number + length materials }; material = Some material } ∷ []
versions_from_more name number [] material = ap (λ n. record { version = record { key = name; number = n }; material = Some material } ∷ []) (omega arith)
versions_from_more name number (m ∷ ms) material =
    let first : Shown = record { version = record { key = name; number = number }; material = Some m } in
    ap (λ rest. first ∷ rest) (versions_from_more name (number + 1) ms material)
    ∙ ap (λ n. first ∷ (versions_from name (number + 1) ms ++ record { version = record { key = name; number = n }; material = Some material } ∷ [])) (omega arith)

pub one_more_version : (name : List ℕ) (materials : List (List ℕ)) (i : ℕ) (versions versions' : List Shown) → i < length materials
    → versions ≡ versions_from name 0 (take i materials)
    → versions' ≡ versions ++ record { version = record { key = name; number = i }; material = slice_get materials i } ∷ []
    → versions' ≡ versions_from name 0 (take (i + 1) materials)
one_more_version name materials i versions versions' within are more =
    let material : List ℕ = get_or materials i [] in
    more ∙ (λ j. are j ++ record { version = record { key = name; number = i }; material = slice_get-get_or materials i [] within j } ∷ [])
    ∙ ap (λ n. versions_from name 0 (take i materials) ++ record { version = record { key = name; number = n }; material = Some material } ∷ []) (sym (front materials i within))
    ∙ sym (versions_from_more name 0 (take i materials) material) ∙ ap (versions_from name 0) (sym (take_more materials i [] within))
  where
    front : (xs : List (List ℕ)) (i : ℕ) → i < length xs → 0 + length (take i xs) ≡ i
    front xs i within = omega (arith, length-take-le i xs (omega (arith, within)))
