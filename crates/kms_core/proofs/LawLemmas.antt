-- Data encryption keys that are generated and decrypted.
use Rattle.std.proofs.Common.{◌≡◌, ℕ, zero, suc, ◌+◌, ◌-◌, ◌*◌, ◌/◌, ◌<◌, ◌≤◌, ◌⊎◌, inl, inr, List, [], ◌∷◌, ◌++◌, length, take, Bool, true, false, not, ◌||◌, ◌==◌, nat_lt, nat_le, Option, None, Some, is_none, IfSome, refl, ap, sym, ◌∙◌, subst, arith, get_or, length-append, mul-le-mul_right}
use Rattle.std.specs.Int.{w32, to_le_bytes}
use Rattle.std.specs.List.{slice_get}
use Rattle.std.specs.Option.{option_map, unwrap_or}
use Rattle.std.specs.Str.{bytes_eq}
use Rattle.std.proofs.lemmas.Bool.Decides.{Decides-eqb, nat_tests}
use Rattle.std.proofs.lemmas.Option.{slice_get-get_or}
use Rattle.hk_base.specs.declared.names.Edek.{Edek}
use Rattle.hk_base.specs.declared.names.VersionName.{VersionName}
use Rattle.eek_seal.specs.Seal.{seal, unseal}
use Rattle.eek_seal.proofs.SealLemmas.{unseal-seal, length-seal}
use Rattle.key_rows.specs.declared.rows.KeyRow.{KeyRow}
use Rattle.kms_calls.specs.declared.calls.RawEdek.{RawEdek}
use Rattle.kms_calls.specs.declared.calls.KmsCall.TheVariants as call
use Rattle.kms_calls.specs.declared.calls.KmsReply.{KmsReply}
use Rattle.kms_calls.specs.declared.calls.KmsReply.TheVariants as reply
use Rattle.kms_calls.specs.declared.calls.KmsRefusal.{KmsRefusal}
use Rattle.kms_calls.specs.declared.calls.KmsRefusal.TheVariants as refusal
use Rattle.key_rows.specs.Table.{current_of, find_birth, find_name, is_named, is_length, material_of}
use Rattle.key_rows.specs.Sound.{IsKeyTable, IsRow}
use Rattle.key_rows.proofs.TableLemmas.{found_birth, found_row}
use Rattle.kms_core.specs.State.{KmsState}
use Rattle.kms_core.specs.Draws.{drawn, drawn_iv, drawn_dek, drawn_edek, drawn_edeks, place_of_draw, words_of_draw}
use Rattle.kms_core.specs.Opening.{unseals}
use Rattle.kms_core.specs.Calls.{CallActs, Plain, NoRoom, Ending, MayEnd, outcome, deed, first_cause, unless_refused, sent_causes, generate_causes, generated, is_malformed, birth_of, ready_of, row_of, edek_of, current_version, current_material}
use Rattle.kms_core.specs.Laws.{DecryptOpens, DrawsApart, DrawsReadTheirOwn, GeneratedDecrypts, GeneratedOpens, ReadyFirst, ReadyOpens, SameWords, dek_of_draw, sent_of}
use Rattle.std.proofs.lemmas.Bool.{cases_lt}
use Rattle.std.proofs.lemmas.List.{take_all, length-take-le}
use Rattle.kms_core.proofs.QueueLemmas.{ready_are}
use Rattle.kms_core.proofs.DrawLemmas.{length-drawn}
use Rattle.kms_core.specs.Steps.{opened_in}
use Rattle.kms_core.proofs.SentLemmas.{none_stands, opened_is, same_cause, sent_has}
use Rattle.kms_core.proofs.KeyLemmas.{each_get, found_passes, sent_allowed, version_at}

-- the answer of decrypt without a cause of a refusal
decrypt_answered : (s : KmsState) (words : ℕ → ℕ) (now : ℕ) (name : List ℕ) (sent : RawEdek) (result : KmsReply) (s' : KmsState) (words' : ℕ → ℕ)
    → first_cause (sent_causes (row_of s name) name sent) ≡ None → CallActs s words now (call.Decrypt name sent) result s' words'
    → result ≡ reply.Key (unwrap_or (unseals s.table.rows (edek_of sent)) [])
decrypt_answered s words now name sent result s' words' none acts = by_end acts.acts.0 acts.acts.1 acts.acts.2
  where
    by_end : (e : Ending) → MayEnd s words now (call.Decrypt name sent) e
        → (record { reply = result; drawn = acts.drawn; state = s' }) ≡ outcome s words now (call.Decrypt name sent) e → result ≡ reply.Key (unwrap_or (unseals s.table.rows (edek_of sent)) [])
    by_end Plain may is = ap (λ o. o.reply) is ∙ ap (λ cause. (unless_refused cause s (deed s words now (call.Decrypt name sent))).reply) none
    by_end (NoRoom some) may is = absurd cc

-- a sent key without a cause of a refusal opens
pub opens_to : (s : KmsState) (name : List ℕ) (sent : RawEdek) → first_cause (sent_causes (row_of s name) name sent) ≡ None → (key : List ℕ) × (unseals s.table.rows (edek_of sent) ≡ Some key)
opens_to s name sent none = by_row (row_of s name) refl
  where
    by_row : (row : Option KeyRow) → row_of s name ≡ row → (key : List ℕ) × (unseals s.table.rows (edek_of sent) ≡ Some key)
    by_row None found = let stands : is_none (row_of s name) ≡ false = (sent_has (row_of s name) name sent none).stands in absurd cc
    by_row (Some row) found = (opened_in row sent, opened_is s name row sent found (same_cause s name row sent found ∙ none))

pub decrypt_opens : DecryptOpens
decrypt_opens s words now name sent result s' words' none acts =
    let opens = opens_to s name sent none in
    (opens.0, opens.1, decrypt_answered s words now name sent result s' words' none acts ∙ ap (λ o. reply.Key (unwrap_or o [])) opens.1)

-- the answer of a generate that returns keys
record Gave (s : KmsState) (words : ℕ → ℕ) (name : List ℕ) (count : ℕ) (keys : List Edek) (s' : KmsState) : Type 0 where
  stands : is_none (row_of s name) ≡ false
  given : keys ≡ take count (ready_of s name) ++ drawn_edeks (current_version (row_of s name)) (current_material s name) words (count - length (ready_of s name))
  same : s'.table ≡ s.table

gave : (s : KmsState) (words : ℕ → ℕ) (now : ℕ) (name : List ℕ) (count : ℕ) (keys : List Edek) (s' : KmsState) (words' : ℕ → ℕ)
    → CallActs s words now (call.Generate name count) (reply.Ready keys) s' words' → Gave s words name count keys s'
gave s words now name count keys s' words' acts = by_end acts.acts.0 acts.acts.2
  where
    by_cause : (cause : Option KmsRefusal) → first_cause (generate_causes (row_of s name) count) ≡ cause
        → (record { reply = reply.Ready keys; drawn = acts.drawn; state = s' }) ≡ unless_refused cause s (generated s words name count) → Gave s words name count keys s'
    by_cause (Some why) found is = let no : reply.Ready keys ≡ reply.Refused why = ap (λ o. o.reply) is in absurd cc
    by_cause None found is =
        let tells : reply.Ready keys ≡ (generated s words name count).answer = ap (λ o. o.reply) is in
        record { stands = (none_stands (is_none (row_of s name)) refusal.NoSuchKey ((nat_lt 1000 count, refusal.TooManyAsked) ∷ []) found).0; given = cc; same = ap (λ o. o.state.table) is }

    by_end : (e : Ending) → (record { reply = reply.Ready keys; drawn = acts.drawn; state = s' }) ≡ outcome s words now (call.Generate name count) e → Gave s words name count keys s'
    by_end Plain is = by_cause (first_cause (generate_causes (row_of s name) count)) refl is
    by_end (NoRoom some) is = let no : reply.Ready keys ≡ reply.Refused refusal.NoMemory = ap (λ o. o.reply) is in absurd cc

-- the keys drawn, by their numbers

length-drawn_edeks : (version : VersionName) (material : List ℕ) (words : ℕ → ℕ) (count : ℕ) → length (drawn_edeks version material words count) ≡ count
length-drawn_edeks version material words zero = refl
length-drawn_edeks version material words (suc n) =
    omega (arith, length-append (drawn_edeks version material words n) (drawn_edek version material words (place_of_draw (length material) n) ∷ []), length-drawn_edeks version material words n)

last_or_before : {X : Type 0} (xs : List X) (x : X) (i : ℕ) (y : X) → slice_get (xs ++ x ∷ []) i ≡ Some y → (slice_get xs i ≡ Some y) ⊎ ((i ≡ length xs) × (y ≡ x))
last_or_before [] x zero y is = inr (refl, cc)
last_or_before [] x (suc i) y is = absurd cc
last_or_before (z ∷ xs) x zero y is = inl is
last_or_before (z ∷ xs) x (suc i) y is = elim (last_or_before xs x i y is) [ inl h ↦ inl h | inr h ↦ inr (ap suc h.0, h.1) ]

drawn_at : (version : VersionName) (material : List ℕ) (words : ℕ → ℕ) (count number : ℕ) (key : Edek)
    → slice_get (drawn_edeks version material words count) number ≡ Some key → key ≡ drawn_edek version material words (place_of_draw (length material) number)
drawn_at version material words zero number key is = absurd cc
drawn_at version material words (suc n) number key is =
    elim (last_or_before (drawn_edeks version material words n) (drawn_edek version material words (place_of_draw (length material) n)) number key is) [
      | inl h ↦ drawn_at version material words n number key h
      | inr h ↦ h.1 ∙ ap (λ m. drawn_edek version material words (place_of_draw (length material) m)) (sym (h.0 ∙ length-drawn_edeks version material words n))
    ]

-- the current version of a key that exists

pub record Standing_key (s : KmsState) (name : List ℕ) (row : KeyRow) : Type 0 where
  pub found : row_of s name ≡ Some row
  pub sound : IsRow row
  pub named : bytes_eq row.name name ≡ true
  pub got : slice_get row.materials (length row.materials - 1) ≡ Some (current_material s name)
  pub has : material_of s.table.rows (current_version (row_of s name)) ≡ Some (current_material s name)

pub standing_key : (s : KmsState) (name : List ℕ) → IsKeyTable s.table → is_none (row_of s name) ≡ false → (row : KeyRow) × Standing_key s name row
standing_key s name is stands = by_row (row_of s name) refl stands (found_row s.table name is)
  where
    by_row : (o : Option KeyRow) → row_of s name ≡ o → is_none o ≡ false → IfSome o IsRow → (row : KeyRow) × Standing_key s name row
    by_row None found stands sound = absurd cc
    by_row (Some row) found stands sound =
        let newest : ℕ = length row.materials - 1 in
        let material : List ℕ = get_or row.materials newest [] in
        let within : newest < length row.materials = omega (arith, sound.some) in
        let got : slice_get row.materials newest ≡ Some material = slice_get-get_or row.materials newest [] within in
        let named : bytes_eq row.name name ≡ true = found_passes (is_named name) s.table.rows row found in
        let has : material_of s.table.rows (current_version (row_of s name)) ≡ Some material =
        ap (λ o. material_of s.table.rows (current_version o)) found ∙ version_at s.table.rows name row.name newest row material found named got in
        let is : Some material ≡ Some (current_material s name) = ap (λ o. Some (unwrap_or o [])) (sym has) in
        (row, record { found = found; sound = sound; named = named; got = got ∙ is; has = has ∙ is })

generated_opens_to : (s : KmsState) (words : ℕ → ℕ) (name : List ℕ) (number : ℕ) (key : Edek) → material_of s.table.rows (current_version (row_of s name)) ≡ Some (current_material s name)
    → key ≡ drawn_edek (current_version (row_of s name)) (current_material s name) words (place_of_draw (length (current_material s name)) number)
    → unseals s.table.rows key ≡ Some (dek_of_draw s words name number)
generated_opens_to s words name number key has is =
    let version : VersionName = current_version (row_of s name) in
    let material : List ℕ = current_material s name in
    let place : ℕ = place_of_draw (length material) number in
    ap (unseals s.table.rows) is ∙ ap (option_map (λ m. unseal m (drawn_iv words place) (seal material (drawn_iv words place) (drawn_dek words place (length material))))) has
    ∙ ap Some (unseal-seal material (drawn_iv words place) (drawn_dek words place (length material)))

get_behind : {X : Type 0} (xs ys : List X) (n : ℕ) → slice_get (xs ++ ys) (length xs + n) ≡ slice_get ys n
get_behind [] ys n = let same : 0 + n ≡ n = omega arith in ap (slice_get ys) same
get_behind (x ∷ xs) ys n = let next : suc (length xs) + n ≡ suc (length xs + n) = omega arith in ap (slice_get (x ∷ xs ++ ys)) next ∙ get_behind xs ys n

get_within : {X : Type 0} (xs ys : List X) (n count : ℕ) → n < count → n < length xs → slice_get (take count xs ++ ys) n ≡ slice_get xs n
get_within [] ys n count asked within = absurd (omega arith)
get_within (x ∷ xs) ys n zero asked within = absurd (omega arith)
get_within (x ∷ xs) ys zero (suc count) asked within = refl
get_within (x ∷ xs) ys (suc n) (suc count) asked within = get_within xs ys n count (omega arith) (omega arith)

none_past : {X : Type 0} (xs : List X) (n : ℕ) → length xs ≤ n → slice_get xs n ≡ None
none_past [] n past = refl
none_past (x ∷ xs) zero past = absurd (omega arith)
none_past (x ∷ xs) (suc n) past = none_past xs n (omega arith)

-- a key after the ready keys is one of those drawn
drawn_behind : (s : KmsState) (words : ℕ → ℕ) (name : List ℕ) (count : ℕ) (keys : List Edek) (s' : KmsState) (number : ℕ) (key : Edek) → Gave s words name count keys s'
    → slice_get keys (length (ready_of s name) + number) ≡ Some key → key ≡ drawn_edek (current_version (row_of s name)) (current_material s name) words (place_of_draw (length (current_material s name)) number)
drawn_behind s words name count keys s' number key all at = elim (cases_lt count (length ready)) [ inl few ↦ absurd (none few) | inr more ↦ drawn_at version material words (count - length ready) number key (behind more) ]
  where
    ready : List Edek
    ready = ready_of s name

    version : VersionName
    version = current_version (row_of s name)

    material : List ℕ
    material = current_material s name

    here : slice_get (take count ready ++ drawn_edeks version material words (count - length ready)) (length ready + number) ≡ Some key
    here = ap (λ ks. slice_get ks (length ready + number)) (sym all.given) ∙ at

    none : count < length ready → ⊥
    none few =
        let no_draw : count - length ready ≡ 0 = omega (arith, few) in
        let short : length (take count ready ++ drawn_edeks version material words (count - length ready)) ≤ length ready + number =
        omega (arith, length-append (take count ready) (drawn_edeks version material words (count - length ready)), length-drawn_edeks version material words (count - length ready), length-take-le count ready, no_draw) in
        let no = sym (none_past (take count ready ++ drawn_edeks version material words (count - length ready)) (length ready + number) short) ∙ here in
        cc

    behind : length ready ≤ count → slice_get (drawn_edeks version material words (count - length ready)) number ≡ Some key
    behind more =
        sym (get_behind ready (drawn_edeks version material words (count - length ready)) number)
        ∙ ap (λ front. slice_get (front ++ drawn_edeks version material words (count - length ready)) (length ready + number)) (sym (take_all count ready more)) ∙ here

pub ready_first : ReadyFirst
ready_first s words now name count keys s' words' acts number asked within =
    ap (λ ks. slice_get ks number) (gave s words now name count keys s' words' acts).given ∙ get_within (ready_of s name) _ number count asked within

pub ready_opens : ReadyOpens
ready_opens s name is stands number key at =
    let row = standing_key s.keys name is.table stands in
    let born : find_birth s.keys.table.rows (birth_of (row_of s.keys name)) ≡ Some row.0 =
    ap (λ o. find_birth s.keys.table.rows (birth_of o)) row.1.found ∙ subst (λ (o : Option KeyRow). IfSome o (λ r. find_birth s.keys.table.rows r.birth ≡ Some r)) row.1.found (found_birth s.keys.table name is.table) in
    let version : key.version ≡ current_version (row_of s.keys name) =
    each_get (λ (e : Edek). e.version ≡ current_of row.0) (ready_of s.keys name) number key (ready_are s.keys.table.rows s.keys.ready.queues (birth_of (row_of s.keys name)) row.0 is.ready born) at
    ∙ ap current_version (sym row.1.found) in
    record {
      version = version;
      opens = ap (λ v. option_map (λ material. unseal material key.iv key.sealed) (material_of s.keys.table.rows v)) version
          ∙ ap (option_map (λ material. unseal material key.iv key.sealed)) row.1.has;
    }

pub generated_opens : GeneratedOpens
generated_opens s words now name count keys s' words' is acts number key at =
    let all = gave s words now name count keys s' words' acts in
    let row = standing_key s name is all.stands in
    let drawn_key = drawn_behind s words name count keys s' number key all at in
    ap (λ t. unseals t.rows key) all.same ∙ generated_opens_to s words name number key row.1.has drawn_key

-- a drawn key is well formed

key_bytes : (bits : ℕ) → is_length bits ≡ true → 4 * (bits / 8 / 4) ≡ bits / 8
key_bytes bits is = grind (arith, nat_tests, is)

well_formed : (bits : ℕ) (version : VersionName) (material : List ℕ) (words : ℕ → ℕ) (place : ℕ) → is_length bits ≡ true → length material ≡ bits / 8
    → is_malformed bits (sent_of (drawn_edek version material words place)) ≡ false
unfolding drawn_iv
well_formed bits version material words place known long =
    let iv : length (drawn words place 4) ≡ 16 = length-drawn words place 4 in
    let dek : length (seal material (drawn words place 4) (drawn_dek words place (length material))) ≡ bits / 8 =
    length-seal material (drawn words place 4) (drawn_dek words place (length material)) ∙ length-drawn words (place + 4) (length material / 4)
    ∙ ap (λ n. 4 * (n / 4)) long ∙ key_bytes bits known in
    neither (length (seal material (drawn words place 4) (drawn_dek words place (length material))) == bits / 8) (length (drawn words place 4) == 16)
    ((Decides-eqb _ _).1 dek) ((Decides-eqb _ _).1 iv)
  where
    neither : (a b : Bool) → a ≡ true → b ≡ true → (not a || not b) ≡ false
    neither a b f g = ap (λ x. not x || not b) f ∙ ap not g

-- a key drawn under the newest version of a key has no cause of a refusal
allowed_back : (row : KeyRow) (name : List ℕ) (material : List ℕ) (words : ℕ → ℕ) (place : ℕ) → IsRow row → bytes_eq row.name name ≡ true
    → slice_get row.materials (length row.materials - 1) ≡ Some material
    → first_cause (sent_causes (Some row) name (sent_of (drawn_edek (current_version (Some row)) material words place))) ≡ None
allowed_back row name material words place sound named got =
    let newer : nat_le (length row.materials) (length row.materials - 1) ≡ false = grind (arith, nat_tests, sound.some) in
    let long : length material ≡ row.bits / 8 = each_get (λ (m : List ℕ). length m ≡ row.bits / 8) row.materials (length row.materials - 1) material sound.materials got in
    sent_allowed (Some row) name (sent_of (drawn_edek (current_version (Some row)) material words place)) refl newer (ap not named)
    (well_formed row.bits (current_version (Some row)) material words place sound.bits long)

pub generated_decrypts : GeneratedDecrypts
generated_decrypts s words now name count keys s' words' is acts number key at later then result s'' later' answered =
    let all = gave s words now name count keys s' words' acts in
    let row = standing_key s name is all.stands in
    let drawn_key = drawn_behind s words name count keys s' number key all at in
    let free : first_cause (sent_causes (row_of s' name) name (sent_of key)) ≡ None = ap (λ t. first_cause (sent_causes (find_name t.rows name) name (sent_of key))) all.same ∙ no_cause s words name number key row.0 row.1 drawn_key in
    decrypt_answered s' later then name (sent_of key) result s'' later' free answered
    ∙ ap (λ o. reply.Key (unwrap_or o [])) (generated_opens s words now name count keys s' words' is acts number key at)
  where
    no_cause : (s : KmsState) (words : ℕ → ℕ) (name : List ℕ) (number : ℕ) (key : Edek) (row : KeyRow) → Standing_key s name row
        → key ≡ drawn_edek (current_version (row_of s name)) (current_material s name) words (place_of_draw (length (current_material s name)) number)
        → first_cause (sent_causes (row_of s name) name (sent_of key)) ≡ None
    no_cause s words name number key row of is =
        let material : List ℕ = current_material s name in
        let place : ℕ = place_of_draw (length material) number in
        subst (λ (k : Edek). first_cause (sent_causes (row_of s name) name (sent_of k)) ≡ None) (sym is)
        (subst (λ (o : Option KeyRow). first_cause (sent_causes o name (sent_of (drawn_edek (current_version o) material words place))) ≡ None) (sym of.found)
        (allowed_back row name material words place of.sound of.named of.got))

-- a draw reads only its own words

same_drawn : (words others : ℕ → ℕ) (place count : ℕ) → SameWords words others place count → drawn words place count ≡ drawn others place count
same_drawn words others place zero same = refl
same_drawn words others place (suc n) same =
    ap (λ bytes. bytes ++ to_le_bytes w32 (words (place + n))) (same_drawn words others place n (λ k within. same k (omega arith)))
    ∙ ap (λ word. drawn others place n ++ to_le_bytes w32 word) (same n (omega arith))

pub draws_read_their_own : DrawsReadTheirOwn
unfolding drawn_iv
draws_read_their_own version material words others place same =
    let len : ℕ = length material in
    let iv : drawn words place 4 ≡ drawn others place 4 = same_drawn words others place 4 (λ k within. same k (omega arith)) in
    let dek : drawn words (place + 4) (len / 4) ≡ drawn others (place + 4) (len / 4) =
    same_drawn words others (place + 4) (len / 4) (λ k within. ap words (omega arith) ∙ same (4 + k) (omega arith) ∙ ap others (omega arith)) in
    record { edek = λ i. record { version = version; iv = iv i; sealed = seal material (iv i) (dek i) }; dek = dek }

pub draws_apart : DrawsApart
draws_apart len number later before =
    let over : number + 1 ≤ later = omega arith in
    let next : place_of_draw len number + words_of_draw len ≡ place_of_draw len (number + 1) = grind arith in
    omega (arith, next, mul-le-mul_right (4 + len / 4) over)
