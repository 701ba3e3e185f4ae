-- From the steps of a call to the call.
use Rattle.std.proofs.Common.{◌≡◌, ℕ, ◌+◌, ◌-◌, ◌/◌, ◌<◌, ◌≤◌, ◌⊎◌, inl, inr, List, [], ◌++◌, length, take, Bool, true, false, ◌&&◌, ◌==◌, cond, nat_lt, nat_le, Option, None, Some, is_none, is_some, MatchOption, refl, ap, sym, ◌∙◌, subst, arith}
use Rattle.std.proofs.lemmas.Bool.Decides.{Decides-eqb}
use Rattle.key_rows.specs.declared.rows.KeyRow.{KeyRow}
use Rattle.key_rows.specs.declared.rows.KeyCommand.TheVariants.{Roll}
use Rattle.key_rows.specs.Table.{applies, find_birth, material_of, may_roll}
use Rattle.kms_core.specs.declared.service.Standing.{Standing}
use Rattle.kms_calls.specs.declared.calls.KmsCall.{KmsCall}
use Rattle.kms_calls.specs.declared.calls.KmsReply.{KmsReply}
use Rattle.kms_calls.specs.declared.calls.KmsReply.TheVariants.{Done, Refused, Ready}
use Rattle.eek_queues.specs.Queues.{AllQueues, ready_in}
use Rattle.hk_base.specs.declared.names.Edek.{Edek}
use Rattle.std.specs.Option.{unwrap_or}
use Rattle.std.proofs.lemmas.Bool.{and_from}
use Rattle.kms_core.specs.declared.drawing.CurrentVersion.{CurrentVersion}
use Rattle.kms_calls.specs.declared.calls.KmsCall.TheVariants as call
use Rattle.kms_calls.specs.declared.calls.KmsRefusal.TheVariants.{NoSuchKey, BadMaterial, TooManyVersions, TooManyAsked, NoMemory}
use Rattle.kms_calls.specs.declared.calls.KmsRefusal.{KmsRefusal}
use Rattle.kms_core.specs.State.{KmsState, emptied}
use Rattle.kms_core.specs.Calls.{CallActs, KmsActs, Plain, NoRoom, takes_memory, causes, deed, first_cause, unless_refused, birth_of, handed_out, invalidated, ready_of, row_of, bits_of, versions_of, is_misfit, roll_causes, only_answer, generate_causes, current_material}
use Rattle.kms_core.specs.Draws.{drawn_edeks, place_of_draw}
use Rattle.kms_core.specs.Steps.{Answers, Drew, DrewSome, Enacts, HandsOut, IsCurrent, StandsSo}

all_three : (a b c : Bool) → a ≡ true → b ≡ true → c ≡ true → (a && b && c) ≡ true
all_three a b c f g h = and_from (a && b) c (and_from a b f g) h

-- a call is refused if a cause is true
pub refuses : (s : KmsState) (words : ℕ → ℕ) (now : ℕ) (c : KmsCall) (why : KmsRefusal) (result : KmsReply) (s' : KmsState) (words' : ℕ → ℕ)
    → first_cause (causes s c) ≡ Some why → result ≡ Refused why → s' ≡ s → ((k : ℕ) → words' k ≡ words k) → CallActs s words now c result s' words'
refuses s words now c why result s' words' cause reply_is same rest = record {
  drawn = 0;
  acts = (Plain, tt, cc);
  rest = λ k. rest k ∙ ap words (omega arith);
}

-- a call without a cause of refusal does its deed
pub enacted : (s : KmsState) (words : ℕ → ℕ) (now : ℕ) (c : KmsCall) (result : KmsReply) (s' : KmsState) (words' : ℕ → ℕ)
    → takes_memory c ≡ true → first_cause (causes s c) ≡ None → Enacts s (deed s words now c) result s'
    → ((k : ℕ) → words' k ≡ words ((deed s words now c).words + k)) → CallActs s words now c result s' words'
enacted s words now c result s' words' takes none (inl done) rest = record {
  drawn = (deed s words now c).words;
  acts = (Plain, tt, cc);
  rest = rest;
}
enacted s words now c result s' words' takes none (inr wanting) rest = record {
  drawn = (deed s words now c).words;
  acts = (NoRoom (deed s words now c).words, (takes, none, omega arith), cc);
  rest = rest;
}

-- a key that exists and has fewer than 65,535 versions may get one more
pub may_get : (row : Option KeyRow) (number bits : ℕ) (material : List ℕ) → is_none row ≡ false → bits ≡ bits_of row → number ≡ versions_of row → number < 65535 → length material ≡ bits / 8
    → may_roll row number material ≡ true
may_get None number bits material stands bits_is versions_is room long = absurd cc
may_get (Some row) number bits material stands bits_is versions_is room long =
    all_three (number == length row.materials) (nat_lt number 65535) (length material == row.bits / 8)
    ((Decides-eqb number (length row.materials)).1 versions_is) (grind arith) ((Decides-eqb (length material) (row.bits / 8)).1 (long ∙ ap (λ n. n / 8) bits_is))

pub can_roll : (s : KmsState) (name : List ℕ) (key : Standing) (material : List ℕ) → 0 < s.table.opening → StandsSo s name key → key.versions < 65535 → length material ≡ key.bits / 8
    → applies s.table (Roll key.birth key.versions material) ≡ true
can_roll s name key material opened so room long =
    and_from (nat_lt 0 s.table.opening) (may_roll (find_birth s.table.rows key.birth) key.versions material)
    (grind arith) (ap (λ row. may_roll row key.versions material) so.found ∙ may_get (row_of s name) key.versions key.bits material so.stands so.bits so.versions room long)

allowed : (row : Option KeyRow) (given : Option (List ℕ)) → is_none row ≡ false → is_misfit (bits_of row) given ≡ false → nat_le 65535 (versions_of row) ≡ false → first_cause (roll_causes row given) ≡ None
allowed row given stands fits room =
    ap (λ b. cond b (Some NoSuchKey) (cond (is_misfit (bits_of row) given) (Some BadMaterial) (cond (nat_le 65535 (versions_of row)) (Some TooManyVersions) None))) stands
    ∙ ap (λ b. cond b (Some BadMaterial) (cond (nat_le 65535 (versions_of row)) (Some TooManyVersions) None)) fits
    ∙ ap (λ b. cond b (Some TooManyVersions) None) room

pub may_be_rolled : (s : KmsState) (name : List ℕ) (given : Option (List ℕ)) (key : Standing) → StandsSo s name key → is_misfit key.bits given ≡ false → key.versions < 65535
    → first_cause (roll_causes (row_of s name) given) ≡ None
may_be_rolled s name given key so fits room =
    let full : nat_le 65535 (versions_of (row_of s name)) ≡ false = ap (λ n. nat_le 65535 n) (sym so.versions) ∙ grind (arith, room) in
    allowed (row_of s name) given so.stands (ap (λ n. is_misfit n given) (sym so.bits) ∙ fits) full

-- memory ran out in a call without another cause of refusal
pub wanting : (s : KmsState) (words : ℕ → ℕ) (now : ℕ) (c : KmsCall) (words' : ℕ → ℕ) (drawn : ℕ)
    → takes_memory c ≡ true → first_cause (causes s c) ≡ None → drawn ≤ (deed s words now c).words → Drew words words' drawn
    → CallActs s words now c (Refused NoMemory) s words'
wanting s words now c words' drawn takes none few rest = record {
  drawn = drawn;
  acts = (NoRoom drawn, (takes, none, few), refl);
  rest = rest;
}

current_is : (s : KmsState) (name : List ℕ) (current : CurrentVersion) → IsCurrent s name current → current_material s name ≡ current.material
current_is s name current is =
    ap (λ version. unwrap_or (material_of s.table.rows version) []) (sym is.version) ∙ ap (λ o. unwrap_or o []) is.material

pub refuses_many : (s : KmsState) (words : ℕ → ℕ) (now : ℕ) (name : List ℕ) (count : ℕ) → is_none (row_of s name) ≡ false → nat_lt 1000 count ≡ true
    → CallActs s words now (call.Generate name count) (Refused TooManyAsked) s words
refuses_many s words now name count stands many =
    refuses s words now (call.Generate name count) TooManyAsked (Refused TooManyAsked) s words
    (ap (λ b. cond b (Some NoSuchKey) (cond (nat_lt 1000 count) (Some TooManyAsked) None)) stands ∙ ap (λ b. cond b (Some TooManyAsked) None) many)
    refl refl (λ k. refl)

may_generate : (row : Option KeyRow) (count : ℕ) → is_none row ≡ false → nat_lt 1000 count ≡ false → first_cause (generate_causes row count) ≡ None
may_generate row count stands few =
    ap (λ b. cond b (Some NoSuchKey) (cond (nat_lt 1000 count) (Some TooManyAsked) None)) stands ∙ ap (λ b. cond b (Some TooManyAsked) None) few

pub generates : (s : KmsState) (words : ℕ → ℕ) (now : ℕ) (name : List ℕ) (count : ℕ) (current : CurrentVersion) (all' : AllQueues) (keys : List Edek) (words' : ℕ → ℕ)
    → IsCurrent s name current → nat_lt 1000 count ≡ false → HandsOut s.ready all' current words words' count keys
    → CallActs s words now (call.Generate name count) (Ready keys) (record s { ready = all' }) words'
generates s words now name count current all' keys words' is few given =
    let same : current.material ≡ current_material s name = sym (current_is s name current is) in
    let ready : ready_in s.ready.queues current.birth ≡ ready_of s name = ap (ready_in s.ready.queues) is.birth in
    let queues : all' ≡ handed_out s.ready (birth_of (row_of s name)) count = given.queues ∙ ap (λ b. handed_out s.ready b count) is.birth in
    enacted s words now (call.Generate name count) (Ready keys) (record s { ready = all' }) words' refl (may_generate (row_of s name) count is.stands few)
    (inl (ap Ready (given.drew.drawn ∙ (λ i. take count (ready i) ++ drawn_edeks (is.version i) (same i) words (count - length (ready i)))), λ i. record s { ready = queues i }))
    (λ k. given.drew.rest k ∙ (λ i. words (place_of_draw (length (same i)) (count - length (ready i)) + k)))

pub generates_none : (s : KmsState) (words : ℕ → ℕ) (now : ℕ) (name : List ℕ) (count : ℕ) (current : CurrentVersion) (words' : ℕ → ℕ)
    → IsCurrent s name current → nat_lt 1000 count ≡ false → DrewSome current words words' (count - length (ready_in s.ready.queues current.birth))
    → CallActs s words now (call.Generate name count) (Refused NoMemory) s words'
generates_none s words now name count current words' is few drew =
    let same : current.material ≡ current_material s name = sym (current_is s name current is) in
    let ready : ready_in s.ready.queues current.birth ≡ ready_of s name = ap (ready_in s.ready.queues) is.birth in
    let most : place_of_draw (length current.material) (count - length (ready_in s.ready.queues current.birth)) ≡ place_of_draw (length (current_material s name)) (count - length (ready_of s name)) =
    λ i. place_of_draw (length (same i)) (count - length (ready i)) in
    wanting s words now (call.Generate name count) words' drew.drawn refl (may_generate (row_of s name) count is.stands few)
    (subst (λ (n : ℕ). drew.drawn ≤ n) most drew.few) drew.rest

-- the ready keys of a key are dropped
pub invalidates : (s : KmsState) (words : ℕ → ℕ) (now : ℕ) (name : List ℕ) (birth : ℕ) → is_none (row_of s name) ≡ false → birth ≡ birth_of (row_of s name)
    → CallActs s words now (call.Invalidate name) Done (record s { ready = emptied s.ready birth }) words
invalidates s words now name birth stands is = record {
  drawn = 0;
  acts = (Plain, tt, (λ i. record { reply = Done; drawn = 0; state = record s { ready = emptied s.ready (is i) } }) ∙ ap (λ b. unless_refused (cond b (Some NoSuchKey) None) s (invalidated s name)) (sym stands));
  rest = λ k. ap words (omega arith);
}

-- a call that only answers draws no word
pub answering : (s : KmsState) (words : ℕ → ℕ) (now : ℕ) (c : KmsCall) (answer result : KmsReply)
    → deed s words now c ≡ only_answer s answer → Answers s c answer result → KmsActs s words now c result 0 s
answering s words now c answer result deed_is says = by_cause (first_cause (causes s c)) refl says
  where
    by_cause : (cause : Option KmsRefusal) → first_cause (causes s c) ≡ cause
        → MatchOption cause ((result ≡ answer) ⊎ ((takes_memory c ≡ true) × (result ≡ Refused NoMemory))) (λ why. result ≡ Refused why) → KmsActs s words now c result 0 s
    by_cause (Some why) stands is = (Plain, tt, (λ i. record { reply = is i; drawn = 0; state = s }) ∙ (λ i. unless_refused (sym stands i) s (deed s words now c)))
    by_cause None none (inl is) = (Plain, tt, (λ i. record { reply = is i; drawn = 0; state = s }) ∙ (λ i. unless_refused (sym none i) s (sym deed_is i)))
    by_cause None none (inr wanting) = (NoRoom 0, (wanting.0, none, omega arith), λ i. record { reply = wanting.1 i; drawn = 0; state = s })

pub stands_born : (s : KmsState) (name : List ℕ) (key : Standing) → StandsSo s name key → is_some (find_birth s.table.rows key.birth) ≡ true
stands_born s name key so = ap is_some so.found ∙ some (row_of s name) so.stands
  where
    some : (row : Option KeyRow) → is_none row ≡ false → is_some row ≡ true
    some None stands = absurd cc
    some (Some row) stands = refl
