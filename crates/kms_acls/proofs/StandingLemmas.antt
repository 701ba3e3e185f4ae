-- A user is in the same lists by the stored lists and by the lines.
use Rattle.std.proofs.Common.{◌≡◌, ℕ, ◌+◌, ◌<◌, ◌≤◌, List, [], ◌∷◌, ◌++◌, length, take, drop, get_or, map, refl, ap, sym, ◌∙◌, Bool, true, false, not, ◌||◌, Option, None, Some, Result, Ok, Err, is_some, add-one, drop-cons}
use Rattle.std.specs.Prelude.{if◌then◌else◌, option_map}
use Rattle.std.specs.Option.{option_or}
use Rattle.std.proofs.lemmas.List.{drop_all, take_all, take_more}
use Rattle.kms_calls.specs.declared.acl.AclOp.{AclOp}
use Rattle.kms_calls.specs.declared.acl.AclOp.TheVariants as op
use Rattle.kms_calls.specs.declared.calls.KmsCall.{KmsCall}
use Rattle.kms_acls.specs.declared.answers.Shown.{Shown}
use Rattle.kms_acls.specs.declared.answers.Denied.{Denied}
use Rattle.kms_acls.proofs.FirstLemmas.{or_assoc}
use Rattle.std.specs.List.{list_any}
use Rattle.prop_text.specs.declared.acls.Acl.{Acl}
use Rattle.prop_text.specs.declared.lines.PropLine.{PropLine}
use Rattle.kms_acls.specs.declared.members.Members.{Members}
use Rattle.kms_acls.specs.Lists.{Lists, Meaning, acl_meaning, holds, members_meaning, named_in, stands, users_of}
use Rattle.kms_acls.specs.Agreement.{AreListsOf}
use Rattle.kms_acls.specs.Verdict.{UserStanding, allowed, asked, first_denial, first_of, is_in, key_denial, names_user, service_denial, parts_shown, standing, users_of_group, verdict}

-- the user is in a list, given the groups that have the user
abbrev is_meant : (List ℕ → Bool) → List ℕ → Meaning → Bool
is_meant in_group user m = m.everybody || m.users user || list_any in_group m.groups

abbrev has_user : List ℕ → Option (List ℕ → Bool) → Bool
has_user user None = false
has_user user (Some users) = users user

has_user_is : (user : List ℕ) (users : Option (List (List ℕ))) → names_user user users ≡ has_user user (option_map named_in users)
has_user_is user None = refl
has_user_is user (Some users) = refl

map_twice : {X Y Z : Type 0} (f : X → Y) (h : Y → Z) (o : Option X) → option_map (λ x. h (f x)) o ≡ option_map h (option_map f o)
map_twice f h None = refl
map_twice f h (Some x) = refl

same_groups : (lists : Lists) (lines : List PropLine) → AreListsOf lists lines → (user : List ℕ) → ◌≡◌ {A = List ℕ → Bool} (λ g. names_user user (users_of g lists.groups)) (λ g. names_user user (first_of (users_of_group g) lines))
same_groups lists lines s user = λ i g.
    (has_user_is user (users_of g lists.groups) ∙ ap (has_user user) (s.groups g) ∙ sym (has_user_is user (first_of (users_of_group g) lines))) i

same_in : (lists : Lists) (lines : List PropLine) → AreListsOf lists lines → (user : List ℕ) (kept : Option Members) (given : Option Acl) → option_map members_meaning kept ≡ option_map acl_meaning given → option_map (holds lists.groups user) kept ≡ option_map (is_in lines user) given
same_in lists lines s user kept given same =
    map_twice members_meaning (is_meant (λ g. names_user user (users_of g lists.groups)) user) kept
    ∙ (λ i. option_map (is_meant (same_groups lists lines s user i) user) (same i))
    ∙ sym (map_twice acl_meaning (is_meant (λ g. names_user user (first_of (users_of_group g) lines)) user) given)

pub same_standing : (lists : Lists) (lines : List PropLine) → AreListsOf lists lines → (user : List ℕ) → stands lists user ≡ standing lines user
same_standing lists lines s user = λ i. record {
  service = λ o. same_in lists lines s user _ _ (s.services o) i;
  blacklist = λ o. same_in lists lines s user _ _ (s.blacklists o) i;
  whitelist = λ o. same_in lists lines s user _ _ (s.whitelists o) i;
  has_lines = λ k. s.has_lines k i;
  key = λ k o. same_in lists lines s user _ _ (s.key k o) i;
  key_all = λ k. same_in lists lines s user _ _ (s.key_all k) i;
  default = λ o. same_in lists lines s user _ _ (s.defaults o) i;
}

-- the elements from an index on
drop_at : {K : Type 0} (ks : List K) (i : ℕ) (k : K) → i < length ks → k ≡ get_or ks i k → drop i ks ≡ k ∷ drop (i + 1) ks
drop_at ks i k below is = drop-cons ks i k below ∙ (λ j. sym is j ∷ drop (sym (add-one i) j) ks)

pub first_denies : {K : Type 0} (f : K → Option Denied) (ks : List K) (i : ℕ) (k : K) (d : Denied) → i < length ks → k ≡ get_or ks i k → f k ≡ Some d → first_denial (map f (drop i ks)) ≡ Some d
first_denies f ks i k d below is denies =
    ap (λ l. first_denial (map f l)) (drop_at ks i k below is) ∙ ap (λ o. option_or o (first_denial (map f (drop (i + 1) ks)))) denies

pub first_passes : {K : Type 0} (f : K → Option Denied) (ks : List K) (i : ℕ) (k : K) → i < length ks → k ≡ get_or ks i k → f k ≡ None → first_denial (map f (drop i ks)) ≡ first_denial (map f (drop (i + 1) ks))
first_passes f ks i k below is passes =
    ap (λ l. first_denial (map f l)) (drop_at ks i k below is) ∙ ap (λ o. option_or o (first_denial (map f (drop (i + 1) ks)))) passes

pub none_denies : {K : Type 0} (f : K → Option Denied) (ks : List K) (i : ℕ) → length ks ≤ i → first_denial (map f (drop i ks)) ≡ None
none_denies f ks i past = ap (λ l. first_denial (map f l)) (drop_all i ks past)

-- the lines so far, and all of them
pub one_more_taken : {X : Type 0} (xs : List X) (i : ℕ) (x : X) → i < length xs → x ≡ get_or xs i x → take i xs ++ x ∷ [] ≡ take (i + 1) xs
one_more_taken xs i x below is = ap (λ y. take i xs ++ y ∷ []) is ∙ sym (take_more xs i x below)

pub all_taken : {X : Type 0} (xs : List X) (i : ℕ) → length xs ≤ i → take i xs ≡ xs
all_taken xs i past = take_all i xs past

-- the verdict on what a call needs, in two parts
abbrev pub judged_parts : UserStanding → AclOp → Bool → AclOp → List (List ℕ) → Result Shown Denied
judged_parts s service material on_keys keys =
    allowed (parts_shown s) (option_or (option_or (service_denial s service) (if material then service_denial s op.SetKeyMaterial else None)) (first_denial (map (key_denial s on_keys) keys)))

pub same_verdict : (lists : Lists) (lines : List PropLine) → AreListsOf lists lines → (user other : List ℕ) → other ≡ user → (call : KmsCall) (service : AclOp) (material : Bool) (on_keys : AclOp) (keys : List (List ℕ)) → service ≡ (asked call).service → material ≡ (asked call).material → on_keys ≡ (asked call).on_keys → keys ≡ (asked call).keys → verdict lines user call ≡ judged_parts (stands lists other) service material on_keys keys
same_verdict lists lines s user other same call service material on_keys keys is_service is_material is_on_keys is_keys =
    let there : stands lists other ≡ standing lines user = ap (stands lists) same ∙ same_standing lists lines s user in
    let st = standing lines user in
    let a = asked call in
    ap (allowed (parts_shown st)) (or_assoc (service_denial st a.service) (if a.material then service_denial st op.SetKeyMaterial else None) (first_denial (map (key_denial st a.on_keys) a.keys)))
    ∙ sym (λ i. judged_parts (there i) (is_service i) (is_material i) (is_on_keys i) (is_keys i))

pub denied_first : (v : Result Shown Denied) (x : Shown) (a b : Option Denied) (d : Denied) → v ≡ allowed x (option_or a b) → a ≡ Some d → Err d ≡ v
denied_first v x a b d is first = sym (is ∙ ap (λ o. allowed x (option_or o b)) first)

pub denied_second : (v : Result Shown Denied) (x : Shown) (a b : Option Denied) (d : Denied) → v ≡ allowed x (option_or a b) → a ≡ None → b ≡ Some d → Err d ≡ v
denied_second v x a b d is first second = sym (is ∙ (λ i. allowed x (option_or (first i) (second i))))

turned : (a b : Bool) → a ≡ not b → b ≡ not a
turned a true is = sym (ap not is)
turned a false is = sym (ap not is)

pub denied_by_none : (v : Result Shown Denied) (s : UserStanding) (a b : Option Denied) (material : Bool) → v ≡ allowed (parts_shown s) (option_or a b) → a ≡ None → b ≡ None → is_some (service_denial s op.Get) ≡ not material → Ok record { material = material } ≡ v
denied_by_none v s a b material is first second get =
    ap (λ m. Ok record { material = m }) (turned (is_some (service_denial s op.Get)) material get) ∙ sym (is ∙ (λ i. allowed (parts_shown s) (option_or (first i) (second i))))
