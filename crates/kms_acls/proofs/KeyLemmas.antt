-- One more list of a key, and one more group.
use Rattle.std.proofs.Common.{◌≡◌, ℕ, List, [], ◌∷◌, ◌++◌, refl, ap, sym, ◌∙◌, Bool, true, false, ◌&&◌, ◌||◌, cond, Option, None, Some, is_some}
use Rattle.std.specs.Option.{option_and_then, option_or, unwrap_or}
use Rattle.std.specs.Str.{bytes_eq}
use Rattle.std.proofs.lemmas.Slice.Eq.{bytes_eq-Decides}
use Rattle.kms_calls.specs.declared.acl.AclOp.{AclOp}
use Rattle.kms_acls.specs.declared.members.Members.{Members}
use Rattle.kms_acls.specs.declared.lists.KeyLists.{KeyLists}
use Rattle.kms_acls.specs.Lists.{all_of_key, list_of, list_of_key, lists_of_key, no_lists, users_of}
use Rattle.kms_acls.specs.Verdict.{given_if, same_op}
use Rattle.kms_acls.proofs.FirstLemmas.{list_more, or_none}

there_by : {X : Type 0} (found : Option X) (b : Bool) (x : X) → (b ≡ true → is_some found ≡ true) → found ≡ option_or found (given_if b x)
there_by None true x there = let bad = there refl in cc
there_by None false x there = refl
there_by (Some y) b x there = refl

new_by : {X : Type 0} (found : Option X) (b : Bool) (x : X) → (b ≡ true → is_some found ≡ false) → cond b (Some x) found ≡ option_or found (given_if b x)
new_by None true x absent = refl
new_by None false x absent = refl
new_by (Some y) true x absent = let bad = absent refl in cc
new_by (Some y) false x absent = refl

pub group_is_there : (groups : List (List ℕ × List (List ℕ))) (group : List ℕ) (users : List (List ℕ)) → is_some (users_of group groups) ≡ true → (other : List ℕ) → users_of other groups ≡ option_or (users_of other groups) (given_if (bytes_eq other group) users)
group_is_there groups group users there other =
    there_by (users_of other groups) (bytes_eq other group) users (λ same. ap (λ g. is_some (users_of g groups)) ((bytes_eq-Decides other group).0 same) ∙ there)

pub group_is_new : (groups : List (List ℕ × List (List ℕ))) (group : List ℕ) (users : List (List ℕ)) → is_some (users_of group groups) ≡ false → (other : List ℕ) → cond (bytes_eq other group) (Some users) (users_of other groups) ≡ option_or (users_of other groups) (given_if (bytes_eq other group) users)
group_is_new groups group users absent other =
    new_by (users_of other groups) (bytes_eq other group) users (λ same. ap (λ g. is_some (users_of g groups)) ((bytes_eq-Decides other group).0 same) ∙ absent)

else_same : {X : Type 0} (b : Bool) (x y z : X) → (b ≡ false → y ≡ z) → cond b x y ≡ cond b x z
else_same true x y z same = refl
else_same false x y z same = same refl

-- the lists of a key are replaced
pub record Changed (old new : List (List ℕ × KeyLists)) (key : List ℕ) (lists : KeyLists) : Type 0 where
  pub at : (k : List ℕ) → lists_of_key k new ≡ cond (bytes_eq k key) (Some lists) (lists_of_key k old)

pub changed : (old between new : List (List ℕ × KeyLists)) (key : List ℕ) (lists : KeyLists) → ((k : List ℕ) → bytes_eq k key ≡ false → lists_of_key k between ≡ lists_of_key k old) → ((k : List ℕ) → lists_of_key k new ≡ cond (bytes_eq k key) (Some lists) (lists_of_key k between)) → Changed old new key lists
changed old between new key lists others put = record {
  at = λ k. put k ∙ else_same (bytes_eq k key) (Some lists) (lists_of_key k between) (lists_of_key k old) (others k);
}

list_in : (o : AclOp) (found : Option KeyLists) → option_and_then (λ l. list_of o l.by_op) found ≡ list_of o (unwrap_or found no_lists).by_op
list_in o None = refl
list_in o (Some lists) = refl

all_in : (found : Option KeyLists) → option_and_then (λ l. l.all) found ≡ (unwrap_or found no_lists).all
all_in None = refl
all_in (Some lists) = refl

-- the lists before, of that key and of others
module _ (key k : List ℕ) (old : List (List ℕ × KeyLists)) where
  here : bytes_eq k key ≡ true → lists_of_key key old ≡ lists_of_key k old
  here same = ap (λ n. lists_of_key n old) (sym ((bytes_eq-Decides k key).0 same))

op_by : (b : Bool) (o p : AclOp) (members : Members) (here found : Option KeyLists) → (b ≡ true → here ≡ found) → option_and_then (λ l. list_of o l.by_op) (cond b (Some record { by_op = (unwrap_or here no_lists).by_op ++ record { op = p; members = members } ∷ []; all = (unwrap_or here no_lists).all }) found) ≡ option_or (option_and_then (λ l. list_of o l.by_op) found) (given_if (b && same_op p o) members)
op_by true o p members here found same =
    list_more o (unwrap_or here no_lists).by_op (record { op = p; members = members })
    ∙ ap (λ m. option_or m (given_if (same_op p o) members)) (sym (list_in o here) ∙ ap (option_and_then (λ l. list_of o l.by_op)) (same refl))
op_by false o p members here found same = sym (or_none (option_and_then (λ l. list_of o l.by_op) found))

op_all_by : (b : Bool) (lists : KeyLists) (here found : Option KeyLists) → (b ≡ true → here ≡ found) → lists.all ≡ (unwrap_or here no_lists).all → option_and_then (λ l. l.all) (cond b (Some lists) found) ≡ option_and_then (λ l. l.all) found
op_all_by true lists here found same is = is ∙ sym (all_in here) ∙ ap (option_and_then (λ l. l.all)) (same refl)
op_all_by false lists here found same is = refl

all_by : (b : Bool) (lists : KeyLists) (members : Members) (here found : Option KeyLists) → (b ≡ true → here ≡ found) → lists.all ≡ option_or (unwrap_or here no_lists).all (Some members) → option_and_then (λ l. l.all) (cond b (Some lists) found) ≡ option_or (option_and_then (λ l. l.all) found) (given_if b members)
all_by true lists members here found same is = is ∙ ap (λ m. option_or m (Some members)) (sym (all_in here) ∙ ap (option_and_then (λ l. l.all)) (same refl))
all_by false lists members here found same is = sym (or_none (option_and_then (λ l. l.all) found))

by_op_by : (b : Bool) (o : AclOp) (lists : KeyLists) (here found : Option KeyLists) → (b ≡ true → here ≡ found) → lists.by_op ≡ (unwrap_or here no_lists).by_op → option_and_then (λ l. list_of o l.by_op) (cond b (Some lists) found) ≡ option_and_then (λ l. list_of o l.by_op) found
by_op_by true o lists here found same is = ap (list_of o) is ∙ sym (list_in o here) ∙ ap (option_and_then (λ l. list_of o l.by_op)) (same refl)
by_op_by false o lists here found same is = refl

has_by : (b : Bool) (lists : KeyLists) (found : Option KeyLists) → is_some (cond b (Some lists) found) ≡ (is_some found || b)
has_by true lists None = refl
has_by true lists (Some l) = refl
has_by false lists None = refl
has_by false lists (Some l) = refl

pub has_lines : (old new : List (List ℕ × KeyLists)) (key : List ℕ) (lists : KeyLists) → Changed old new key lists → (k : List ℕ) → is_some (lists_of_key k new) ≡ (is_some (lists_of_key k old) || bytes_eq k key)
has_lines old new key lists change k = ap is_some (change.at k) ∙ has_by (bytes_eq k key) lists (lists_of_key k old)

pub op_list_added : (old new : List (List ℕ × KeyLists)) (key : List ℕ) (p : AclOp) (members : Members) → Changed old new key (record { by_op = (unwrap_or (lists_of_key key old) no_lists).by_op ++ record { op = p; members = members } ∷ []; all = (unwrap_or (lists_of_key key old) no_lists).all }) → (k : List ℕ) (o : AclOp) → list_of_key k o new ≡ option_or (list_of_key k o old) (given_if (bytes_eq k key && same_op p o) members)
op_list_added old new key p members change k o =
    ap (option_and_then (λ l. list_of o l.by_op)) (change.at k)
    ∙ op_by (bytes_eq k key) o p members (lists_of_key key old) (lists_of_key k old) (here key k old)

pub all_kept : (old new : List (List ℕ × KeyLists)) (key : List ℕ) (lists : KeyLists) → lists.all ≡ (unwrap_or (lists_of_key key old) no_lists).all → Changed old new key lists → (k : List ℕ) → all_of_key k new ≡ all_of_key k old
all_kept old new key lists is change k =
    ap (option_and_then (λ l. l.all)) (change.at k) ∙ op_all_by (bytes_eq k key) lists (lists_of_key key old) (lists_of_key k old) (here key k old) is

pub all_list_added : (old new : List (List ℕ × KeyLists)) (key : List ℕ) (members : Members) (lists : KeyLists) → lists.all ≡ option_or (unwrap_or (lists_of_key key old) no_lists).all (Some members) → Changed old new key lists → (k : List ℕ) → all_of_key k new ≡ option_or (all_of_key k old) (given_if (bytes_eq k key) members)
all_list_added old new key members lists is change k =
    ap (option_and_then (λ l. l.all)) (change.at k) ∙ all_by (bytes_eq k key) lists members (lists_of_key key old) (lists_of_key k old) (here key k old) is

pub op_lists_kept : (old new : List (List ℕ × KeyLists)) (key : List ℕ) (lists : KeyLists) → lists.by_op ≡ (unwrap_or (lists_of_key key old) no_lists).by_op → Changed old new key lists → (k : List ℕ) (o : AclOp) → list_of_key k o new ≡ list_of_key k o old
op_lists_kept old new key lists is change k o =
    ap (option_and_then (λ l. list_of o l.by_op)) (change.at k) ∙ by_op_by (bytes_eq k key) o lists (lists_of_key key old) (lists_of_key k old) (here key k old) is
