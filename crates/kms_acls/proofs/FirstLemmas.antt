-- The first of several, with one more at the end.
use Rattle.std.proofs.Common.{◌≡◌, List, [], ◌∷◌, ◌++◌, refl, ap, sym, ◌∙◌, Bool, true, false, ◌||◌, Option, None, Some, Result, Ok, Err, OnOk}
use Rattle.std.specs.Prelude.{find, option_map, if◌then◌else◌}
use Rattle.std.specs.List.{list_any}
use Rattle.std.specs.Option.{option_or}
use Rattle.std.proofs.lemmas.List.Folds.{list_any-append}
use Rattle.kms_calls.specs.declared.acl.AclOp.{AclOp}
use Rattle.prop_text.specs.declared.lines.PropLine.{PropLine}
use Rattle.kms_acls.specs.declared.lists.OpAcl.{OpAcl}
use Rattle.kms_acls.specs.Lists.{list_of}
use Rattle.kms_acls.specs.Verdict.{first_of, given_if, same_op}

pub or_none : {X : Type 0} (a : Option X) → option_or a None ≡ a
or_none None = refl
or_none (Some x) = refl

pub or_assoc : {X : Type 0} (a b d : Option X) → option_or a (option_or b d) ≡ option_or (option_or a b) d
or_assoc None b d = refl
or_assoc (Some x) b d = refl

map_or : {X Z : Type 0} (f : X → Z) (a b : Option X) → option_map f (option_or a b) ≡ option_or (option_map f a) (option_map f b)
map_or f None b = refl
map_or f (Some x) b = refl

pub map_given : {X Y Z : Type 0} (f : X → Z) (h : Y → Z) (b : Bool) (x : X) (y : Y) → f x ≡ h y → option_map f (given_if b x) ≡ option_map h (given_if b y)
map_given f h true x y same = ap Some same
map_given f h false x y same = refl

pub first_more : {X : Type 0} (gives : PropLine → Option X) (lines : List PropLine) (line : PropLine) → first_of gives (lines ++ line ∷ []) ≡ option_or (first_of gives lines) (gives line)
first_more gives [] line = or_none (gives line)
first_more gives (l ∷ ls) line = ap (option_or (gives l)) (first_more gives ls line) ∙ or_assoc (gives l) (first_of gives ls) (gives line)

found_by : (b : Bool) (l : OpAcl) (rest : Option OpAcl) → option_map (λ x. x.members) (if b then Some l else rest) ≡ option_or (given_if b l.members) (option_map (λ x. x.members) rest)
found_by true l rest = refl
found_by false l rest = refl

pub list_more : (o : AclOp) (lists : List OpAcl) (l : OpAcl) → list_of o (lists ++ l ∷ []) ≡ option_or (list_of o lists) (given_if (same_op l.op o) l.members)
list_more o [] l = found_by (same_op l.op o) l None ∙ or_none (given_if (same_op l.op o) l.members)
list_more o (x ∷ xs) l =
    found_by (same_op x.op o) x (find (λ y. same_op y.op o) (xs ++ l ∷ []))
    ∙ ap (option_or (given_if (same_op x.op o) x.members)) (list_more o xs l)
    ∙ or_assoc (given_if (same_op x.op o) x.members) (list_of o xs) (given_if (same_op l.op o) l.members)
    ∙ ap (λ a. option_or a (given_if (same_op l.op o) l.members)) (sym (found_by (same_op x.op o) x (find (λ y. same_op y.op o) xs)))

-- one more line gives a list, and it is stored
pub added : {X Y Z : Type 0} (f : X → Z) (h : Y → Z) (gives : PropLine → Option Y) (lines : List PropLine) (line : PropLine) (old new more : Option X) → new ≡ option_or old more → option_map f old ≡ option_map h (first_of gives lines) → option_map f more ≡ option_map h (gives line) → option_map f new ≡ option_map h (first_of gives (lines ++ line ∷ []))
added f h gives lines line old new more is same same_more =
    ap (option_map f) is
    ∙ map_or f old more
    ∙ (λ i. option_or (same i) (same_more i))
    ∙ sym (map_or h (first_of gives lines) (gives line))
    ∙ ap (option_map h) (sym (first_more gives lines line))

-- one more line gives nothing, and the stored list is unchanged
pub stays : {X Y Z : Type 0} (f : X → Z) (h : Y → Z) (gives : PropLine → Option Y) (lines : List PropLine) (line : PropLine) (old new : Option X) → new ≡ old → gives line ≡ None → option_map f old ≡ option_map h (first_of gives lines) → option_map f new ≡ option_map h (first_of gives (lines ++ line ∷ []))
stays f h gives lines line old new is none same =
    added f h gives lines line old new None (is ∙ sym (or_none old)) same (sym (ap (option_map h) none))

or_false : (b : Bool) → (b || false) ≡ b
or_false true = refl
or_false false = refl

pub any_more : (test : PropLine → Bool) (lines : List PropLine) (line : PropLine) → list_any test (lines ++ line ∷ []) ≡ (list_any test lines || test line)
any_more test lines line = list_any-append test lines (line ∷ []) ∙ ap (λ b. list_any test lines || b) (or_false (test line))

pub any_stays : (test : PropLine → Bool) (lines : List PropLine) (line : PropLine) → test line ≡ false → list_any test (lines ++ line ∷ []) ≡ list_any test lines
any_stays test lines line none = any_more test lines line ∙ ap (λ b. list_any test lines || b) none ∙ or_false (list_any test lines)

-- what follows if a call succeeded
pub on_ok : {T E P Q : Type 0} (r : Result T E) → OnOk r P → (P → Q) → OnOk r Q
on_ok (Ok x) holds next = next holds
on_ok (Err e) holds next = tt

pub on_ok_all : {T E P Q R S : Type 0} (r : Result T E) → OnOk r P → OnOk r Q → OnOk r R → (P → Q → R → S) → OnOk r S
on_ok_all (Ok x) first second third next = next first second third
on_ok_all (Err e) first second third next = tt
