-- A shelf whose first body with an id changes, or that gets one more body.
use Rattle.std.proofs.Common.{◌≡◌, ◌≢◌, ℕ, ◌+◌, ◌<◌, ◌≤◌, zero, suc, Bool, true, false, not, cond, List, [], ◌∷◌, ◌++◌, length, set, get_or, Some, None, refl, sym, ap, ◌∙◌, subst, arith, nat_eq, append-nil}
use Rattle.std.specs.Prelude.{nat_lt, OnErr, OnOk, Result, Ok, Err}
use Rattle.std.specs.declared.alloc.AllocError.{AllocError}
use Rattle.std.specs.List.{position, position_or_len}
use Rattle.std.proofs.lemmas.Bool.Decides.{nat_tests}
use Rattle.std.proofs.lemmas.Bool.{ltb-true, ltb-false}
use Rattle.body_stream.specs.Vaults.{GrowsBody, GrowsInPart}
use Rattle.body_kinds.specs.Shelves.{body_in, has_id}
use Rattle.body_kinds.specs.declared.shelf.Body.{Body}

next : (n : ℕ) → 1 + n ≡ suc n
next n = omega arith

differs : (n id j : ℕ) → nat_eq n id ≡ true → j ≢ id → nat_eq n j ≡ false
differs n id j same other = grind (arith, nat_tests)

is-same : (n id : ℕ) → n ≡ id → nat_eq n id ≡ true
is-same n id same = grind (arith, nat_tests)

abbrev place : ℕ → List Body → ℕ
place id bodies = position_or_len (has_id id) bodies

pub placed : (id : ℕ) (bodies : List Body) (at : ℕ) → position (has_id id) bodies ≡ Some at → (place id bodies ≡ at) × (at < length bodies)
placed id bodies at h = go (nat_lt (place id bodies) (length bodies)) refl h
  where
    go : (b : Bool) → nat_lt (place id bodies) (length bodies) ≡ b → cond b (Some (place id bodies)) None ≡ Some at → (place id bodies ≡ at) × (at < length bodies)
    go true e f = let same : place id bodies ≡ at = cc in (same, subst (λ (n : ℕ). n < length bodies) same (ltb-true _ _ e))
    go false e f = cc

pub unplaced : (id : ℕ) (bodies : List Body) → position (has_id id) bodies ≡ None → length bodies ≤ place id bodies
unplaced id bodies h = go (nat_lt (place id bodies) (length bodies)) refl h
  where
    go : (b : Bool) → nat_lt (place id bodies) (length bodies) ≡ b → cond b (Some (place id bodies)) None ≡ None → length bodies ≤ place id bodies
    go true e f = cc
    go false e f = ltb-false _ _ e

at_place : (id : ℕ) (bodies : List Body) (d : Body) → place id bodies < length bodies → body_in bodies id ≡ (get_or bodies (place id bodies) d).bytes.items
at_place id [] d h = absurd (omega arith)
at_place id (b ∷ bs) d h = go (has_id id b) h (at_place id bs d)
  where
    go : (t : Bool) → cond (not t) (1 + place id bs) 0 < length (b ∷ bs) → (place id bs < length bs → body_in bs id ≡ (get_or bs (place id bs) d).bytes.items)
        → cond t b.bytes.items (body_in bs id) ≡ (get_or (b ∷ bs) (cond (not t) (1 + place id bs) 0) d).bytes.items
    go true h ih = refl
    go false h ih = ih (omega arith) ∙ ap (λ (n : ℕ). (get_or (b ∷ bs) n d).bytes.items) (sym (next (place id bs)))

-- a body in the place of the first one with its id
set_same : (id : ℕ) (bodies : List Body) (d new : Body) → place id bodies < length bodies → new.id ≡ (get_or bodies (place id bodies) d).id → body_in (set bodies (place id bodies) new) id ≡ new.bytes.items
set_same id [] d new h e = absurd (omega arith)
set_same id (b ∷ bs) d new h e = go (has_id id b) refl h e (set_same id bs d new)
  where
    go : (t : Bool) → has_id id b ≡ t → cond (not t) (1 + place id bs) 0 < length (b ∷ bs) → new.id ≡ (get_or (b ∷ bs) (cond (not t) (1 + place id bs) 0) d).id
        → (place id bs < length bs → new.id ≡ (get_or bs (place id bs) d).id → body_in (set bs (place id bs) new) id ≡ new.bytes.items)
        → body_in (set (b ∷ bs) (cond (not t) (1 + place id bs) 0) new) id ≡ new.bytes.items
    go true is h e ih = ap (λ (t : Bool). cond t new.bytes.items (body_in bs id)) (ap (λ (n : ℕ). nat_eq n id) e ∙ is)
    go false is h e ih =
        ap (λ (n : ℕ). body_in (set (b ∷ bs) n new) id) (next (place id bs))
        ∙ ap (λ (t : Bool). cond t b.bytes.items (body_in (set bs (place id bs) new) id)) is
        ∙ ih (omega arith) (e ∙ ap (λ (n : ℕ). (get_or (b ∷ bs) n d).id) (next (place id bs)))

set_other : (id : ℕ) (bodies : List Body) (d new : Body) → place id bodies < length bodies → new.id ≡ (get_or bodies (place id bodies) d).id → (j : ℕ) → j ≢ id → body_in (set bodies (place id bodies) new) j ≡ body_in bodies j
set_other id [] d new h e j other = absurd (omega arith)
set_other id (b ∷ bs) d new h e j other = go (has_id id b) refl h e (set_other id bs d new)
  where
    go : (t : Bool) → has_id id b ≡ t → cond (not t) (1 + place id bs) 0 < length (b ∷ bs) → new.id ≡ (get_or (b ∷ bs) (cond (not t) (1 + place id bs) 0) d).id
        → (place id bs < length bs → new.id ≡ (get_or bs (place id bs) d).id → (j : ℕ) → j ≢ id → body_in (set bs (place id bs) new) j ≡ body_in bs j)
        → body_in (set (b ∷ bs) (cond (not t) (1 + place id bs) 0) new) j ≡ body_in (b ∷ bs) j
    go true is h e ih =
        ap (λ (t : Bool). cond t new.bytes.items (body_in bs j)) (ap (λ (n : ℕ). nat_eq n j) e ∙ differs b.id id j is other)
        ∙ sym (ap (λ (t : Bool). cond t b.bytes.items (body_in bs j)) (differs b.id id j is other))
    go false is h e ih =
        ap (λ (n : ℕ). body_in (set (b ∷ bs) n new) j) (next (place id bs))
        ∙ ap (λ (l : List ℕ). cond (has_id j b) b.bytes.items l) (ih (omega arith) (e ∙ ap (λ (n : ℕ). (get_or (b ∷ bs) n d).id) (next (place id bs))) j other)

pub set_grows : (id : ℕ) (bodies : List Body) (at : ℕ) (d new : Body) (bytes : List ℕ) → position (has_id id) bodies ≡ Some at → new.id ≡ (get_or bodies at d).id
    → new.bytes.items ≡ (get_or bodies at d).bytes.items ++ bytes → GrowsBody id bytes (body_in bodies) (body_in (set bodies at new))
set_grows id bodies at d new bytes found same grown =
    let is = placed id bodies at found in
    let within : place id bodies < length bodies = subst (λ (n : ℕ). n < length bodies) (sym is.0) is.1 in
    let same' : new.id ≡ (get_or bodies (place id bodies) d).id = same ∙ ap (λ (n : ℕ). (get_or bodies n d).id) (sym is.0) in
    record {
      body =
          ap (λ (n : ℕ). body_in (set bodies n new) id) (sym is.0) ∙ set_same id bodies d new within same' ∙ grown
          ∙ ap (λ (l : List ℕ). l ++ bytes) (ap (λ (n : ℕ). (get_or bodies n d).bytes.items) (sym is.0) ∙ sym (at_place id bodies d within));
      others = λ j other. ap (λ (n : ℕ). body_in (set bodies n new) j) (sym is.0) ∙ set_other id bodies d new within same' j other;
    }

-- the same body in its place
pub set_kept : (bodies : List Body) (at : ℕ) (d new : Body) → at < length bodies → new.id ≡ (get_or bodies at d).id → new.bytes.items ≡ (get_or bodies at d).bytes.items → (j : ℕ) → body_in (set bodies at new) j ≡ body_in bodies j
set_kept [] at d new h same kept j = absurd (omega arith)
set_kept (b ∷ bs) zero d new h same kept j = λ i. cond (nat_eq (same i) j) (kept i) (body_in bs j)
set_kept (b ∷ bs) (suc at) d new h same kept j = ap (λ (l : List ℕ). cond (has_id j b) b.bytes.items l) (set_kept bs at d new (omega arith) same kept j)

none_in : (id : ℕ) (bodies : List Body) → length bodies ≤ place id bodies → body_in bodies id ≡ []
none_in id [] h = refl
none_in id (b ∷ bs) h = go (has_id id b) h (none_in id bs)
  where
    go : (t : Bool) → length (b ∷ bs) ≤ cond (not t) (1 + place id bs) 0 → (length bs ≤ place id bs → body_in bs id ≡ []) → cond t b.bytes.items (body_in bs id) ≡ []
    go true h ih = absurd (omega arith)
    go false h ih = ih (omega arith)

push_same : (id : ℕ) (bodies : List Body) (new : Body) → length bodies ≤ place id bodies → new.id ≡ id → body_in (bodies ++ new ∷ []) id ≡ new.bytes.items
push_same id [] new h e = ap (λ (t : Bool). cond t new.bytes.items []) (is-same new.id id e)
push_same id (b ∷ bs) new h e = go (has_id id b) h (push_same id bs new)
  where
    go : (t : Bool) → length (b ∷ bs) ≤ cond (not t) (1 + place id bs) 0 → (length bs ≤ place id bs → new.id ≡ id → body_in (bs ++ new ∷ []) id ≡ new.bytes.items) → cond t b.bytes.items (body_in (bs ++ new ∷ []) id) ≡ new.bytes.items
    go true h ih = absurd (omega arith)
    go false h ih = ih (omega arith) e

push_other : (id : ℕ) (bodies : List Body) (new : Body) → new.id ≡ id → (j : ℕ) → j ≢ id → body_in (bodies ++ new ∷ []) j ≡ body_in bodies j
push_other id [] new e j other = ap (λ (t : Bool). cond t new.bytes.items []) (differs new.id id j (is-same new.id id e) other)
push_other id (b ∷ bs) new e j other = ap (λ (l : List ℕ). cond (has_id j b) b.bytes.items l) (push_other id bs new e j other)

pub push_grows : (id : ℕ) (bodies : List Body) (new : Body) (bytes : List ℕ) → position (has_id id) bodies ≡ None → new.id ≡ id → new.bytes.items ≡ bytes → GrowsBody id bytes (body_in bodies) (body_in (bodies ++ new ∷ []))
push_grows id bodies new bytes missing same is =
    let none = unplaced id bodies missing in
    record {
      body = push_same id bodies new none same ∙ is ∙ sym (ap (λ (l : List ℕ). l ++ bytes) (none_in id bodies none));
      others = push_other id bodies new same;
    }

pub shown : (id : ℕ) (bodies : List Body) (at : ℕ) (d : Body) → position (has_id id) bodies ≡ Some at → body_in bodies id ≡ (get_or bodies at d).bytes.items
shown id bodies at d found =
    let is = placed id bodies at found in
    at_place id bodies d (subst (λ (n : ℕ). n < length bodies) (sym is.0) is.1) ∙ ap (λ (n : ℕ). (get_or bodies n d).bytes.items) is.0

pub not_shown : (id : ℕ) (bodies : List Body) → position (has_id id) bodies ≡ None → body_in bodies id ≡ []
not_shown id bodies missing = none_in id bodies (unplaced id bodies missing)

-- a fact for one outcome follows from another
pub on_ok : {A B : Type 0} (r : Result (Unit {0}) AllocError) → (A → B) → OnOk r A → OnOk r B
on_ok (Ok x) f h = f h
on_ok (Err e) f h = tt

pub on_err : {A B : Type 0} (r : Result (Unit {0}) AllocError) → (A → B) → OnErr r A → OnErr r B
on_err (Ok x) f h = tt
on_err (Err e) f h = f h

-- a write that appended nothing
pub nothing_grew : (id : ℕ) (bytes : List ℕ) (old new : ℕ → List ℕ) → new ≡ old → GrowsInPart id bytes old new
nothing_grew id bytes old new same = record {
  front = [];
  more = bytes;
  whole = refl;
  grows = record { body = ap (λ (f : ℕ → List ℕ). f id) same ∙ sym (append-nil (old id)); others = λ j other. ap (λ (f : ℕ → List ℕ). f j) same };
}
