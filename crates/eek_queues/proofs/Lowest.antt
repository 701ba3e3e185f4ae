-- The first place of the order is that of the lowest queue.
use Rattle.std.proofs.Common.{◌≡◌, ℕ, ◌<◌, ◌≤◌, zero, suc, Bool, true, false, cond, List, [], ◌∷◌, Option, Some, None, length, get_or, refl, sym, ap, subst, ◌∙◌, arith}
use Rattle.std.specs.Prelude.{◌==◌, nat_lt, slice_get, All, IsNone}
use Rattle.std.specs.Option.{option_map}
use Rattle.std.proofs.lemmas.Bool.Decides.{nat_tests}
use Rattle.std.proofs.lemmas.Bool.{ltb-false, ltb-true, le-ltb}
use Rattle.eek_queues.specs.declared.order.QueuePlace.{QueuePlace}
use Rattle.eek_queues.specs.Queues.{IsLowest, Queue, is_lower, lower_of, lowest, put, ready_in}
use Rattle.eek_queues.specs.Order.{is_before, place_of, places_of}
use Rattle.eek_queues.specs.Kept.{AreQueuesRising}
use Rattle.eek_queues.proofs.Before.{before-along, before-back, before-self}
use Rattle.eek_queues.proofs.Births.{has-at, ready-at}

first_of : QueuePlace → Option QueuePlace → QueuePlace
first_of p None = p
first_of p (Some x) = cond (is_before x p) x p

head-put : (p : QueuePlace) (ps : List QueuePlace) → slice_get (put is_before p ps) 0 ≡ Some (first_of p (slice_get ps 0))
unfolding first_of
head-put p [] = refl
head-put p (x ∷ xs) = go (is_before x p)
  where
    go : (t : Bool) → slice_get (cond t (x ∷ put is_before p xs) (p ∷ x ∷ xs)) 0 ≡ Some (cond t x p)
    go true = refl
    go false = refl

first-lower : (q : Queue) (o : Option Queue) → first_of (place_of q) (option_map place_of o) ≡ place_of (lower_of q o)
unfolding first_of
first-lower q None = refl
first-lower q (Some r) = go (is_lower r q)
  where
    go : (t : Bool) → cond t (place_of r) (place_of q) ≡ place_of (cond t r q)
    go true = refl
    go false = refl

pub first-place : (n : ℕ) (qs : List Queue) → slice_get (places_of n qs) 0 ≡ option_map place_of (lowest n qs)
first-place n [] = refl
first-place n (q ∷ qs) = go (nat_lt (length q.ready) n) (first-place n qs)
  where
    go : (t : Bool) → slice_get (places_of n qs) 0 ≡ option_map place_of (lowest n qs)
        → slice_get (cond t (put is_before (place_of q) (places_of n qs)) (places_of n qs)) 0 ≡ option_map place_of (cond t (Some (lower_of q (lowest n qs))) (lowest n qs))
    go true ih = head-put (place_of q) (places_of n qs) ∙ ap (λ o. Some (first_of (place_of q) o)) ih ∙ ap Some (first-lower q (lowest n qs))
    go false ih = ih

pub birth-of-place : (o : Option Queue) → option_map (λ (p : QueuePlace). p.birth) (option_map place_of o) ≡ option_map (λ (q : Queue). q.birth) o
birth-of-place None = refl
birth-of-place (Some q) = refl

-- ---- no queue is low

pub lowest-none : (n : ℕ) (qs : List Queue) → lowest n qs ≡ None → All (λ q. n ≤ length q.ready) qs
lowest-none n [] h k d b = absurd (omega arith)
lowest-none n (q ∷ qs) h k d b = go (nat_lt (length q.ready) n) refl h (lowest-none n qs) k d b
  where
    go : (t : Bool) → nat_lt (length q.ready) n ≡ t → cond t (Some (lower_of q (lowest n qs))) (lowest n qs) ≡ None → (lowest n qs ≡ None → All (λ q. n ≤ length q.ready) qs) → All (λ q. n ≤ length q.ready) (q ∷ qs)
    go true e f ih k d b = cc
    go false e f ih zero d b = ltb-false (length q.ready) n e
    go false e f ih (suc k) d b = ih f k d (omega arith)

pub none-lowest : (n : ℕ) (qs : List Queue) → All (λ q. n ≤ length q.ready) qs → lowest n qs ≡ None
none-lowest n [] all = refl
none-lowest n (q ∷ qs) all =
    ap (λ t. cond t (Some (lower_of q (lowest n qs))) (lowest n qs)) (le-ltb (length q.ready) n (all 0 q (omega arith)))
    ∙ none-lowest n qs (λ k d b. all (suc k) d (omega arith))

pub none-is : (n : ℕ) (qs : List Queue) (r : Option ℕ) → r ≡ option_map (λ (q : Queue). q.birth) (lowest n qs) → (IsNone r → All (λ q. n ≤ length q.ready) qs) × (All (λ q. n ≤ length q.ready) qs → IsNone r)
none-is n qs r e = (λ h. lowest-none n qs (go (lowest n qs) e h), λ all. subst (λ (o : Option ℕ). IsNone o) (sym (e ∙ ap (option_map (λ (q : Queue). q.birth)) (none-lowest n qs all))) refl)
  where
    go : (o : Option Queue) → r ≡ option_map (λ (q : Queue). q.birth) o → IsNone r → o ≡ None
    go None f h = refl
    go (Some q) f h = let k : IsNone (Some q.birth) = subst (λ (x : Option ℕ). IsNone x) f h in cc

-- ---- one queue is the lowest

record IsLow (n : ℕ) (qs : List Queue) (q : Queue) : Type 0 where
  index : ℕ
  within : index < length qs
  here : get_or qs index q ≡ q
  low : length q.ready < n
  none_lower : (k : ℕ) (d : Queue) → k < length qs → is_lower (get_or qs k d) q ≡ false

above : (a x b y : ℕ) → x < y → cond (y == x) (nat_lt b a) (nat_lt y x) ≡ false
above a x b y h = grind (arith, nat_tests)

not-lower : (q r : Queue) (n : ℕ) → length q.ready < n → n ≤ length r.ready → is_lower r q ≡ false
not-lower q r n h k = above q.birth (length q.ready) r.birth (length r.ready) (omega arith)

is-low : (n : ℕ) (qs : List Queue) (q : Queue) → lowest n qs ≡ Some q → IsLow n qs q
is-low n [] q h = cc
is-low n (x ∷ xs) q h = go (nat_lt (length x.ready) n) refl (lowest n xs) refl h (is-low n xs)
  where
    same : {a b : Queue} → Some a ≡ Some b → a ≡ b
    same e = cc

    later : (y : Queue) → IsLow n xs y → is_lower x y ≡ false → IsLow n (x ∷ xs) y
    later y i e = record { index = suc i.index; within = omega (arith, i.within); here = i.here; low = i.low; none_lower = all }
      where
        all : (k : ℕ) (d : Queue) → k < length (x ∷ xs) → is_lower (get_or (x ∷ xs) k d) y ≡ false
        all zero d b = e
        all (suc k) d b = i.none_lower k d (omega arith)

    first : length x.ready < n → ((k : ℕ) (d : Queue) → k < length xs → is_lower (get_or xs k d) x ≡ false) → IsLow n (x ∷ xs) x
    first l f = record { index = 0; within = omega arith; here = refl; low = l; none_lower = all }
      where
        all : (k : ℕ) (d : Queue) → k < length (x ∷ xs) → is_lower (get_or (x ∷ xs) k d) x ≡ false
        all zero d b = before-self (place_of x)
        all (suc k) d b = f k d (omega arith)

    two : (y : Queue) (t : Bool) → is_lower y x ≡ t → length x.ready < n → IsLow n xs y → IsLow n (x ∷ xs) (cond t y x)
    two y true e l i = later y i (before-back (place_of y) (place_of x) e)
    two y false e l i = first l (λ k d b. before-along (place_of x) (place_of y) (place_of (get_or xs k d)) e (i.none_lower k d b))

    go : (t : Bool) → nat_lt (length x.ready) n ≡ t → (o : Option Queue) → lowest n xs ≡ o → cond t (Some (lower_of x o)) o ≡ Some q → ((y : Queue) → lowest n xs ≡ Some y → IsLow n xs y) → IsLow n (x ∷ xs) q
    go true e None f h ih =
        subst (IsLow n (x ∷ xs)) (same h) (first (ltb-true (length x.ready) n e) (λ k d b. not-lower x (get_or xs k d) n (ltb-true (length x.ready) n e) (lowest-none n xs f k d b)))
    go true e (Some y) f h ih = subst (IsLow n (x ∷ xs)) (same h) (two y (is_lower y x) refl (ltb-true (length x.ready) n e) (ih y f))
    go false e None f h ih = cc
    go false e (Some y) f h ih =
        let i : IsLow n xs y = ih y f in
        subst (IsLow n (x ∷ xs)) (same h) (later y i (not-lower y x n i.low (ltb-false (length x.ready) n e)))

no-fewer : (a x b y : ℕ) → cond (y == x) (nat_lt b a) (nat_lt y x) ≡ false → x ≤ y
no-fewer a x b y h = grind (arith, nat_tests)

no-lesser : (a x b y : ℕ) → cond (y == x) (nat_lt b a) (nat_lt y x) ≡ false → y ≡ x → a ≤ b
no-lesser a x b y h e = grind (arith, nat_tests)

pub lowest-is : (n : ℕ) (qs : List Queue) (q : Queue) → AreQueuesRising qs → lowest n qs ≡ Some q → IsLowest n qs q.birth
lowest-is n qs q r h =
    let i : IsLow n qs q = is-low n qs q h in
    let there : (get_or qs i.index q).birth ≡ q.birth = ap (λ (x : Queue). x.birth) i.here in
    let ready : length (ready_in qs q.birth) ≡ length q.ready =
    ap length (ready-at qs q.birth i.index q r i.within there ∙ ap (λ (x : Queue). x.ready) i.here) in
    record {
      stands = has-at qs q.birth i.index q r i.within there;
      low = omega (arith, i.low, ready);
      fewest = λ k d b. let m : length q.ready ≤ length (get_or qs k d).ready = no-fewer q.birth (length q.ready) (get_or qs k d).birth (length (get_or qs k d).ready) (i.none_lower k d b) in omega (arith, ready, m);
      least = λ k d b e. no-lesser q.birth (length q.ready) (get_or qs k d).birth (length (get_or qs k d).ready) (i.none_lower k d b) (e ∙ ready);
    }
