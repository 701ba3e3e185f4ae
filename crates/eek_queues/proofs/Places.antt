-- The places of the low queues stay in order when one enters or leaves.
use Rattle.std.proofs.Common.{◌≡◌, ℕ, ◌<◌, ◌≤◌, zero, suc, Bool, true, false, cond, List, [], ◌∷◌, length, get_or, refl, sym, ap, subst, ◌∙◌, arith}
use Rattle.std.specs.Prelude.{nat_lt}
use Rattle.std.specs.List.{AllByRecursion, insert, remove}
use Rattle.std.specs.List.Sorted.{IsPartitionedBy}
use Rattle.std.proofs.lemmas.Bool.{both_ways}
use Rattle.std.proofs.lemmas.Bool.Decides.{nat_tests}
use Rattle.eek_queues.specs.declared.order.QueuePlace.{QueuePlace}
use Rattle.eek_queues.specs.Queues.{Queue, put}
use Rattle.eek_queues.specs.Order.{is_before, AreInPlaceOrder, with_place, place_of, places_of}
use Rattle.eek_queues.proofs.Before.{before-self, before-back, before-along, before-either}
use Rattle.eek_queues.proofs.Put.{Parted, all-put, put-insert, put-put, remove-put}

pub all-at : {X : Type 0} (P : X → Type 0) (xs : List X) (k : ℕ) (d : X) → AllByRecursion P xs → k < length xs → P (get_or xs k d)
all-at P [] k d all b = absurd (omega arith)
all-at P (x ∷ xs) zero d all b = all.0
all-at P (x ∷ xs) (suc k) d all b = all-at P xs k d all.1 (omega arith)

pub all-so : {X : Type 0} (P Q : X → Type 0) (xs : List X) → ((x : X) → P x → Q x) → AllByRecursion P xs → AllByRecursion Q xs
all-so P Q [] f all = tt
all-so P Q (x ∷ xs) f all = (f x all.0, all-so P Q xs f all.1)

in_order-at : (ps : List QueuePlace) (i j : ℕ) (d : QueuePlace) → AreInPlaceOrder ps → i ≤ j → j < length ps → is_before (get_or ps j d) (get_or ps i d) ≡ false
in_order-at [] i j d o l b = absurd (omega arith)
in_order-at (p ∷ ps) zero zero d o l b = before-self p
in_order-at (p ∷ ps) zero (suc j) d o l b = all-at (λ q. is_before q p ≡ false) ps j d o.0 (omega arith)
in_order-at (p ∷ ps) (suc i) zero d o l b = absurd (omega arith)
in_order-at (p ∷ ps) (suc i) (suc j) d o l b = in_order-at ps i j d o.1 (omega arith) (omega arith)

-- the places before a given place come first
pub in_order-parts : (ps : List QueuePlace) (place : QueuePlace) → AreInPlaceOrder ps → IsPartitionedBy (λ p. is_before p place) ps
in_order-parts ps place o i j d l b h = go (is_before (get_or ps i d) place) refl
  where
    go : (t : Bool) → is_before (get_or ps i d) place ≡ t → t ≡ true
    go true e = refl
    go false e = absurd (both_ways (is_before (get_or ps j d) place) (before-along place (get_or ps i d) (get_or ps j d) e (in_order-at ps i j d o l b)) h)

pub in_order-put : (place : QueuePlace) (ps : List QueuePlace) → AreInPlaceOrder ps → AreInPlaceOrder (put is_before place ps)
in_order-put place [] o = (tt, tt)
in_order-put place (p ∷ ps) o = go (is_before p place) refl (in_order-put place ps o.1)
  where
    go : (t : Bool) → is_before p place ≡ t → AreInPlaceOrder (put is_before place ps) → AreInPlaceOrder (cond t (p ∷ put is_before place ps) (place ∷ p ∷ ps))
    go true e ih = (all-put is_before (λ q. is_before q p ≡ false) place ps (before-back p place e) o.0, ih)
    go false e ih = ((e, all-so (λ q. is_before q p ≡ false) (λ q. is_before q place ≡ false) ps (λ q h. before-along place p q e h) o.0), o)

pub in_order-with : (n : ℕ) (place : QueuePlace) (ps : List QueuePlace) → AreInPlaceOrder ps → AreInPlaceOrder (with_place n place ps)
in_order-with n place ps o = go (nat_lt place.count n)
  where
    go : (t : Bool) → AreInPlaceOrder (cond t (put is_before place ps) ps)
    go true = in_order-put place ps o
    go false = o

pub in_order-places_of : (n : ℕ) (qs : List Queue) → AreInPlaceOrder (places_of n qs)
in_order-places_of n [] = tt
in_order-places_of n (q ∷ qs) = in_order-with n (place_of q) (places_of n qs) (in_order-places_of n qs)

-- the order in which two places are added makes no difference
pub with_place-two : (n : ℕ) (a b : QueuePlace) (ps : List QueuePlace) → with_place n a (with_place n b ps) ≡ with_place n b (with_place n a ps)
with_place-two n a b ps = go (nat_lt a.count n) (nat_lt b.count n)
  where
    go : (t u : Bool) → cond t (put is_before a (cond u (put is_before b ps) ps)) (cond u (put is_before b ps) ps) ≡ cond u (put is_before b (cond t (put is_before a ps) ps)) (cond t (put is_before a ps) ps)
    go true true = put-put is_before before-back before-along before-either a b ps
    go true false = refl
    go false true = refl
    go false false = refl

low-place : (n : ℕ) (place : QueuePlace) (ps : List QueuePlace) → place.count < n → with_place n place ps ≡ put is_before place ps
low-place n place ps b =
    let low : nat_lt place.count n ≡ true = grind (arith, nat_tests) in
    ap (λ t. cond t (put is_before place ps) ps) low

-- a low place is inserted at its partition point
pub with_place-insert : (n : ℕ) (place : QueuePlace) (ps : List QueuePlace) (at : ℕ) → place.count < n → at ≤ length ps → Parted is_before place ps at → insert ps at place ≡ with_place n place ps
with_place-insert n place ps at b l h = sym (low-place n place ps b ∙ put-insert is_before place ps at l h)

-- a low place that was inserted is at its partition point
pub remove-with_place : (n : ℕ) (place : QueuePlace) (rest ps : List QueuePlace) (at : ℕ) → place.count < n → ps ≡ with_place n place rest → at ≤ length ps → Parted is_before place ps at → (remove ps at ≡ rest) × (at < length ps)
remove-with_place n place rest ps at b e l h =
    let is : ps ≡ put is_before place rest = e ∙ low-place n place rest b in
    let r : (remove (put is_before place rest) at ≡ rest) × (at < length (put is_before place rest)) =
    remove-put is_before place rest at (before-self place) (subst (λ xs. at ≤ length xs) is l) (subst (λ xs. Parted is_before place xs at) is h) in
    subst (λ xs. (remove xs at ≡ rest) × (at < length xs)) (sym is) r
