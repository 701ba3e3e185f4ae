-- One queue among those in order of birth: found, changed, dropped, made.
use Rattle.std.proofs.Common.{◌≡◌, ◌≢◌, ℕ, ◌<◌, ◌≤◌, zero, suc, Bool, true, false, not, cond, List, [], ◌∷◌, length, map, get_or, set, refl, sym, ap, subst, ◌∙◌, arith}
use Rattle.std.specs.Prelude.{◌==◌, nat_lt}
use Rattle.std.specs.List.{AllByRecursion}
use Rattle.std.proofs.lemmas.Bool.Decides.{nat_tests}
use Rattle.std.proofs.lemmas.Bool.{eqb-true, eq-eqb, ltb-true}
use Rattle.hk_base.specs.declared.names.Edek.{Edek}
use Rattle.eek_queues.specs.declared.order.QueuePlace.{QueuePlace}
use Rattle.eek_queues.specs.Queues.{Queue, ready_in, has_queue, with_ready, set_ready, dropped, put_queue}
use Rattle.eek_queues.specs.Order.{with_place, place_of, places_of}
use Rattle.eek_queues.specs.Kept.{AreQueuesRising}
use Rattle.eek_queues.proofs.Put.{all-put}
use Rattle.eek_queues.proofs.Places.{all-at, all-so, with_place-two}

pub other-is : (a b : ℕ) → a ≢ b → (a == b) ≡ false
other-is a b h = grind (arith, nat_tests)

lesser : (a b c : ℕ) → b ≤ a → a < c → (c == b) ≡ false
lesser a b c h k = grind (arith, nat_tests)

greater : (a b c : ℕ) → a < c → c ≡ b → (a == b) ≡ false
greater a b c h k = grind (arith, nat_tests)

-- ---- a birth that has no queue

pub above-absent : (qs : List Queue) (a birth : ℕ) → AllByRecursion (λ r. a < r.birth) qs → birth ≤ a → has_queue qs birth ≡ false
above-absent [] a birth all l = refl
above-absent (q ∷ qs) a birth all l =
    ap (λ t. cond t true (has_queue qs birth)) (lesser a birth q.birth l all.0) ∙ above-absent qs a birth all.1 l

absent-parts : (q : Queue) (qs : List Queue) (birth : ℕ) → has_queue (q ∷ qs) birth ≡ false → ((q.birth == birth) ≡ false) × (has_queue qs birth ≡ false)
absent-parts q qs birth h = go (q.birth == birth) h
  where
    go : (t : Bool) → cond t true (has_queue qs birth) ≡ false → (t ≡ false) × (has_queue qs birth ≡ false)
    go true e = cc
    go false e = (refl, e)

pub absent-ready : (qs : List Queue) (birth : ℕ) → has_queue qs birth ≡ false → ready_in qs birth ≡ []
absent-ready [] birth h = refl
absent-ready (q ∷ qs) birth h =
    let p : ((q.birth == birth) ≡ false) × (has_queue qs birth ≡ false) = absent-parts q qs birth h in
    ap (λ t. cond t q.ready (ready_in qs birth)) p.0 ∙ absent-ready qs birth p.1

pub absent-set : (qs : List Queue) (birth : ℕ) (ready : List Edek) → has_queue qs birth ≡ false → set_ready qs birth ready ≡ qs
absent-set [] birth ready h = refl
absent-set (q ∷ qs) birth ready h =
    let p : ((q.birth == birth) ≡ false) × (has_queue qs birth ≡ false) = absent-parts q qs birth h in
    let here : with_ready birth ready q ≡ q = ap (λ t. cond t (record { birth = birth; ready = ready }) q) p.0 in
    let rest : set_ready qs birth ready ≡ qs = absent-set qs birth ready p.1 in
    λ i. here i ∷ rest i

pub absent-dropped : (qs : List Queue) (birth : ℕ) → has_queue qs birth ≡ false → dropped qs birth ≡ qs
absent-dropped [] birth h = refl
absent-dropped (q ∷ qs) birth h =
    let p : ((q.birth == birth) ≡ false) × (has_queue qs birth ≡ false) = absent-parts q qs birth h in
    ap (λ t. cond (not t) (q ∷ dropped qs birth) (dropped qs birth)) p.0 ∙ ap (λ rest. q ∷ rest) (absent-dropped qs birth p.1)

-- ---- the queue at an index

pub has-at : (qs : List Queue) (birth at : ℕ) (d : Queue) → AreQueuesRising qs → at < length qs → (get_or qs at d).birth ≡ birth → has_queue qs birth ≡ true
has-at [] birth at d r b e = absurd (omega arith)
has-at (q ∷ qs) birth zero d r b e = ap (λ t. cond t true (has_queue qs birth)) (eq-eqb q.birth birth e)
has-at (q ∷ qs) birth (suc at) d r b e =
    let l : q.birth < (get_or qs at d).birth = all-at (λ x. q.birth < x.birth) qs at d r.0 (omega arith) in
    ap (λ t. cond t true (has_queue qs birth)) (greater q.birth birth _ l e) ∙ has-at qs birth at d r.1 (omega arith) e

pub ready-at : (qs : List Queue) (birth at : ℕ) (d : Queue) → AreQueuesRising qs → at < length qs → (get_or qs at d).birth ≡ birth → ready_in qs birth ≡ (get_or qs at d).ready
ready-at [] birth at d r b e = absurd (omega arith)
ready-at (q ∷ qs) birth zero d r b e = ap (λ t. cond t q.ready (ready_in qs birth)) (eq-eqb q.birth birth e)
ready-at (q ∷ qs) birth (suc at) d r b e =
    let l : q.birth < (get_or qs at d).birth = all-at (λ x. q.birth < x.birth) qs at d r.0 (omega arith) in
    ap (λ t. cond t q.ready (ready_in qs birth)) (greater q.birth birth _ l e) ∙ ready-at qs birth at d r.1 (omega arith) e

pub set-at : (qs : List Queue) (birth at : ℕ) (d : Queue) (ready : List Edek) → AreQueuesRising qs → at < length qs → (get_or qs at d).birth ≡ birth → set qs at (record { birth = birth; ready = ready }) ≡ set_ready qs birth ready
set-at [] birth at d ready r b e = absurd (omega arith)
set-at (q ∷ qs) birth zero d ready r b e =
    let new : Queue = record { birth = birth; ready = ready } in
    let here : with_ready birth ready q ≡ new = ap (λ t. cond t new q) (eq-eqb q.birth birth e) in
    let rest : set_ready qs birth ready ≡ qs = absent-set qs birth ready (above-absent qs q.birth birth r.0 (omega arith)) in
    sym (λ i. here i ∷ rest i)
set-at (q ∷ qs) birth (suc at) d ready r b e =
    let new : Queue = record { birth = birth; ready = ready } in
    let l : q.birth < (get_or qs at d).birth = all-at (λ x. q.birth < x.birth) qs at d r.0 (omega arith) in
    let here : with_ready birth ready q ≡ q = ap (λ t. cond t new q) (greater q.birth birth _ l e) in
    let rest : set qs at new ≡ set_ready qs birth ready = set-at qs birth at d ready r.1 (omega arith) e in
    λ i. sym here i ∷ rest i

-- ---- after a change

pub dropped-set : (qs : List Queue) (birth : ℕ) (ready : List Edek) → dropped (set_ready qs birth ready) birth ≡ dropped qs birth
dropped-set [] birth ready = refl
dropped-set (q ∷ qs) birth ready = go (q.birth == birth) refl (dropped-set qs birth ready)
  where
    rest : List Queue
    rest = set_ready qs birth ready

    go : (t : Bool) → (q.birth == birth) ≡ t → dropped rest birth ≡ dropped qs birth
        → dropped (cond t (record { birth = birth; ready = ready }) q ∷ rest) birth ≡ cond (not t) (q ∷ dropped qs birth) (dropped qs birth)
    go true e ih = ap (λ t. cond (not t) (record { birth = birth; ready = ready } ∷ dropped rest birth) (dropped rest birth)) (eq-eqb birth birth refl) ∙ ih
    go false e ih = ap (λ t. cond (not t) (q ∷ dropped rest birth) (dropped rest birth)) e ∙ ap (λ xs. q ∷ xs) ih

pub has-set : (qs : List Queue) (birth : ℕ) (ready : List Edek) (b : ℕ) → has_queue (set_ready qs birth ready) b ≡ has_queue qs b
has-set [] birth ready b = refl
has-set (q ∷ qs) birth ready b = go (q.birth == birth) refl (has-set qs birth ready b)
  where
    rest : List Queue
    rest = set_ready qs birth ready

    go : (t : Bool) → (q.birth == birth) ≡ t → has_queue rest b ≡ has_queue qs b
        → has_queue (cond t (record { birth = birth; ready = ready }) q ∷ rest) b ≡ cond (q.birth == b) true (has_queue qs b)
    go true e ih = ap (λ (x : ℕ). cond (x == b) true (has_queue rest b)) (sym (eqb-true q.birth birth e)) ∙ ap (cond (q.birth == b) true) ih
    go false e ih = ap (cond (q.birth == b) true) ih

pub ready-set : (qs : List Queue) (birth : ℕ) (ready : List Edek) → has_queue qs birth ≡ true → ready_in (set_ready qs birth ready) birth ≡ ready
ready-set [] birth ready h = cc
ready-set (q ∷ qs) birth ready h = go (q.birth == birth) refl h (ready-set qs birth ready)
  where
    rest : List Queue
    rest = set_ready qs birth ready

    go : (t : Bool) → (q.birth == birth) ≡ t → cond t true (has_queue qs birth) ≡ true → (has_queue qs birth ≡ true → ready_in rest birth ≡ ready)
        → ready_in (cond t (record { birth = birth; ready = ready }) q ∷ rest) birth ≡ ready
    go true e k ih = ap (λ t. cond t ready (ready_in rest birth)) (eq-eqb birth birth refl)
    go false e k ih = ap (λ t. cond t q.ready (ready_in rest birth)) e ∙ ih k

all-mapped : (P : Queue → Type 0) (f : Queue → Queue) (qs : List Queue) → ((q : Queue) → P q → P (f q)) → AllByRecursion P qs → AllByRecursion P (map f qs)
all-mapped P f [] g all = tt
all-mapped P f (q ∷ qs) g all = (g q all.0, all-mapped P f qs g all.1)

pub birth-with_ready : (birth : ℕ) (ready : List Edek) (q : Queue) → (with_ready birth ready q).birth ≡ q.birth
birth-with_ready birth ready q = go (q.birth == birth) refl
  where
    go : (t : Bool) → (q.birth == birth) ≡ t → (cond t (record { birth = birth; ready = ready }) q).birth ≡ q.birth
    go true e = sym (eqb-true q.birth birth e)
    go false e = refl

pub rising-set : (qs : List Queue) (birth : ℕ) (ready : List Edek) → AreQueuesRising qs → AreQueuesRising (set_ready qs birth ready)
rising-set [] birth ready r = tt
rising-set (q ∷ qs) birth ready r = (
  subst (λ (b : ℕ). AllByRecursion (λ x. b < x.birth) (set_ready qs birth ready)) (sym (birth-with_ready birth ready q))
      (all-mapped (λ x. q.birth < x.birth) (with_ready birth ready) qs (λ x h. subst (λ (b : ℕ). q.birth < b) (sym (birth-with_ready birth ready x)) h) r.0),
  rising-set qs birth ready r.1,
)

all-dropped : (P : Queue → Type 0) (qs : List Queue) (birth : ℕ) → AllByRecursion P qs → AllByRecursion P (dropped qs birth)
all-dropped P [] birth all = tt
all-dropped P (q ∷ qs) birth all = go (not (q.birth == birth)) (all-dropped P qs birth all.1)
  where
    go : (t : Bool) → AllByRecursion P (dropped qs birth) → AllByRecursion P (cond t (q ∷ dropped qs birth) (dropped qs birth))
    go true ih = (all.0, ih)
    go false ih = ih

pub rising-dropped : (qs : List Queue) (birth : ℕ) → AreQueuesRising qs → AreQueuesRising (dropped qs birth)
rising-dropped [] birth r = tt
rising-dropped (q ∷ qs) birth r = go (not (q.birth == birth)) (rising-dropped qs birth r.1)
  where
    go : (t : Bool) → AreQueuesRising (dropped qs birth) → AreQueuesRising (cond t (q ∷ dropped qs birth) (dropped qs birth))
    go true ih = (all-dropped (λ x. q.birth < x.birth) qs birth r.0, ih)
    go false ih = ih

above-is : (a b : ℕ) → nat_lt a b ≡ false → (a == b) ≡ false → b < a
above-is a b h k = grind (arith, nat_tests)

pub rising-put : (q : Queue) (qs : List Queue) → has_queue qs q.birth ≡ false → AreQueuesRising qs → AreQueuesRising (put_queue q qs)
rising-put q [] n r = (tt, tt)
rising-put q (x ∷ xs) n r = go (nat_lt x.birth q.birth) refl (absent-parts x xs q.birth n) (rising-put q xs)
  where
    go : (t : Bool) → nat_lt x.birth q.birth ≡ t → ((x.birth == q.birth) ≡ false) × (has_queue xs q.birth ≡ false) → (has_queue xs q.birth ≡ false → AreQueuesRising xs → AreQueuesRising (put_queue q xs))
        → AreQueuesRising (cond t (x ∷ put_queue q xs) (q ∷ x ∷ xs))
    go true e p ih = (all-put (λ a b. nat_lt a.birth b.birth) (λ y. x.birth < y.birth) q xs (ltb-true x.birth q.birth e) r.0, ih p.1 r.1)
    go false e p ih =
        let l : q.birth < x.birth = above-is x.birth q.birth e p.0 in
        ((l, all-so (λ y. x.birth < y.birth) (λ y. q.birth < y.birth) xs (λ y h. omega arith) r.0), r)

-- ---- the places of the low queues

pub places-dropped : (n : ℕ) (qs : List Queue) (birth : ℕ) → AreQueuesRising qs → has_queue qs birth ≡ true → places_of n qs ≡ with_place n (record { count = length (ready_in qs birth); birth = birth }) (places_of n (dropped qs birth))
places-dropped n [] birth r h = cc
places-dropped n (q ∷ qs) birth r h = go (q.birth == birth) refl h (places-dropped n qs birth r.1)
  where
    place : List Edek → QueuePlace
    place ready = record { count = length ready; birth = birth }

    go : (t : Bool) → (q.birth == birth) ≡ t → cond t true (has_queue qs birth) ≡ true
        → (has_queue qs birth ≡ true → places_of n qs ≡ with_place n (record { count = length (ready_in qs birth); birth = birth }) (places_of n (dropped qs birth)))
        → with_place n (place_of q) (places_of n qs) ≡ with_place n (record { count = length (cond t q.ready (ready_in qs birth)); birth = birth }) (places_of n (cond (not t) (q ∷ dropped qs birth) (dropped qs birth)))
    go true e k ih =
        let b : q.birth ≡ birth = eqb-true q.birth birth e in
        let rest : dropped qs birth ≡ qs = absent-dropped qs birth (above-absent qs q.birth birth r.0 (omega arith)) in
        λ i. with_place n (record { count = length q.ready; birth = b i }) (places_of n (sym rest i))
    go false e k ih =
        ap (with_place n (place_of q)) (ih k)
        ∙ with_place-two n (place_of q) (record { count = length (ready_in qs birth); birth = birth }) (places_of n (dropped qs birth))

pub places-set : (n : ℕ) (qs : List Queue) (birth : ℕ) (ready : List Edek) → AreQueuesRising qs → has_queue qs birth ≡ true → places_of n (set_ready qs birth ready) ≡ with_place n (record { count = length ready; birth = birth }) (places_of n (dropped qs birth))
places-set n qs birth ready r h =
    let has : has_queue (set_ready qs birth ready) birth ≡ true = has-set qs birth ready birth ∙ h in
    let is : ready_in (set_ready qs birth ready) birth ≡ ready = ready-set qs birth ready h in
    let rest : dropped (set_ready qs birth ready) birth ≡ dropped qs birth = dropped-set qs birth ready in
    places-dropped n (set_ready qs birth ready) birth (rising-set qs birth ready r) has
    ∙ (λ i. with_place n (record { count = length (is i); birth = birth }) (places_of n (rest i)))

pub places-put : (n : ℕ) (q : Queue) (qs : List Queue) → places_of n (put_queue q qs) ≡ with_place n (place_of q) (places_of n qs)
places-put n q [] = refl
places-put n q (x ∷ xs) = go (nat_lt x.birth q.birth) (places-put n q xs)
  where
    go : (t : Bool) → places_of n (put_queue q xs) ≡ with_place n (place_of q) (places_of n xs)
        → places_of n (cond t (x ∷ put_queue q xs) (q ∷ x ∷ xs)) ≡ with_place n (place_of q) (with_place n (place_of x) (places_of n xs))
    go true ih = ap (with_place n (place_of x)) ih ∙ with_place-two n (place_of x) (place_of q) (places_of n xs)
    go false ih = refl
