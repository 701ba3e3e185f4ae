-- Queues of ready keys after a change: each loses only its oldest ready keys.
use Rattle.std.proofs.Common.{◌≡◌, ℕ, zero, suc, ◌+◌, ◌==◌, Bool, true, false, not, cond, List, [], ◌∷◌, length, refl, sym, ap, subst, ◌∙◌, arith}
use Rattle.std.specs.Prelude.{drop, nat_lt}
use Rattle.std.proofs.Math.Seq.{drop-length, drop-nil}
use Rattle.std.proofs.lemmas.Bool.{eqb-true, eq-eqb}
use Rattle.hk_base.specs.declared.names.Edek.{Edek}
use Rattle.eek_queues.specs.Queues.{AllQueues, Queue, dropped, has_queue, put_queue, ready_in, set_ready}
use Rattle.eek_queues.proofs.Births.{absent-ready, absent-set, has-set, other-is, ready-set}
use Rattle.kms_core.specs.Calls.{handed_out, with_queue}

-- each queue has the ready keys that it had, except for some of the oldest
abbrev pub Shrinks : List Queue → List Queue → Type 0
Shrinks qs rs = (birth : ℕ) → (n : ℕ) × (ready_in rs birth ≡ drop n (ready_in qs birth))

pub same-shrinks : (qs rs : List Queue) → ((birth : ℕ) → ready_in rs birth ≡ ready_in qs birth) → Shrinks qs rs
same-shrinks qs rs same birth = (0, same birth)

drop-twice : {X : Type 0} (n m : ℕ) (xs : List X) → drop m (drop n xs) ≡ drop (n + m) xs
drop-twice zero m xs = let same : m ≡ 0 + m = omega arith in ap (λ k. drop k xs) same
drop-twice (suc n) m [] = drop-nil m ∙ sym (drop-nil (suc n + m))
drop-twice (suc n) m (x ∷ xs) = drop-twice n m xs ∙ (let next : suc (n + m) ≡ suc n + m = omega arith in ap (λ k. drop k (x ∷ xs)) next)

pub then-shrinks : (qs rs ss : List Queue) → Shrinks qs rs → Shrinks rs ss → Shrinks qs ss
then-shrinks qs rs ss a b birth =
    let first = a birth in
    let next = b birth in
    (first.0 + next.0, next.1 ∙ ap (drop next.0) first.1 ∙ drop-twice first.0 next.0 (ready_in qs birth))

-- no queue is left
pub none-shrinks : (qs : List Queue) → Shrinks qs []
none-shrinks qs birth = (length (ready_in qs birth), sym (drop-length (ready_in qs birth)))

-- a queue that is changed

pub ready-other : (qs : List Queue) (birth : ℕ) (ready : List Edek) (b : ℕ) → (birth ≡ b → ⊥) → ready_in (set_ready qs birth ready) b ≡ ready_in qs b
ready-other [] birth ready b other = refl
ready-other (q ∷ qs) birth ready b other = go (q.birth == birth) refl (ready-other qs birth ready b other)
  where
    rest : List Queue
    rest = set_ready qs birth ready

    go : (t : Bool) → (q.birth == birth) ≡ t → ready_in rest b ≡ ready_in qs b → ready_in (cond t (record { birth = birth; ready = ready }) q ∷ rest) b ≡ cond (q.birth == b) q.ready (ready_in qs b)
    go true is ih =
        ap (λ t. cond t ready (ready_in rest b)) (other-is birth b other) ∙ ih
        ∙ sym (ap (λ t. cond t q.ready (ready_in qs b)) (other-is q.birth b (λ same. other (sym (eqb-true q.birth birth is) ∙ same))))
    go false is ih = ap (cond (q.birth == b) q.ready) ih

-- a queue that loses some of its oldest ready keys
pub set-drop : (qs : List Queue) (birth n : ℕ) → ready_in (set_ready qs birth (drop n (ready_in qs birth))) birth ≡ drop n (ready_in qs birth)
set-drop qs birth n = go (has_queue qs birth) refl
  where
    left : List Edek
    left = drop n (ready_in qs birth)

    go : (t : Bool) → has_queue qs birth ≡ t → ready_in (set_ready qs birth left) birth ≡ left
    go true has = ready-set qs birth left has
    go false none =
        ap (λ rs. ready_in rs birth) (absent-set qs birth left none) ∙ absent-ready qs birth none ∙ sym (drop-nil n)
        ∙ ap (λ (ready : List Edek). drop n ready) (sym (absent-ready qs birth none))

pub set-shrinks : (qs : List Queue) (birth n : ℕ) → Shrinks qs (set_ready qs birth (drop n (ready_in qs birth)))
set-shrinks qs birth n b = go (birth == b) refl
  where
    left : List Edek
    left = drop n (ready_in qs birth)

    go : (t : Bool) → (birth == b) ≡ t → (k : ℕ) × (ready_in (set_ready qs birth left) b ≡ drop k (ready_in qs b))
    go true is = subst (λ (x : ℕ). (k : ℕ) × (ready_in (set_ready qs birth left) x ≡ drop k (ready_in qs x))) (eqb-true birth b is) (n, set-drop qs birth n)
    go false is = (0, ready-other qs birth left b (λ same. let no : true ≡ false = sym (eq-eqb birth b same) ∙ is in absurd cc))

pub emptied-shrinks : (qs : List Queue) (birth : ℕ) → Shrinks qs (set_ready qs birth [])
emptied-shrinks qs birth = subst (λ (ready : List Edek). Shrinks qs (set_ready qs birth ready)) (drop-length (ready_in qs birth)) (set-shrinks qs birth (length (ready_in qs birth)))

pub set-has : (qs : List Queue) (birth : ℕ) (ready : List Edek) (b : ℕ) → has_queue qs b ≡ true → has_queue (set_ready qs birth ready) b ≡ true
set-has qs birth ready b has = has-set qs birth ready b ∙ has

-- a queue that is dropped

dropped-none : (qs : List Queue) (birth : ℕ) → has_queue (dropped qs birth) birth ≡ false
dropped-none [] birth = refl
dropped-none (q ∷ qs) birth = go (q.birth == birth) refl (dropped-none qs birth)
  where
    go : (t : Bool) → (q.birth == birth) ≡ t → has_queue (dropped qs birth) birth ≡ false → has_queue (cond (not t) (q ∷ dropped qs birth) (dropped qs birth)) birth ≡ false
    go true is ih = ih
    go false is ih = ap (λ t. cond t true (has_queue (dropped qs birth) birth)) is ∙ ih

dropped-other : (qs : List Queue) (birth b : ℕ) → (birth ≡ b → ⊥) → ready_in (dropped qs birth) b ≡ ready_in qs b
dropped-other [] birth b other = refl
dropped-other (q ∷ qs) birth b other = go (q.birth == birth) refl (dropped-other qs birth b other)
  where
    go : (t : Bool) → (q.birth == birth) ≡ t → ready_in (dropped qs birth) b ≡ ready_in qs b
        → ready_in (cond (not t) (q ∷ dropped qs birth) (dropped qs birth)) b ≡ cond (q.birth == b) q.ready (ready_in qs b)
    go true is ih = ih ∙ sym (ap (λ t. cond t q.ready (ready_in qs b)) (other-is q.birth b (λ same. other (sym (eqb-true q.birth birth is) ∙ same))))
    go false is ih = ap (cond (q.birth == b) q.ready) ih

pub dropped-has : (qs : List Queue) (birth b : ℕ) → (birth ≡ b → ⊥) → has_queue qs b ≡ true → has_queue (dropped qs birth) b ≡ true
dropped-has [] birth b other has = has
dropped-has (q ∷ qs) birth b other has = go (q.birth == birth) refl (dropped-has qs birth b other)
  where
    skipped : (t : Bool) → t ≡ false → cond t true (has_queue qs b) ≡ true → has_queue qs b ≡ true
    skipped true is h = absurd cc
    skipped false is h = h

    along : (t : Bool) → (has_queue qs b ≡ true → has_queue (dropped qs birth) b ≡ true) → cond t true (has_queue qs b) ≡ true → cond t true (has_queue (dropped qs birth) b) ≡ true
    along true ih h = refl
    along false ih h = ih h

    go : (t : Bool) → (q.birth == birth) ≡ t → (has_queue qs b ≡ true → has_queue (dropped qs birth) b ≡ true) → has_queue (cond (not t) (q ∷ dropped qs birth) (dropped qs birth)) b ≡ true
    go true is ih = ih (skipped (q.birth == b) (other-is q.birth b (λ same. other (sym (eqb-true q.birth birth is) ∙ same))) has)
    go false is ih = along (q.birth == b) ih has

pub dropped-shrinks : (qs : List Queue) (birth : ℕ) → Shrinks qs (dropped qs birth)
dropped-shrinks qs birth b = go (birth == b) refl
  where
    go : (t : Bool) → (birth == b) ≡ t → (k : ℕ) × (ready_in (dropped qs birth) b ≡ drop k (ready_in qs b))
    go true is =
        subst (λ (x : ℕ). (k : ℕ) × (ready_in (dropped qs birth) x ≡ drop k (ready_in qs x))) (eqb-true birth b is)
        (length (ready_in qs birth), absent-ready (dropped qs birth) birth (dropped-none qs birth) ∙ sym (drop-length (ready_in qs birth)))
    go false is = (0, dropped-other qs birth b (λ same. let no : true ≡ false = sym (eq-eqb birth b same) ∙ is in absurd cc))

-- an empty queue that is made for a birth without one

absent-rest : (q : Queue) (qs : List Queue) (birth : ℕ) → has_queue (q ∷ qs) birth ≡ false → has_queue qs birth ≡ false
absent-rest q qs birth none = go (q.birth == birth) none
  where
    go : (t : Bool) → cond t true (has_queue qs birth) ≡ false → has_queue qs birth ≡ false
    go true h = absurd cc
    go false h = h

front-ready : (qs : List Queue) (birth b : ℕ) → has_queue qs birth ≡ false → cond (birth == b) [] (ready_in qs b) ≡ ready_in qs b
front-ready qs birth b none = go (birth == b) refl
  where
    go : (t : Bool) → (birth == b) ≡ t → cond t [] (ready_in qs b) ≡ ready_in qs b
    go true is = sym (absent-ready qs b (subst (λ (x : ℕ). has_queue qs x ≡ false) (eqb-true birth b is) none))
    go false is = refl

put-ready : (qs : List Queue) (birth b : ℕ) → has_queue qs birth ≡ false → ready_in (put_queue (record { birth = birth; ready = [] }) qs) b ≡ ready_in qs b
put-ready [] birth b none = front-ready [] birth b none
put-ready (q ∷ qs) birth b none = go (nat_lt q.birth birth) (put-ready qs birth b (absent-rest q qs birth none))
  where
    made : Queue
    made = record { birth = birth; ready = [] }

    go : (t : Bool) → ready_in (put_queue made qs) b ≡ ready_in qs b → ready_in (cond t (q ∷ put_queue made qs) (made ∷ q ∷ qs)) b ≡ ready_in (q ∷ qs) b
    go true ih = ap (cond (q.birth == b) q.ready) ih
    go false ih = front-ready (q ∷ qs) birth b none

put-has : (made : Queue) (qs : List Queue) (b : ℕ) → has_queue qs b ≡ true → has_queue (put_queue made qs) b ≡ true
put-has made [] b has = absurd cc
put-has made (q ∷ qs) b has = go (nat_lt q.birth made.birth) (put-has made qs b)
  where
    along : (t : Bool) → (has_queue qs b ≡ true → has_queue (put_queue made qs) b ≡ true) → cond t true (has_queue qs b) ≡ true → cond t true (has_queue (put_queue made qs) b) ≡ true
    along true ih h = refl
    along false ih h = ih h

    over : (t : Bool) → cond t true (has_queue (q ∷ qs) b) ≡ true
    over true = refl
    over false = has

    go : (t : Bool) → (has_queue qs b ≡ true → has_queue (put_queue made qs) b ≡ true) → has_queue (cond t (q ∷ put_queue made qs) (made ∷ q ∷ qs)) b ≡ true
    go true ih = along (q.birth == b) ih has
    go false ih = over (made.birth == b)

made-ready : (all : AllQueues) (birth b : ℕ) → ready_in (with_queue all birth).queues b ≡ ready_in all.queues b
made-ready all birth b = go (has_queue all.queues birth) refl
  where
    go : (t : Bool) → has_queue all.queues birth ≡ t → ready_in (cond t all (record all { queues = put_queue (record { birth = birth; ready = [] }) all.queues })).queues b ≡ ready_in all.queues b
    go true has = refl
    go false none = put-ready all.queues birth b none

made-has : (all : AllQueues) (birth b : ℕ) → has_queue all.queues b ≡ true → has_queue (with_queue all birth).queues b ≡ true
made-has all birth b has = go (has_queue all.queues birth)
  where
    go : (t : Bool) → has_queue (cond t all (record all { queues = put_queue (record { birth = birth; ready = [] }) all.queues })).queues b ≡ true
    go true = has
    go false = put-has (record { birth = birth; ready = [] }) all.queues b has

-- ready keys that are handed out

pub handed-shrinks : (all : AllQueues) (birth count : ℕ) → Shrinks all.queues (handed_out all birth count).queues
handed-shrinks all birth count =
    let made = with_queue all birth in
    then-shrinks all.queues made.queues (handed_out all birth count).queues (same-shrinks all.queues made.queues (made-ready all birth)) (set-shrinks made.queues birth count)

pub handed-has : (all : AllQueues) (birth count b : ℕ) → has_queue all.queues b ≡ true → has_queue (handed_out all birth count).queues b ≡ true
handed-has all birth count b has =
    let made = with_queue all birth in
    set-has made.queues birth (drop count (ready_in made.queues birth)) b (made-has all birth b has)

pub handed-ready : (all : AllQueues) (birth count : ℕ) → ready_in (handed_out all birth count).queues birth ≡ drop count (ready_in all.queues birth)
handed-ready all birth count = set-drop (with_queue all birth).queues birth count ∙ ap (drop count) (made-ready all birth birth)
