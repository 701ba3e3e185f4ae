-- The queues after one of them was made, changed or dropped. A crate above cites these.
use Rattle.std.proofs.Common.{◌≡◌, ◌≢◌, ℕ, Bool, true, false, not, cond, List, [], ◌∷◌, refl, sym, ap, ◌∙◌}
use Rattle.std.specs.Prelude.{◌==◌, nat_lt}
use Rattle.std.proofs.lemmas.Bool.{eqb-true, eq-eqb}
use Rattle.hk_base.specs.declared.names.Edek.{Edek}
use Rattle.eek_queues.specs.Queues.{Queue, ready_in, has_queue, set_ready, dropped, put_queue}
use Rattle.eek_queues.proofs.Births.{other-is}

-- ---- a change

pub ready-set_other : (qs : List Queue) (birth : ℕ) (ready : List Edek) (b : ℕ) → b ≢ birth → ready_in (set_ready qs birth ready) b ≡ ready_in qs b
ready-set_other [] birth ready b n = refl
ready-set_other (q ∷ qs) birth ready b n = go (q.birth == birth) refl (ready-set_other qs birth ready b n)
  where
    rest : List Queue
    rest = set_ready qs birth ready

    go : (t : Bool) → (q.birth == birth) ≡ t → ready_in rest b ≡ ready_in qs b → ready_in (cond t (record { birth = birth; ready = ready }) q ∷ rest) b ≡ cond (q.birth == b) q.ready (ready_in qs b)
    go true e ih =
        let other : (birth == b) ≡ false = other-is birth b (λ k. n (sym k)) in
        ap (λ t. cond t ready (ready_in rest b)) other ∙ ih
        ∙ sym (ap (λ t. cond t q.ready (ready_in qs b)) (ap (λ (x : ℕ). x == b) (eqb-true q.birth birth e) ∙ other))
    go false e ih = ap (cond (q.birth == b) q.ready) ih

-- ---- a drop

pub has-dropped : (qs : List Queue) (birth : ℕ) → has_queue (dropped qs birth) birth ≡ false
has-dropped [] birth = refl
has-dropped (q ∷ qs) birth = go (q.birth == birth) refl (has-dropped qs birth)
  where
    go : (t : Bool) → (q.birth == birth) ≡ t → has_queue (dropped qs birth) birth ≡ false → has_queue (cond (not t) (q ∷ dropped qs birth) (dropped qs birth)) birth ≡ false
    go true e ih = ih
    go false e ih = ap (λ t. cond t true (has_queue (dropped qs birth) birth)) e ∙ ih

pub has-dropped_other : (qs : List Queue) (birth b : ℕ) → b ≢ birth → has_queue (dropped qs birth) b ≡ has_queue qs b
has-dropped_other [] birth b n = refl
has-dropped_other (q ∷ qs) birth b n = go (q.birth == birth) refl (has-dropped_other qs birth b n)
  where
    go : (t : Bool) → (q.birth == birth) ≡ t → has_queue (dropped qs birth) b ≡ has_queue qs b → has_queue (cond (not t) (q ∷ dropped qs birth) (dropped qs birth)) b ≡ cond (q.birth == b) true (has_queue qs b)
    go true e ih =
        ih ∙ sym (ap (λ t. cond t true (has_queue qs b)) (ap (λ (x : ℕ). x == b) (eqb-true q.birth birth e) ∙ other-is birth b (λ k. n (sym k))))
    go false e ih = ap (cond (q.birth == b) true) ih

pub ready-dropped_other : (qs : List Queue) (birth b : ℕ) → b ≢ birth → ready_in (dropped qs birth) b ≡ ready_in qs b
ready-dropped_other [] birth b n = refl
ready-dropped_other (q ∷ qs) birth b n = go (q.birth == birth) refl (ready-dropped_other qs birth b n)
  where
    go : (t : Bool) → (q.birth == birth) ≡ t → ready_in (dropped qs birth) b ≡ ready_in qs b → ready_in (cond (not t) (q ∷ dropped qs birth) (dropped qs birth)) b ≡ cond (q.birth == b) q.ready (ready_in qs b)
    go true e ih =
        ih ∙ sym (ap (λ t. cond t q.ready (ready_in qs b)) (ap (λ (x : ℕ). x == b) (eqb-true q.birth birth e) ∙ other-is birth b (λ k. n (sym k))))
    go false e ih = ap (cond (q.birth == b) q.ready) ih

-- ---- one more queue

pub has-put : (q : Queue) (qs : List Queue) → has_queue (put_queue q qs) q.birth ≡ true
has-put q [] = ap (λ t. cond t true false) (eq-eqb q.birth q.birth refl)
has-put q (x ∷ xs) = go (nat_lt x.birth q.birth) (has-put q xs)
  where
    go : (t : Bool) → has_queue (put_queue q xs) q.birth ≡ true → has_queue (cond t (x ∷ put_queue q xs) (q ∷ x ∷ xs)) q.birth ≡ true
    go true ih = either (x.birth == q.birth)
      where
        either : (t : Bool) → cond t true (has_queue (put_queue q xs) q.birth) ≡ true
        either true = refl
        either false = ih
    go false ih = ap (λ t. cond t true (has_queue (x ∷ xs) q.birth)) (eq-eqb q.birth q.birth refl)

pub has-put_other : (q : Queue) (qs : List Queue) (b : ℕ) → b ≢ q.birth → has_queue (put_queue q qs) b ≡ has_queue qs b
has-put_other q [] b n = ap (λ t. cond t true false) (other-is q.birth b (λ k. n (sym k)))
has-put_other q (x ∷ xs) b n = go (nat_lt x.birth q.birth) (has-put_other q xs b n)
  where
    go : (t : Bool) → has_queue (put_queue q xs) b ≡ has_queue xs b → has_queue (cond t (x ∷ put_queue q xs) (q ∷ x ∷ xs)) b ≡ has_queue (x ∷ xs) b
    go true ih = ap (cond (x.birth == b) true) ih
    go false ih = ap (λ t. cond t true (has_queue (x ∷ xs) b)) (other-is q.birth b (λ k. n (sym k)))

pub ready-put_other : (q : Queue) (qs : List Queue) (b : ℕ) → b ≢ q.birth → ready_in (put_queue q qs) b ≡ ready_in qs b
ready-put_other q [] b n = ap (λ t. cond t q.ready []) (other-is q.birth b (λ k. n (sym k)))
ready-put_other q (x ∷ xs) b n = go (nat_lt x.birth q.birth) (ready-put_other q xs b n)
  where
    go : (t : Bool) → ready_in (put_queue q xs) b ≡ ready_in xs b → ready_in (cond t (x ∷ put_queue q xs) (q ∷ x ∷ xs)) b ≡ ready_in (x ∷ xs) b
    go true ih = ap (cond (x.birth == b) x.ready) ih
    go false ih = ap (λ t. cond t q.ready (ready_in (x ∷ xs) b)) (other-is q.birth b (λ k. n (sym k)))

-- the birth had no queue, so there is none before the new one
pub ready-put : (q : Queue) (qs : List Queue) → has_queue qs q.birth ≡ false → ready_in (put_queue q qs) q.birth ≡ q.ready
ready-put q [] h = ap (λ t. cond t q.ready []) (eq-eqb q.birth q.birth refl)
ready-put q (x ∷ xs) h = go (nat_lt x.birth q.birth) (x.birth == q.birth) h (ready-put q xs)
  where
    go : (t u : Bool) → cond u true (has_queue xs q.birth) ≡ false → (has_queue xs q.birth ≡ false → ready_in (put_queue q xs) q.birth ≡ q.ready) → ready_in (cond t (x ∷ put_queue q xs) (q ∷ x ∷ xs)) q.birth ≡ q.ready
    go true u k ih = passed (x.birth == q.birth) h ih
      where
        passed : (u : Bool) → cond u true (has_queue xs q.birth) ≡ false → (has_queue xs q.birth ≡ false → ready_in (put_queue q xs) q.birth ≡ q.ready) → cond u x.ready (ready_in (put_queue q xs) q.birth) ≡ q.ready
        passed true k ih = cc
        passed false k ih = ih k
    go false u k ih = ap (λ t. cond t q.ready (ready_in (x ∷ xs) q.birth)) (eq-eqb q.birth q.birth refl)
