-- The rings and the queues in them.
use Rattle.std.proofs.Common.{◌≡◌, ℕ, ◌-◌, ◌<◌, ◌≤◌, inl, inr, drop, zero, suc, Bool, true, false, not, cond, List, [], ◌∷◌, Option, Some, length, get_or, set, refl, sym, ap, subst, ◌∙◌, arith}
use Rattle.std.specs.Prelude.{◌==◌, nat_lt, slice_get, IsNone}
use Rattle.std.specs.List.{AllByRecursion, insert, remove}
use Rattle.std.specs.List.Sorted.{IsNonDecreasingBy, IsPartitionPoint}
use Rattle.std.proofs.lemmas.Bool.Decides.{nat_tests}
use Rattle.std.proofs.lemmas.Bool.{cases_lt, ltb-false, eq-eqb}
use Rattle.std.proofs.lemmas.List.{drop_all, get_or-map, length-map, length-set, map-set}
use Rattle.circular_buffer.specs.Buffer.{Buffer, buffer}
use Rattle.hk_base.specs.declared.names.Edek.{Edek}
use Rattle.eek_queues.specs.declared.order.QueuePlace.{QueuePlace}
use Rattle.eek_queues.specs.declared.rings.Ring.{Ring}
use Rattle.eek_queues.specs.Queues.{AllQueues, Queue, ready_in, has_queue, set_ready, dropped, put, put_queue}
use Rattle.eek_queues.specs.Order.{StandsInOrder, is_before, with_place, place_of, places_of}
use Rattle.eek_queues.specs.Kept.{AreQueuesKept, AreQueuesRising, queue_of, queues_of}
use Rattle.eek_queues.proofs.Put.{length-put, map-put, put-insert}
use Rattle.eek_queues.proofs.Places.{all-at, in_order-places_of}
use Rattle.eek_queues.proofs.Births.{above-absent, absent-dropped, absent-ready, has-at, other-is, places-dropped, places-put, places-set, ready-at, rising-dropped, rising-put, rising-set, set-at}

-- ---- the place of a birth

birth-at : (rings : List Ring) (a k : ℕ) (d : Ring) → AllByRecursion (λ q. a < q.birth) (queues_of rings) → k < length rings → a < (get_or rings k d).birth
birth-at [] a k d all b = absurd (omega arith)
birth-at (r ∷ rs) a zero d all b = all.0
birth-at (r ∷ rs) a (suc k) d all b = birth-at rs a k d all.1 (omega arith)

pub births-rise : (rings : List Ring) → AreQueuesRising (queues_of rings) → IsNonDecreasingBy (λ r. r.birth) rings
births-rise [] h i j d l b = absurd (omega arith)
births-rise (r ∷ rs) h zero zero d l b = omega arith
births-rise (r ∷ rs) h zero (suc j) d l b = omega (arith, birth-at rs r.birth j d h.0 (omega arith))
births-rise (r ∷ rs) h (suc i) zero d l b = absurd (omega arith)
births-rise (r ∷ rs) h (suc i) (suc j) d l b = births-rise rs h.1 i j d (omega arith) (omega arith)

-- the rings before the index have lower births, and those from it on do not
abbrev pub PartedAt : List Ring → ℕ → ℕ → Type 0
PartedAt rings birth at = IsPartitionPoint (λ (r : Ring). nat_lt r.birth birth ≡ true) (λ (r : Ring). nat_lt r.birth birth ≡ false) rings at

parted-next : (r : Ring) (rs : List Ring) (birth at : ℕ) → PartedAt (r ∷ rs) birth (suc at) → PartedAt rs birth at
parted-next r rs birth at h = (λ k d low high. h.0 (suc k) d (omega arith) (omega arith), λ k d low high. h.1 (suc k) d (omega arith) (omega arith))

lesser-other : (a b : ℕ) → nat_lt a b ≡ true → (a == b) ≡ false
lesser-other a b h = grind (arith, nat_tests)

-- a birth whose place is past the last ring has no queue
pub absent-past : (rings : List Ring) (birth : ℕ) → PartedAt rings birth (length rings) → has_queue (queues_of rings) birth ≡ false
absent-past [] birth h = refl
absent-past (r ∷ rs) birth h =
    ap (λ t. cond t true (has_queue (queues_of rs) birth)) (lesser-other r.birth birth (h.0 0 r (omega arith) (omega arith)))
    ∙ absent-past rs birth (parted-next r rs birth (length rs) h)

-- a birth whose place has another birth has no queue
pub absent-place : (rings : List Ring) (birth at : ℕ) (d : Ring) → AreQueuesRising (queues_of rings) → at < length rings → PartedAt rings birth at → ((get_or rings at d).birth ≡ birth → ⊥) → has_queue (queues_of rings) birth ≡ false
absent-place [] birth at d h b p n = absurd (omega arith)
absent-place (r ∷ rs) birth zero d h b p n =
    ap (λ t. cond t true (has_queue (queues_of rs) birth)) (other-is r.birth birth n)
    ∙ above-absent (queues_of rs) r.birth birth h.0 (ltb-false r.birth birth (p.1 0 r (omega arith) (omega arith)))
absent-place (r ∷ rs) birth (suc at) d h b p n =
    ap (λ t. cond t true (has_queue (queues_of rs) birth)) (lesser-other r.birth birth (p.0 0 r (omega arith) (omega arith)))
    ∙ absent-place rs birth at d h.1 (omega arith) (parted-next r rs birth at p) n

-- ---- the ring at an index

pub record IsAt (rings : List Ring) (birth at : ℕ) (ring : Ring) : Type 0 where
  pub rising : AreQueuesRising (queues_of rings)
  pub within : at < length rings
  pub here : ring ≡ get_or rings at ring
  pub its_birth : ring.birth ≡ birth

module _ (rings : List Ring) (birth at : ℕ) (ring : Ring) (h : IsAt rings birth at ring) where
  inside : at < length (queues_of rings)
  inside = omega (arith, length-map rings queue_of, h.within)

  queue-at : get_or (queues_of rings) at (queue_of ring) ≡ queue_of ring
  queue-at = get_or-map queue_of rings at ring (queue_of ring) h.within ∙ ap queue_of (sym h.here)

  birth-there : (get_or (queues_of rings) at (queue_of ring)).birth ≡ birth
  birth-there = ap (λ (q : Queue). q.birth) queue-at ∙ h.its_birth

  pub has-ring : has_queue (queues_of rings) birth ≡ true
  has-ring = has-at (queues_of rings) birth at (queue_of ring) h.rising inside birth-there

  pub ready-ring : ready_in (queues_of rings) birth ≡ ring.ready.items
  ready-ring = ready-at (queues_of rings) birth at (queue_of ring) h.rising inside birth-there ∙ ap (λ (q : Queue). q.ready) queue-at

  pub set-ring : (new : Ring) → new.birth ≡ birth → queues_of (set rings at new) ≡ set_ready (queues_of rings) birth new.ready.items
  set-ring new e =
      map-set queue_of rings at new
      ∙ (λ i. set (queues_of rings) at (record { birth = e i; ready = new.ready.items }))
      ∙ set-at (queues_of rings) birth at (queue_of ring) new.ready.items h.rising inside birth-there

remove-rings : (rings : List Ring) (birth at : ℕ) (d : Ring) → AreQueuesRising (queues_of rings) → at < length rings → (get_or rings at d).birth ≡ birth → queues_of (remove rings at) ≡ dropped (queues_of rings) birth
remove-rings [] birth at d h b e = absurd (omega arith)
remove-rings (r ∷ rs) birth zero d h b e =
    sym (ap (λ t. cond (not t) (queue_of r ∷ dropped (queues_of rs) birth) (dropped (queues_of rs) birth)) (eq-eqb r.birth birth e)
    ∙ absent-dropped (queues_of rs) birth (above-absent (queues_of rs) r.birth birth h.0 (omega arith)))
remove-rings (r ∷ rs) birth (suc at) d h b e =
    let l : r.birth < birth = omega (arith, birth-at rs r.birth at d h.0 (omega arith), e) in
    let other : (r.birth == birth) ≡ false = grind (arith, nat_tests) in
    sym (ap (λ t. cond (not t) (queue_of r ∷ dropped (queues_of rs) birth) (dropped (queues_of rs) birth)) other
    ∙ ap (λ qs. queue_of r ∷ qs) (sym (remove-rings rs birth at d h.1 (omega arith) e)))

pub remove-ring : (rings : List Ring) (birth at : ℕ) (ring : Ring) → IsAt rings birth at ring → queues_of (remove rings at) ≡ dropped (queues_of rings) birth
remove-ring rings birth at ring h = remove-rings rings birth at ring h.rising h.within (ap (λ (r : Ring). r.birth) (sym h.here) ∙ h.its_birth)

-- inserting a ring at its place inserts its queue at its place
pub insert-ring : (rings : List Ring) (at : ℕ) (new : Ring) → at ≤ length rings → PartedAt rings new.birth at → queues_of (insert rings at new) ≡ put_queue (queue_of new) (queues_of rings)
insert-ring rings at new b p =
    ap queues_of (sym (put-insert (λ (r s : Ring). nat_lt r.birth s.birth) new rings at b p))
    ∙ map-put (λ (q r : Queue). nat_lt q.birth r.birth) queue_of new rings

-- what `find` and an index give
pub found : (rings : List Ring) (birth at : ℕ) (ring : Ring) → AreQueuesRising (queues_of rings) → at < length rings → ring ≡ get_or rings at ring → ((d : Ring) → (get_or rings at d).birth ≡ birth) → IsAt rings birth at ring
found rings birth at ring r b e f = record { rising = r; within = b; here = e; its_birth = ap (λ (x : Ring). x.birth) e ∙ f ring }

pub has-found : (rings : List Ring) (birth at : ℕ) → AreQueuesRising (queues_of rings) → at < length rings → ((d : Ring) → (get_or rings at d).birth ≡ birth) → has_queue (queues_of rings) birth ≡ true
has-found [] birth at h b f = absurd (omega arith)
has-found (r ∷ rs) birth at h b f =
    has-at (queues_of (r ∷ rs)) birth at (queue_of r) h (omega (arith, length-map (r ∷ rs) queue_of, b))
    (ap (λ (q : Queue). q.birth) (get_or-map queue_of (r ∷ rs) at r (queue_of r) b) ∙ f r)

-- replacing the keys of a ring replaces the keys of its queue
pub replace-ring : (rings : List Ring) (birth at : ℕ) (ring new : Ring) (g : List Edek → List Edek) (size : ℕ) → IsAt rings birth at ring → new.birth ≡ ring.birth → new.ready ≡ buffer (g ring.ready.items) size
    → queues_of (set rings at new) ≡ set_ready (queues_of rings) birth (g (ready_in (queues_of rings) birth))
replace-ring rings birth at ring new g size h b e =
    set-ring rings birth at ring h new (b ∙ h.its_birth)
    ∙ ap (set_ready (queues_of rings) birth) (ap (λ (x : Buffer Edek). x.items) e ∙ ap g (sym (ready-ring rings birth at ring h)))

-- the view of the queues in contracts
abbrev pub seen : ℕ → ℕ → List Queue → AllQueues
seen size watermark qs = record { size = size; watermark = watermark; queues = qs }

-- a change of the rings is the same change of the view
pub changed : (f : List Queue → List Queue) (old : AllQueues) (size watermark : ℕ) (rings rings' : List Ring) → seen size watermark (queues_of rings) ≡ old → queues_of rings' ≡ f (queues_of rings)
    → seen size watermark (queues_of rings') ≡ seen old.size old.watermark (f old.queues)
changed f old size watermark rings rings' view e =
    ap (seen size watermark) e ∙ ap (λ (o : AllQueues). seen o.size o.watermark (f o.queues)) view

module _ (old : AllQueues) (size watermark : ℕ) (rings : List Ring) (view : seen size watermark (queues_of rings) ≡ old) where
  pub has-seen : (birth : ℕ) → has_queue old.queues birth ≡ has_queue (queues_of rings) birth
  has-seen birth = ap (λ (o : AllQueues). has_queue o.queues birth) (sym view)

  pub ready-seen : (birth at : ℕ) (ring : Ring) → IsAt rings birth at ring → ready_in old.queues birth ≡ ring.ready.items
  ready-seen birth at ring h = ap (λ (o : AllQueues). ready_in o.queues birth) (sym view) ∙ ready-ring rings birth at ring h

  pub absent-seen : (birth : ℕ) → has_queue (queues_of rings) birth ≡ false → ready_in old.queues birth ≡ []
  absent-seen birth h = ap (λ (o : AllQueues). ready_in o.queues birth) (sym view) ∙ absent-ready (queues_of rings) birth h

-- what is left when the last ones are kept, which are all but the first `count`
pub drop-but : {X : Type 0} (count : ℕ) (xs : List X) → drop (length xs - (length xs - count)) xs ≡ drop count xs
drop-but count xs = elim (cases_lt count (length xs)) [
  | inl within ↦ ap (λ n. drop n xs) (omega (arith, within))
  | inr past ↦ ap (λ n. drop n xs) (omega (arith, past)) ∙ drop_all (length xs) xs (omega arith) ∙ sym (drop_all count xs past)
]

pub none-front : (xs : List Edek) (r : Option Edek) → r ≡ slice_get xs 0 → (IsNone r → xs ≡ []) × (xs ≡ [] → IsNone r)
none-front [] r e = (λ h. refl, λ h. subst (λ (o : Option Edek). IsNone o) (sym e) refl)
none-front (x ∷ xs) r e = (λ h. let k : IsNone (Some x) = subst (λ (o : Option Edek). IsNone o) e h in cc, λ h. cc)

-- ---- each ring keeps its capacity

module _ (P : Ring → Type 0) where
  pub all-set : (rings : List Ring) (at : ℕ) (new : Ring) → P new → AllByRecursion P rings → AllByRecursion P (set rings at new)
  all-set [] at new p all = tt
  all-set (r ∷ rs) zero new p all = (p, all.1)
  all-set (r ∷ rs) (suc at) new p all = (all.0, all-set rs at new p all.1)

  pub all-remove : (rings : List Ring) (at : ℕ) → AllByRecursion P rings → AllByRecursion P (remove rings at)
  all-remove [] zero all = tt
  all-remove [] (suc at) all = tt
  all-remove (r ∷ rs) zero all = all.1
  all-remove (r ∷ rs) (suc at) all = (all.0, all-remove rs at all.1)

  pub all-insert : (rings : List Ring) (at : ℕ) (new : Ring) → P new → AllByRecursion P rings → AllByRecursion P (insert rings at new)
  all-insert [] zero new p all = (p, tt)
  all-insert [] (suc at) new p all = (p, tt)
  all-insert (r ∷ rs) zero new p all = (p, all)
  all-insert (r ∷ rs) (suc at) new p all = (all.0, all-insert rs at new p all.1)

-- ---- the number of places

length-with : (n : ℕ) (place : QueuePlace) (ps : List QueuePlace) → length (with_place n place ps) ≤ suc (length ps)
length-with n place ps = go (nat_lt place.count n)
  where
    go : (t : Bool) → length (cond t (put is_before place ps) ps) ≤ suc (length ps)
    go true = omega (arith, length-put is_before place ps)
    go false = omega arith

pub length-places_of : (n : ℕ) (qs : List Queue) → length (places_of n qs) ≤ length qs
length-places_of n [] = omega arith
length-places_of n (q ∷ qs) = omega (arith, length-with n (place_of q) (places_of n qs), length-places_of n qs)

pub length-dropped : (qs : List Queue) (birth : ℕ) → length (dropped qs birth) ≤ length qs
length-dropped [] birth = omega arith
length-dropped (q ∷ qs) birth = go (not (q.birth == birth)) (length-dropped qs birth)
  where
    go : (t : Bool) → length (dropped qs birth) ≤ length qs → length (cond t (q ∷ dropped qs birth) (dropped qs birth)) ≤ suc (length qs)
    go true ih = omega arith
    go false ih = omega arith

pub fewer-dropped : (qs : List Queue) (birth : ℕ) → has_queue qs birth ≡ true → length (dropped qs birth) < length qs
fewer-dropped [] birth h = cc
fewer-dropped (q ∷ qs) birth h = go (q.birth == birth) h (fewer-dropped qs birth) (length-dropped qs birth)
  where
    go : (t : Bool) → cond t true (has_queue qs birth) ≡ true → (has_queue qs birth ≡ true → length (dropped qs birth) < length qs) → length (dropped qs birth) ≤ length qs
        → length (cond (not t) (q ∷ dropped qs birth) (dropped qs birth)) < suc (length qs)
    go true k ih l = omega arith
    go false k ih l = omega (arith, ih k)

-- ---- the invariant

module _ (size n : ℕ) (rings : List Ring) (places : List QueuePlace) (spare : ℕ) (k : AreQueuesKept size n rings places spare) where
  pub room-at : (birth at : ℕ) (ring : Ring) → IsAt rings birth at ring → ring.ready.capacity ≡ size
  room-at birth at ring h = ap (λ (r : Ring). r.ready.capacity) h.here ∙ all-at (λ r. r.ready.capacity ≡ size) rings at ring k.sized h.within

  pub stands-is : (birth count : ℕ) → has_queue (queues_of rings) birth ≡ true → count ≡ length (ready_in (queues_of rings) birth) → places ≡ with_place n (record { count = count; birth = birth }) (places_of n (dropped (queues_of rings) birth))
  stands-is birth count h e =
      k.order ∙ places-dropped n (queues_of rings) birth k.rising h ∙ (λ i. with_place n (record { count = sym e i; birth = birth }) (places_of n (dropped (queues_of rings) birth)))

  -- the queue of a birth has its place in the order, with the number of its ready keys
  pub stands : (birth count : ℕ) → has_queue (queues_of rings) birth ≡ true → count ≡ length (ready_in (queues_of rings) birth) → StandsInOrder n (record { count = count; birth = birth }) places spare
  stands birth count h e =
      record {
        others = places_of n (dropped (queues_of rings) birth);
        is = stands-is birth count h e;
        order = in_order-places_of n (dropped (queues_of rings) birth);
        room = omega (arith, length-places_of n (dropped (queues_of rings) birth), fewer-dropped (queues_of rings) birth h, length-map rings queue_of, k.room);
      }

  pub kept-set : (birth at : ℕ) (ring new : Ring) (count : ℕ) (n' : ℕ) (places' : List QueuePlace) (spare' : ℕ) → IsAt rings birth at ring → new.birth ≡ birth → new.ready.capacity ≡ size → count ≡ length new.ready.items
      → n' ≡ n → places' ≡ with_place n (record { count = count; birth = birth }) (places_of n (dropped (queues_of rings) birth)) → spare ≤ spare' → AreQueuesKept size n' (set rings at new) places' spare'
  kept-set birth at ring new count n' places' spare' h b c e m p s =
      let is : queues_of (set rings at new) ≡ set_ready (queues_of rings) birth new.ready.items = set-ring rings birth at ring h new b in
      let order : places' ≡ places_of n (queues_of (set rings at new)) =
      p ∙ (λ i. with_place n (record { count = e i; birth = birth }) (places_of n (dropped (queues_of rings) birth)))
      ∙ sym (places-set n (queues_of rings) birth new.ready.items k.rising (has-ring rings birth at ring h)) ∙ ap (places_of n) (sym is) in
      record {
        rising = subst AreQueuesRising (sym is) (rising-set (queues_of rings) birth new.ready.items k.rising);
        sized = all-set (λ r. r.ready.capacity ≡ size) rings at new c k.sized;
        order = order ∙ ap (λ (x : ℕ). places_of x (queues_of (set rings at new))) (sym m);
        room = omega (arith, length-set rings at new, k.room, s);
      }

  pub kept-remove : (birth at : ℕ) (ring : Ring) (n' : ℕ) (places' : List QueuePlace) (spare' : ℕ) → IsAt rings birth at ring → n' ≡ n → places' ≡ places_of n (dropped (queues_of rings) birth) → spare ≤ spare' → AreQueuesKept size n' (remove rings at) places' spare'
  kept-remove birth at ring n' places' spare' h m p s =
      let is : queues_of (remove rings at) ≡ dropped (queues_of rings) birth = remove-ring rings birth at ring h in
      record {
        rising = subst AreQueuesRising (sym is) (rising-dropped (queues_of rings) birth k.rising);
        sized = all-remove (λ r. r.ready.capacity ≡ size) rings at k.sized;
        order = p ∙ ap (places_of n) (sym is) ∙ ap (λ (x : ℕ). places_of x (queues_of (remove rings at))) (sym m);
        room = omega (arith, length-map (remove rings at) queue_of, length-map rings queue_of, ap length is, length-dropped (queues_of rings) birth, k.room, s);
      }

  pub kept-insert : (at : ℕ) (new : Ring) (n' : ℕ) (places' : List QueuePlace) (spare' : ℕ) → has_queue (queues_of rings) new.birth ≡ false → at ≤ length rings → PartedAt rings new.birth at → new.ready.capacity ≡ size
      → n' ≡ n → places' ≡ with_place n (place_of (queue_of new)) places → suc (length rings) ≤ spare' → AreQueuesKept size n' (insert rings at new) places' spare'
  kept-insert at new n' places' spare' h b part c m p s =
      let is : queues_of (insert rings at new) ≡ put_queue (queue_of new) (queues_of rings) = insert-ring rings at new b part in
      record {
        rising = subst AreQueuesRising (sym is) (rising-put (queue_of new) (queues_of rings) h k.rising);
        sized = all-insert (λ r. r.ready.capacity ≡ size) rings at new c k.sized;
        order = p ∙ ap (with_place n (place_of (queue_of new))) k.order ∙ sym (places-put n (queue_of new) (queues_of rings)) ∙ ap (places_of n) (sym is) ∙ ap (λ (x : ℕ). places_of x (queues_of (insert rings at new))) (sym m);
        room = omega (arith, length-map (insert rings at new) queue_of, length-map rings queue_of, ap length is, length-put (λ (q r : Queue). nat_lt q.birth r.birth) (queue_of new) (queues_of rings), s);
      }
