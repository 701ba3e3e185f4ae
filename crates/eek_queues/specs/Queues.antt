-- Queues of ready keys, as one list by the births of their keys.
use Rattle.std.specs.Prelude.{◌≡◌, ◌<◌, ◌≤◌, ℕ, nat_lt, Bool, true, false, not, ◌==◌, List, [], ◌∷◌, length, map, min, All, Option, Some, None, if◌then◌else◌}
use Rattle.std.specs.List.{filter}
use Rattle.hk_base.specs.declared.names.Edek.{Edek}

-- the queue of a key: the key's birth, and its ready keys, oldest first
pub record Queue : Type 0 where
  pub birth : ℕ
  pub ready : List Edek

-- the capacity of each queue, the number of keys below which a queue is low, and the queues
pub record AllQueues : Type 0 where
  pub size : ℕ
  pub watermark : ℕ
  pub queues : List Queue

-- a queue with fewer ready keys than this is low
abbrev pub limit : AllQueues → ℕ
limit all = min all.watermark all.size

-- the ready keys of a birth, or none if it has no queue
abbrev pub ready_in : List Queue → ℕ → List Edek
ready_in [] birth = []
ready_in (q ∷ qs) birth = if q.birth == birth then q.ready else ready_in qs birth

abbrev pub has_queue : List Queue → ℕ → Bool
has_queue [] birth = false
has_queue (q ∷ qs) birth = if q.birth == birth then true else has_queue qs birth

abbrev pub with_ready : ℕ → List Edek → Queue → Queue
with_ready birth ready q = if q.birth == birth then record { birth = birth; ready = ready } else q

-- the queue of the birth with these ready keys, and all others unchanged
abbrev pub set_ready : List Queue → ℕ → List Edek → List Queue
set_ready qs birth ready = map (with_ready birth ready) qs

-- all queues except that of the birth
abbrev pub dropped : List Queue → ℕ → List Queue
dropped qs birth = filter (λ q. not (q.birth == birth)) qs

-- the list with x inserted before the first element that is not before it
abbrev pub put : {X : Type 0} → (X → X → Bool) → X → List X → List X
put before x [] = x ∷ []
put before x (y ∷ ys) = if before y x then y ∷ put before x ys else x ∷ y ∷ ys

-- the queues with one more, at its place by birth
abbrev pub put_queue : Queue → List Queue → List Queue
put_queue q qs = put (λ a b. nat_lt a.birth b.birth) q qs

-- q has fewer ready keys than r, or equally many and the lower birth
abbrev pub is_lower : Queue → Queue → Bool
is_lower q r = if length q.ready == length r.ready then nat_lt q.birth r.birth else nat_lt (length q.ready) (length r.ready)

abbrev pub lower_of : Queue → Option Queue → Queue
lower_of q None = q
lower_of q (Some r) = if is_lower r q then r else q

-- the lowest of the queues with fewer ready keys than n
abbrev pub lowest : ℕ → List Queue → Option Queue
lowest n [] = None
lowest n (q ∷ qs) = if nat_lt (length q.ready) n then Some (lower_of q (lowest n qs)) else lowest n qs

-- the birth has a queue with fewer ready keys than n, no queue has fewer, and no queue with equally many has a lower birth
pub record IsLowest (n : ℕ) (qs : List Queue) (birth : ℕ) : Type 0 where
  pub stands : has_queue qs birth ≡ true
  pub low : length (ready_in qs birth) < n
  pub fewest : All (λ q. length (ready_in qs birth) ≤ length q.ready) qs
  pub least : All (λ q. length q.ready ≡ length (ready_in qs birth) → birth ≤ q.birth) qs
