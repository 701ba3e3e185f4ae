-- The invariant of the fields of the queues.
use Rattle.std.specs.Prelude.{◌≡◌, ◌<◌, ◌≤◌, ℕ, List, [], ◌∷◌, length, map}
use Rattle.std.specs.List.{AllByRecursion}
use Rattle.eek_queues.specs.declared.order.QueuePlace.{QueuePlace}
use Rattle.eek_queues.specs.declared.rings.Ring.{Ring}
use Rattle.eek_queues.specs.Queues.{Queue}
use Rattle.eek_queues.specs.Order.{places_of}

abbrev pub queue_of : Ring → Queue
queue_of r = record { birth = r.birth; ready = r.ready.items }

abbrev pub queues_of : List Ring → List Queue
queues_of rings = map queue_of rings

-- each birth is below the later ones
abbrev pub AreQueuesRising : List Queue → Type 0
AreQueuesRising [] = Unit {0}
AreQueuesRising (q ∷ qs) = AllByRecursion (λ r. q.birth < r.birth) qs × AreQueuesRising qs

-- queues in order of birth, rings of capacity `size`, the places of queues with fewer than n keys, and room for a place of each queue
pub record AreQueuesKept (size n : ℕ) (rings : List Ring) (places : List QueuePlace) (spare : ℕ) : Type 0 where
  pub rising : AreQueuesRising (queues_of rings)
  pub sized : AllByRecursion (λ r. r.ready.capacity ≡ size) rings
  pub order : places ≡ places_of n (queues_of rings)
  pub room : length rings ≤ spare
