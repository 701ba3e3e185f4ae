-- The low queues in order: fewest ready keys first, then the lowest birth.
use Rattle.std.specs.Prelude.{◌≡◌, ◌<◌, ℕ, nat_lt, ◌==◌, Bool, false, List, [], ◌∷◌, length, if◌then◌else◌}
use Rattle.std.specs.List.{AllByRecursion}
use Rattle.eek_queues.specs.declared.order.QueuePlace.{QueuePlace}
use Rattle.eek_queues.specs.Queues.{Queue, put}

abbrev pub is_before : QueuePlace → QueuePlace → Bool
is_before a b = if a.count == b.count then nat_lt a.birth b.birth else nat_lt a.count b.count

-- no place is before an earlier one
abbrev pub AreInPlaceOrder : List QueuePlace → Type 0
AreInPlaceOrder [] = Unit {0}
AreInPlaceOrder (p ∷ ps) = AllByRecursion (λ q. is_before q p ≡ false) ps × AreInPlaceOrder ps

-- the places with one more, if it is low
abbrev pub with_place : ℕ → QueuePlace → List QueuePlace → List QueuePlace
with_place n p ps = if nat_lt p.count n then put is_before p ps else ps

abbrev pub place_of : Queue → QueuePlace
place_of q = record { count = length q.ready; birth = q.birth }

-- the places of the low queues
abbrev pub places_of : ℕ → List Queue → List QueuePlace
places_of n [] = []
places_of n (q ∷ qs) = with_place n (place_of q) (places_of n qs)

-- the places are some others and this place, if it is low, and there is room for more than the others
pub record StandsInOrder (n : ℕ) (place : QueuePlace) (places : List QueuePlace) (spare : ℕ) : Type 0 where
  pub others : List QueuePlace
  pub is : places ≡ with_place n place others
  pub order : AreInPlaceOrder others
  pub room : length others < spare
