-- How contracts see a door: the port that it listens on, the connections that it accepted and those that were left, and whether it closed.
use Rattle.std.specs.Prelude.{ℕ, ◌+◌, Bool, true, List, [], ◌∷◌, ◌++◌, Option, None, Some}
use Rattle.hk_base.specs.declared.ended.Ended.{Ended}

-- a connection as it was left: both ends as they were then, and how it ended
pub record LeftConnection (I O : Type 0) : Type 0 where
  pub input : I
  pub out : O
  pub ended : Ended

-- The view of a door in proofs.
pub record DoorState (I O : Type 0) : Type 0 where
  -- the port that it was opened on last
  pub port : Option ℕ
  -- how many connections were accepted, and how many were left
  pub accepted : ℕ
  pub left : ℕ
  -- both ends of each connection as they were accepted, in that order, if the door promises them
  pub came : Option (List (I × O))
  -- the connections in the order in which they were left, if the door promises them
  pub gone : Option (List (LeftConnection I O))
  -- whether an accept has answered that the door takes no more connections
  pub closed : Bool

-- more entries of a list, if there is one
abbrev pub with_more : {A : Type 0} → Option (List A) → List A → Option (List A)
with_more None more = None
with_more (Some known) more = Some (known ++ more)

abbrev pub with_port : {I O : Type 0} → DoorState I O → ℕ → DoorState I O
with_port d port = record d { port = Some port }

abbrev pub with_accepted : {I O : Type 0} → DoorState I O → I × O → DoorState I O
with_accepted d ends = record d { accepted = d.accepted + 1; came = with_more d.came (ends ∷ []) }

abbrev pub with_left : {I O : Type 0} → DoorState I O → LeftConnection I O → DoorState I O
with_left d one = record d { left = d.left + 1; gone = with_more d.gone (one ∷ []) }

abbrev pub with_closed : {I O : Type 0} → DoorState I O → DoorState I O
with_closed d = record d { closed = true }
