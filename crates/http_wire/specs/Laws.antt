-- Properties of the definitions.
use Rattle.std.specs.Prelude.{◌≡◌, ℕ, List, Result, Option}
use Rattle.http_wire.specs.declared.faults.WireFault.{WireFault}
use Rattle.http_wire.specs.Message.{Message}
use Rattle.http_wire.specs.Requests.{BeginsAs, HasRequests}

-- bytes begin with one outcome, and leave one rest after it
abbrev pub OneBeginning : Type 0
OneBeginning = (all : List ℕ) (outcome other : Result Message WireFault) (rest left : List ℕ) → BeginsAs all outcome rest → BeginsAs all other left → (outcome ≡ other) × (rest ≡ left)

-- bytes have one list of requests, with one end
abbrev pub OneListOfRequests : Type 0
OneListOfRequests = (all : List ℕ) (requests others : List Message) (last end : Option WireFault) → HasRequests all requests last → HasRequests all others end → (requests ≡ others) × (last ≡ end)
