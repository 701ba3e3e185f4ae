-- A whole connection.
use Rattle.std.specs.Prelude.{◌≡◌, ◌⊎◌, ℕ, List, [], ◌∷◌, ◌++◌, map, None, Some, Ok}
use Rattle.std.proofs.Common.{inl, inr}
use Rattle.http_wire.specs.declared.faults.WireFault.{WireFault}
use Rattle.http_wire.specs.declared.faults.WireFault.TheVariants as wire
use Rattle.http_wire.specs.Message.{Message}
use Rattle.http_wire.specs.Requests.{BeginsAs, HasRequests}
use Rattle.hk_base.specs.declared.ended.Ended.{Ended}
use Rattle.hk_base.specs.declared.ended.Ended.TheVariants as ended
use Rattle.hk_serve.specs.Ends.{Ends, GetsResponse}
use Rattle.hk_serve.specs.Exchanges.{Exchange, Stand, WentOn, bytes_in}
use Rattle.hk_serve.specs.Transactions.{Answering}

-- the bytes begin with these requests
abbrev pub BeginsWithRequests : List ℕ → List Message → Type 0
BeginsWithRequests all [] = Unit {0}
BeginsWithRequests all (message ∷ more) = (rest : List ℕ) × (BeginsAs all (Ok message) rest × BeginsWithRequests rest more)

-- the fault is in the bytes, or they ended too early
abbrev pub IsOfWire : WireFault → Type 0
IsOfWire fault = (fault ≡ wire.EndedEarly) ⊎ GetsResponse fault

-- how the requests of a connection relate to its bytes: they are all of them, up to the given end; or a prefix of them,
-- if the outside or their count of bytes ended it
abbrev pub AreRequestsOf : List ℕ → List Message → Ended → Type 0
AreRequestsOf all requests ended.End = HasRequests all requests (Some wire.End)
AreRequestsOf all requests ended.Wire = (fault : WireFault) × (IsOfWire fault × HasRequests all requests (Some fault))
AreRequestsOf all requests ended.Closed = HasRequests all requests None
AreRequestsOf all requests ended.TooLong = BeginsWithRequests all requests
AreRequestsOf all requests ended.ReadFault = BeginsWithRequests all requests
AreRequestsOf all requests ended.WriteFault = BeginsWithRequests all requests
AreRequestsOf all requests ended.NoMemory = BeginsWithRequests all requests

-- the request that ended the connection, if one did
abbrev pub last_request : {D : Type 0} {answers : Answering D} {bytes : ℕ} {old new : Stand D} {how : Ended} → Ends answers bytes old new how → List Message
last_request (inl behind) = behind.last.request ∷ []
last_request (inr there) = []

-- A connection was served: requests were answered, and then it ended.
pub record Served {D : Type 0} (answers : Answering D) (old new : Stand D) (how : Ended) : Type 0 where
  pub exchanges : List Exchange
  pub here : Stand D
  pub went_on : WentOn answers old exchanges here
  pub ends : Ends answers (bytes_in exchanges) here new how
  -- if the source's bytes are known, the requests are theirs
  pub requests : (all : List ℕ) → old.ahead ≡ Some all → AreRequestsOf all (map (λ (exchange : Exchange). exchange.request) exchanges ++ last_request ends) how
