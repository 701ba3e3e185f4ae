-- How a connection ends.
use Rattle.std.specs.Prelude.{◌≡◌, ◌⊎◌, ℕ, ◌+◌, ◌≤◌, ◌^◌, true, false, List, [], codes, Option, ⊤}
use Rattle.std.specs.Io.KnownBytes.{Appends}
use Rattle.hk_base.specs.Writing.{WroteFront}
use Rattle.http_wire.specs.declared.faults.WireFault.{WireFault}
use Rattle.http_wire.specs.declared.faults.WireFault.TheVariants as wire
use Rattle.http_wire.specs.Message.{Message}
use Rattle.http_wire.specs.Requests.{StopsFor, TakesRequest}
use Rattle.http_wire.specs.Responses.{response_text}
use Rattle.hk_base.specs.declared.ended.Ended.{Ended}
use Rattle.hk_base.specs.declared.ended.Ended.TheVariants as ended
use Rattle.hk_serve.specs.Exchanges.{ComesOf, Exchange, Leaves, Stand, response_of}
use Rattle.hk_serve.specs.Transactions.{Answering}

-- the status of the response to bytes that are not a request, or 0 if there is no response
abbrev pub wire_status : WireFault → ℕ
wire_status wire.BadHead = 400
wire_status wire.HeadTooLong = 431
wire_status wire.BadLength = 400
wire_status wire.BodyTooLong = 413
wire_status wire.Chunked = 501
wire_status wire.End = 0
wire_status wire.EndedEarly = 0
wire_status wire.ReadFault = 0
wire_status wire.NoMemory = 0

-- the body of that response
abbrev pub wire_text : WireFault → List ℕ
wire_text wire.BadHead = codes "{\"RemoteException\":{\"exception\":\"BadHead\",\"message\":\"BadHead\"}}"
wire_text wire.HeadTooLong = codes "{\"RemoteException\":{\"exception\":\"HeadTooLong\",\"message\":\"HeadTooLong\"}}"
wire_text wire.BadLength = codes "{\"RemoteException\":{\"exception\":\"BadLength\",\"message\":\"BadLength\"}}"
wire_text wire.BodyTooLong = codes "{\"RemoteException\":{\"exception\":\"BodyTooLong\",\"message\":\"BodyTooLong\"}}"
wire_text wire.Chunked = codes "{\"RemoteException\":{\"exception\":\"Chunked\",\"message\":\"Chunked\"}}"
wire_text wire.End = []
wire_text wire.EndedEarly = []
wire_text wire.ReadFault = []
wire_text wire.NoMemory = []

-- the fault is one of the bytes, and gets a response
abbrev pub GetsResponse : WireFault → Type 0
GetsResponse wire.BadHead = ⊤
GetsResponse wire.HeadTooLong = ⊤
GetsResponse wire.BadLength = ⊤
GetsResponse wire.BodyTooLong = ⊤
GetsResponse wire.Chunked = ⊤
GetsResponse wire.End = ⊥
GetsResponse wire.EndedEarly = ⊥
GetsResponse wire.ReadFault = ⊥
GetsResponse wire.NoMemory = ⊥

abbrev pub wire_response : WireFault → List ℕ
wire_response fault = response_text (wire_status fault) (wire_text fault)

-- how the connection ends if there is no request: what is written, and the end that goes with it
abbrev pub EndsConnection : WireFault → Option (List ℕ) → Option (List ℕ) → Ended → Type 0
EndsConnection fault written now ended.End = (fault ≡ wire.End) × (now ≡ written)
EndsConnection fault written now ended.Wire = ((fault ≡ wire.EndedEarly) × (now ≡ written)) ⊎ (GetsResponse fault × Appends written now (wire_response fault))
EndsConnection fault written now ended.ReadFault = (fault ≡ wire.ReadFault) × (now ≡ written)
EndsConnection fault written now ended.WriteFault = GetsResponse fault × WroteFront written now (wire_response fault)
EndsConnection fault written now ended.NoMemory = ((fault ≡ wire.NoMemory) ⊎ GetsResponse fault) × (now ≡ written)
EndsConnection fault written now ended.Closed = ⊥
EndsConnection fault written now ended.TooLong = ⊥

-- how the connection ends after a request, if the requests up to it had this number of bytes: what is written of this
-- response, and the end that goes with it
abbrev pub ResponseEndsBy : ℕ → Message → List ℕ → Option (List ℕ) → Option (List ℕ) → Ended → Type 0
ResponseEndsBy bytes request text written now ended.Closed = (request.keep ≡ false) × Appends written now text
ResponseEndsBy bytes request text written now ended.TooLong = (request.keep ≡ true) × ((2 ^ 40 ≤ bytes) × Appends written now text)
ResponseEndsBy bytes request text written now ended.WriteFault = WroteFront written now text
ResponseEndsBy bytes request text written now ended.NoMemory = now ≡ written
ResponseEndsBy bytes request text written now ended.End = ⊥
ResponseEndsBy bytes request text written now ended.Wire = ⊥
ResponseEndsBy bytes request text written now ended.ReadFault = ⊥

-- the same with the response of an exchange
abbrev pub EndsAfter : ℕ → Exchange → Option (List ℕ) → Option (List ℕ) → Ended → Type 0
EndsAfter bytes exchange written now how = ResponseEndsBy bytes exchange.request (response_of exchange) written now how

-- The connection ended after a last request. `bytes` counts those of the requests before it.
pub record EndsBehind {D : Type 0} (answers : Answering D) (bytes : ℕ) (old new : Stand D) (how : Ended) : Type 0 where
  pub last : Exchange
  pub takes : TakesRequest old.ahead new.ahead last.request
  pub comes : ComesOf last.request last.outcome
  pub leaves : Leaves answers old.desk last.outcome new.desk
  pub ends : EndsAfter (bytes + last.request.size) last old.written new.written how

-- The connection ended without another request.
pub record EndsThere {D : Type 0} (old new : Stand D) (how : Ended) : Type 0 where
  pub fault : WireFault
  pub stops : StopsFor old.ahead new.ahead fault
  pub unasked : new.desk ≡ old.desk
  pub ends : EndsConnection fault old.written new.written how

abbrev pub Ends : {D : Type 0} → Answering D → ℕ → Stand D → Stand D → Ended → Type 0
Ends answers bytes old new how = EndsBehind answers bytes old new how ⊎ EndsThere old new how
