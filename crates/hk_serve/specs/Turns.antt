-- One request of a connection.
use Rattle.std.specs.Prelude.{◌≡◌, ℕ, ◌+◌, ◌≤◌, ◌<◌, ◌^◌, true, false, List, Option, None, Some}
use Rattle.std.specs.Io.KnownBytes.{Appends}
use Rattle.hk_base.specs.Writing.{WroteFront}
use Rattle.http_wire.specs.declared.faults.SendFault.{SendFault}
use Rattle.http_wire.specs.declared.faults.SendFault.TheVariants as send
use Rattle.http_wire.specs.Message.{Message, is_head}
use Rattle.http_wire.specs.Requests.{TakesRequest}
use Rattle.http_wire.specs.Responses.{IsStatus}
use Rattle.http_wire.specs.declared.responses.Response.{Response}
use Rattle.hk_base.specs.declared.ended.Ended.{Ended}
use Rattle.hk_base.specs.declared.ended.Ended.TheVariants as ended
use Rattle.hk_serve.specs.Ends.{Ends, ResponseEndsBy}
use Rattle.hk_serve.specs.Exchanges.{ComesOf, Exchange, Leaves, RequestOutcome, ServicesSay, Stand, body_of, response_of, sent_text, status_of}
use Rattle.hk_serve.specs.Transactions.{Answering}

-- The response belongs to an outcome.
pub record Responds (outcome : RequestOutcome) (response : Response) : Type 0 where
  pub known : IsStatus response.status
  pub status : response.status ≡ status_of outcome
  pub body : response.body ≡ body_of outcome

-- whether the connection goes on after a response was written, and how many bytes its requests had then
abbrev pub GoesOnAfter : Message → ℕ → ℕ → Option Ended → Type 0
GoesOnAfter request bytes bytes' None = (request.keep ≡ true) × ((bytes' ≡ bytes + request.size) × (bytes' < 2 ^ 40))
GoesOnAfter request bytes bytes' (Some ended.Closed) = request.keep ≡ false
GoesOnAfter request bytes bytes' (Some ended.TooLong) = (request.keep ≡ true) × (2 ^ 40 ≤ bytes + request.size)
GoesOnAfter request bytes bytes' (Some ended.End) = ⊥
GoesOnAfter request bytes bytes' (Some ended.Wire) = ⊥
GoesOnAfter request bytes bytes' (Some ended.ReadFault) = ⊥
GoesOnAfter request bytes bytes' (Some ended.WriteFault) = ⊥
GoesOnAfter request bytes bytes' (Some ended.NoMemory) = ⊥

-- what is written of this response to a request, and whether the connection goes on
abbrev pub SendsSo : Message → List ℕ → ℕ → ℕ → Option (List ℕ) → Option (List ℕ) → Option Ended → Type 0
SendsSo request text bytes bytes' written now None = GoesOnAfter request bytes bytes' None × Appends written now text
SendsSo request text bytes bytes' written now (Some how) = ResponseEndsBy (bytes + request.size) request text written now how

-- the same with the response of an exchange
abbrev pub AnswersSo : Exchange → ℕ → ℕ → Option (List ℕ) → Option (List ℕ) → Option Ended → Type 0
AnswersSo exchange bytes bytes' written now result = SendsSo exchange.request (response_of exchange) bytes bytes' written now result

-- A request that is for the services was answered.
pub record ServicesAnswered {D : Type 0} (answers : Answering D) (request : Message) (bytes bytes' : ℕ) (desk desk' : D) (written now : Option (List ℕ)) (result : Option Ended) : Type 0 where
  pub outcome : RequestOutcome
  pub comes : ServicesSay request outcome
  pub leaves : Leaves answers desk outcome desk'
  pub response : SendsSo request (sent_text (is_head request) (status_of outcome) (body_of outcome)) bytes bytes' written now result

-- A request was answered.
pub record Answered {D : Type 0} (answers : Answering D) (request : Message) (bytes bytes' : ℕ) (desk desk' : D) (written now : Option (List ℕ)) (result : Option Ended) : Type 0 where
  pub outcome : RequestOutcome
  pub comes : ComesOf request outcome
  pub leaves : Leaves answers desk outcome desk'
  pub response : AnswersSo (record { request = request; outcome = outcome }) bytes bytes' written now result

-- A request was read and answered, and the connection goes on.
pub record TurnGoesOn {D : Type 0} (answers : Answering D) (bytes bytes' : ℕ) (old new : Stand D) : Type 0 where
  pub exchange : Exchange
  pub takes : TakesRequest old.ahead new.ahead exchange.request
  pub comes : ComesOf exchange.request exchange.outcome
  pub leaves : Leaves answers old.desk exchange.outcome new.desk
  pub goes_on : GoesOnAfter exchange.request bytes bytes' None
  pub wrote : Appends old.written new.written (response_of exchange)

-- the change of a connection by one request, or by the lack of one
abbrev pub Turns : {D : Type 0} → Answering D → ℕ → ℕ → Stand D → Option Ended → Stand D → Type 0
Turns answers bytes bytes' old None new = TurnGoesOn answers bytes bytes' old new
Turns answers bytes bytes' old (Some how) new = Ends answers bytes old new how

-- how a connection ends if a response was not written whole
abbrev pub send_ended : SendFault → Ended
send_ended send.WriteFault = ended.WriteFault
send_ended send.NoMemory = ended.NoMemory

-- the response to bytes that are not a request was written, or a prefix of it, or nothing
abbrev pub SentLast : List ℕ → Option (List ℕ) → Option (List ℕ) → Ended → Type 0
SentLast text written now ended.Wire = Appends written now text
SentLast text written now ended.WriteFault = WroteFront written now text
SentLast text written now ended.NoMemory = now ≡ written
SentLast text written now ended.End = ⊥
SentLast text written now ended.Closed = ⊥
SentLast text written now ended.TooLong = ⊥
SentLast text written now ended.ReadFault = ⊥
