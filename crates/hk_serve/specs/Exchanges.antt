-- The requests of a connection, and the outcome of each.
use Rattle.std.specs.Prelude.{◌≡◌, ◌≢◌, ℕ, ◌<◌, ◌^◌, Bool, true, false, List, [], ◌∷◌, Option, Ok, Err, codes, sum_by, flat_map}
use Rattle.std.specs.List.{AllByRecursion}
use Rattle.std.specs.Io.KnownBytes.{Appends}
use Rattle.http_wire.specs.Message.{Message, is_head}
use Rattle.http_wire.specs.Requests.{TakesRequest}
use Rattle.http_wire.specs.Responses.{head_text, response_text}
use Rattle.kms_rest.specs.declared.faults.RestFault.{RestFault}
use Rattle.kms_rest.specs.declared.faults.RestFault.TheVariants as keys_fault
use Rattle.kms_rest.specs.Requests.{Says}
use Rattle.kms_rest.specs.Responses.{fault_status, fault_text}
use Rattle.name_rest.specs.declared.faults.NameRestFault.{NameRestFault}
use Rattle.name_rest.specs.Requests as names_requests
use Rattle.name_rest.specs.Responses as names
use Rattle.path_routes.specs.Queries.{path_of}
use Rattle.service_health.specs.declared.pages.Page.{Page}
use Rattle.service_health.specs.Pages.{page_path}
use Rattle.service_health.specs.Responses.{method_body, method_response, page_response}
use Rattle.hk_serve.specs.Transactions.{Answering, OfKeys, OfLook, OfNames, Transaction, transaction_body, transaction_status}

-- why a request is for neither service: a fault of the service that its path belongs to, or a method that a page does not have
pub data ServiceFault : Type 0 where
  KeysFault : (fault : RestFault) → ServiceFault
  NamesFault : (fault : NameRestFault) → ServiceFault
  PageFault : (page : Page) → ServiceFault

-- the outcome of a request: a transaction of a user, or why it is not one
pub data RequestOutcome : Type 0 where
  Replied : (user : List ℕ) (done : Transaction) → RequestOutcome
  NoCall : (fault : ServiceFault) → RequestOutcome

-- a request and its outcome
pub record Exchange : Type 0 where
  pub request : Message
  pub outcome : RequestOutcome

-- the path of the request is that of a page
abbrev pub IsForPage : Message → Page → Type 0
IsForPage request page = path_of request.target ≡ page_path page

-- the path of the request is that of no page
abbrev pub IsForServices : Message → Type 0
IsForServices request = (page : Page) → path_of request.target ≢ page_path page

-- the method is GET
abbrev pub IsGet : Message → Type 0
IsGet request = request.method ≡ codes "GET"

-- the key management service has no route with the path of the request, so the request is for the namesystem
abbrev pub IsForNames : Message → Type 0
IsForNames request = Says request (Err keys_fault.NoRoute)

-- the outcome belongs to the request, which is for the services
abbrev pub ServicesSay : Message → RequestOutcome → Type 0
ServicesSay request (Replied user (OfKeys asked reply)) = Says request (Ok (user, asked))
ServicesSay request (Replied user (OfNames asked reply)) = IsForNames request × names_requests.Says request (Ok (user, asked))
ServicesSay request (Replied user (OfLook page counts)) = ⊥
ServicesSay request (NoCall (KeysFault fault)) = Says request (Err fault) × ¬ (fault ≡ keys_fault.NoRoute)
ServicesSay request (NoCall (NamesFault fault)) = IsForNames request × names_requests.Says request (Err fault)
ServicesSay request (NoCall (PageFault page)) = ⊥

-- the outcome belongs to the request. A page is looked at by nobody
abbrev pub ComesOf : Message → RequestOutcome → Type 0
ComesOf request (Replied user (OfKeys asked reply)) = IsForServices request × ServicesSay request (Replied user (OfKeys asked reply))
ComesOf request (Replied user (OfNames asked reply)) = IsForServices request × ServicesSay request (Replied user (OfNames asked reply))
ComesOf request (Replied user (OfLook page counts)) = IsForPage request page × (IsGet request × (user ≡ []))
ComesOf request (NoCall (KeysFault fault)) = IsForServices request × ServicesSay request (NoCall (KeysFault fault))
ComesOf request (NoCall (NamesFault fault)) = IsForServices request × ServicesSay request (NoCall (NamesFault fault))
ComesOf request (NoCall (PageFault page)) = IsForPage request page × ¬ IsGet request

-- the status of the response for an outcome
abbrev pub status_of : RequestOutcome → ℕ
status_of (Replied user done) = transaction_status done
status_of (NoCall (KeysFault fault)) = fault_status fault
status_of (NoCall (NamesFault fault)) = names.fault_status fault
status_of (NoCall (PageFault page)) = 405

-- the body of that response
abbrev pub body_of : RequestOutcome → List ℕ
body_of (Replied user done) = transaction_body done
body_of (NoCall (KeysFault fault)) = fault_text fault
body_of (NoCall (NamesFault fault)) = names.fault_text fault
body_of (NoCall (PageFault page)) = method_body

-- what is sent of a response: its head alone, or all of it
abbrev pub sent_text : Bool → ℕ → List ℕ → List ℕ
sent_text true status body = head_text status body
sent_text false status body = response_text status body

-- the response for an outcome
abbrev pub outcome_text : Bool → RequestOutcome → List ℕ
outcome_text head (Replied user (OfKeys asked reply)) = sent_text head (status_of (Replied user (OfKeys asked reply))) (body_of (Replied user (OfKeys asked reply)))
outcome_text head (Replied user (OfNames asked reply)) = sent_text head (status_of (Replied user (OfNames asked reply))) (body_of (Replied user (OfNames asked reply)))
outcome_text head (Replied user (OfLook page counts)) = page_response page counts
outcome_text head (NoCall (KeysFault fault)) = sent_text head (status_of (NoCall (KeysFault fault))) (body_of (NoCall (KeysFault fault)))
outcome_text head (NoCall (NamesFault fault)) = sent_text head (status_of (NoCall (NamesFault fault))) (body_of (NoCall (NamesFault fault)))
outcome_text head (NoCall (PageFault page)) = method_response head

-- the response to a request, without its body if the method is HEAD
abbrev pub response_of : Exchange → List ℕ
response_of exchange = outcome_text (is_head exchange.request) exchange.outcome

-- how the desk changes: by the transaction, or not at all if there is none
abbrev pub Leaves : {D : Type 0} → Answering D → D → RequestOutcome → D → Type 0
Leaves answers old (Replied user done) new = answers old user done new
Leaves answers old (NoCall fault) new = new ≡ old

-- the desk answers the exchanges in order
abbrev pub AsksInOrder : {D : Type 0} → Answering D → D → List Exchange → D → Type 0
AsksInOrder answers old [] new = new ≡ old
AsksInOrder {D} answers old (exchange ∷ more) new = (next : D) × (Leaves answers old exchange.outcome next × AsksInOrder answers next more new)

-- the requests are read one after another, and each byte is used once
abbrev pub ReadsInOrder : Option (List ℕ) → List Exchange → Option (List ℕ) → Type 0
ReadsInOrder old [] new = new ≡ old
ReadsInOrder old (exchange ∷ more) new = (next : Option (List ℕ)) × (TakesRequest old next exchange.request × ReadsInOrder next more new)

-- the number of bytes of the requests together
abbrev pub bytes_in : List Exchange → ℕ
bytes_in exchanges = sum_by (λ (exchange : Exchange). exchange.request.size) exchanges

-- the responses, one after another
abbrev pub responses_of : List Exchange → List ℕ
responses_of exchanges = flat_map response_of exchanges

-- the state of a connection: the bytes still to come, the desk, and the bytes written, if source and
-- sink are known
pub record Stand (D : Type 0) : Type 0 where
  pub ahead : Option (List ℕ)
  pub desk : D
  pub written : Option (List ℕ)

-- Requests were read and answered whole, and the connection goes on after each: it is kept, and they had fewer than
-- 2^40 bytes together.
pub record WentOn {D : Type 0} (answers : Answering D) (old : Stand D) (exchanges : List Exchange) (new : Stand D) : Type 0 where
  pub read : ReadsInOrder old.ahead exchanges new.ahead
  pub come : AllByRecursion (λ exchange. ComesOf exchange.request exchange.outcome) exchanges
  pub asked : AsksInOrder answers old.desk exchanges new.desk
  pub wrote : Appends old.written new.written (responses_of exchanges)
  pub kept : AllByRecursion (λ exchange. exchange.request.keep ≡ true) exchanges
  pub few : bytes_in exchanges < 2 ^ 40
