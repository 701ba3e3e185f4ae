-- What both services are asked, and what they reply.
use Rattle.std.specs.Prelude.{ℕ, Bool, true, false, List}
use Rattle.kms_calls.specs.declared.calls.KmsCall.{KmsCall}
use Rattle.kms_calls.specs.declared.calls.KmsCall.TheVariants as call
use Rattle.kms_calls.specs.declared.calls.KmsReply.{KmsReply}
use Rattle.kms_json.specs.Replies.{reply_text}
use Rattle.kms_rest.specs.Responses.{reply_status}
use Rattle.name_calls.specs.declared.calls.Ask.TheVariants as ask
use Rattle.name_calls.specs.declared.calls.NameReply.{NameReply}
use Rattle.name_rest.specs.declared.order.NameOrder.{NameOrder}
use Rattle.name_rest.specs.declared.order.NameOrder.TheVariants as order
use Rattle.name_rest.specs.Responses as names
use Rattle.service_health.specs.declared.counts.CallCounts.{CallCounts}
use Rattle.service_health.specs.declared.pages.Page.{Page}
use Rattle.service_health.specs.Pages.{page_status, page_text}

-- a call of the key management service and its reply; an order of the namesystem and its reply; or a look at both services for a page, and
-- what was counted
pub data Transaction : Type 0 where
  OfKeys : (asked : KmsCall) (reply : KmsReply) → Transaction
  OfNames : (asked : NameOrder) (reply : NameReply) → Transaction
  OfLook : (page : Page) (counts : CallCounts) → Transaction

-- how something that answers users may change by a transaction of a user. A look has no user: the text is empty
abbrev pub Answering : Type 0 → Type 1
Answering D = D → List ℕ → Transaction → D → Type 0

-- whether a call creates a key
abbrev pub creates : KmsCall → Bool
creates (call.Create name bits material description) = true
creates (call.Roll name material) = false
creates (call.Delete name) = false
creates (call.Invalidate name) = false
creates (call.Metadata name) = false
creates (call.Metadatas names) = false
creates call.Names = false
creates (call.Current name) = false
creates (call.Versions name) = false
creates (call.Version version) = false
creates (call.Generate name count) = false
creates (call.Decrypt name sent) = false
creates (call.Reencrypt name sent) = false
creates (call.Batch name sent) = false

-- whether an order creates a file
abbrev pub creates_file : NameOrder → Bool
creates_file (order.Ask (ask.Create path)) = true
creates_file (order.Ask (ask.Zone path key)) = false
creates_file (order.Ask (ask.Submit path)) = false
creates_file (order.Call asked) = false

-- the status of the response of a transaction, which is 201 if a key or a file was created
abbrev pub transaction_status : Transaction → ℕ
transaction_status (OfKeys asked reply) = reply_status reply (creates asked)
transaction_status (OfNames asked reply) = names.reply_status reply (creates_file asked)
transaction_status (OfLook page counts) = page_status page counts

-- the body of that response
abbrev pub transaction_body : Transaction → List ℕ
transaction_body (OfKeys asked reply) = reply_text reply
transaction_body (OfNames asked reply) = names.reply_text reply
transaction_body (OfLook page counts) = page_text page counts
