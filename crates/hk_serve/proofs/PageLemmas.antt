-- Requests for pages, and requests for the services.
use Rattle.std.proofs.Common.{◌≡◌, ℕ, List, [], refl}
use Rattle.std.specs.Prelude.{Option}
use Rattle.http_wire.specs.Message.{Message, is_head}
use Rattle.hk_base.specs.declared.ended.Ended.{Ended}
use Rattle.service_health.specs.declared.counts.CallCounts.{CallCounts}
use Rattle.service_health.specs.declared.pages.Page.{Page}
use Rattle.service_health.specs.Responses.{method_response, page_response}
use Rattle.hk_serve.specs.Exchanges.{IsForPage, IsForServices, IsGet, KeysFault, Leaves, NamesFault, NoCall, PageFault, Replied, RequestOutcome, ServicesSay, body_of, sent_text, status_of}
use Rattle.hk_serve.specs.Transactions.{Answering, OfKeys, OfLook, OfNames}
use Rattle.hk_serve.specs.Turns.{Answered, SendsSo, ServicesAnswered}

module _ {D : Type 0} (answers : Answering D) (request : Message) (bytes bytes' : ℕ) (desk desk' : D) (written now : Option (List ℕ)) (result : Option Ended) where
  abbrev Sends : List ℕ → Type 0
  Sends text = SendsSo request text bytes bytes' written now result

  abbrev IsAnswered : Type 0
  IsAnswered = Answered answers request bytes bytes' desk desk' written now result

  by_outcome : (outcome : RequestOutcome) → IsForServices request → ServicesSay request outcome → Leaves answers desk outcome desk' → Sends (sent_text (is_head request) (status_of outcome) (body_of outcome)) → IsAnswered
  by_outcome (Replied user (OfKeys asked reply)) services says leaves sends = record { outcome = Replied user (OfKeys asked reply); comes = (services, says); leaves = leaves; response = sends }
  by_outcome (Replied user (OfNames asked reply)) services says leaves sends = record { outcome = Replied user (OfNames asked reply); comes = (services, says); leaves = leaves; response = sends }
  by_outcome (Replied user (OfLook page counts)) services says leaves sends = absurd says
  by_outcome (NoCall (KeysFault fault)) services says leaves sends = record { outcome = NoCall (KeysFault fault); comes = (services, says); leaves = leaves; response = sends }
  by_outcome (NoCall (NamesFault fault)) services says leaves sends = record { outcome = NoCall (NamesFault fault); comes = (services, says); leaves = leaves; response = sends }
  by_outcome (NoCall (PageFault page)) services says leaves sends = absurd says

  -- a request that is for the services was answered by them
  pub services_answered : IsForServices request → ServicesAnswered answers request bytes bytes' desk desk' written now result → IsAnswered
  services_answered services answered = by_outcome answered.outcome services answered.comes answered.leaves answered.response

  -- a page was looked for, and shown
  pub page_shown : (page : Page) (counts : CallCounts) → IsForPage request page → IsGet request → answers desk [] (OfLook page counts) desk' → Sends (page_response page counts) → IsAnswered
  page_shown page counts here get looks sends = record { outcome = Replied [] (OfLook page counts); comes = (here, (get, refl)); leaves = looks; response = sends }

  -- a page has no such method
  pub method_refused : (page : Page) → IsForPage request page → ¬ IsGet request → desk' ≡ desk → Sends (method_response (is_head request)) → IsAnswered
  method_refused page here get same sends = record { outcome = NoCall (PageFault page); comes = (here, get); leaves = same; response = sends }
