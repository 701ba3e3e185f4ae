-- The response for an outcome.
use Rattle.std.proofs.Common.{◌≡◌, ℕ, List, ◌∙◌, Ok, Err, Result}
use Rattle.std.specs.Prelude.{IfOk}
use Rattle.hk_base.specs.declared.texts.NoMemory.{NoMemory}
use Rattle.http_wire.specs.Responses.{IsStatus}
use Rattle.http_wire.specs.declared.responses.Response.{Response}
use Rattle.hk_serve.specs.Exchanges.{RequestOutcome, body_of, status_of}
use Rattle.hk_serve.specs.Turns.{Responds}

-- a response with the status and the body of an outcome
pub responds_with : (outcome : RequestOutcome) (status : ℕ) (body : List ℕ) → status ≡ status_of outcome → body ≡ body_of outcome → (result : Result Response NoMemory) → IfOk result (λ response. response.status ≡ status) → IfOk result (λ response. response.body ≡ body) → IfOk result (λ response. IsStatus response.status) → IfOk result (Responds outcome)
responds_with outcome status body status_is body_is (Ok response) has_status has_body known = record {
  known = known;
  status = has_status ∙ status_is;
  body = has_body ∙ body_is;
}
responds_with outcome status body status_is body_is (Err why) has_status has_body known = tt
