use Rattle.std.proofs.Common.{ap, ◌∙◌}
use Rattle.path_routes.specs.Queries.{parameters, query_of}
use Rattle.kms_rest.proofs.AnswerLemmas.{said_asked, said_nothing}
use Rattle.kms_rest.proofs.requests.read_routed.Goals as goal

pub returns-in-Ok-read_call : goal.returns-in-Ok-read_call
returns-in-Ok-read_call c =
    said_asked c.args.request.now c.args.operation c.args.part.now c.as_slice.result.now c.as_slice-2.result.now c.in-Ok.query c.in-Ok-read_user.user c.in-Ok-read_call.call
    record {
      routes = c.requires;
      decoded = c.as_slice.ensures ∙ c.in-Ok-decoded.ensures;
      body = c.as_slice-2.ensures ∙ ap (λ m. m.body) c.request.view_is;
      query = c.in-Ok.ensures ∙ ap parameters (c.query_of.ensures ∙ ap query_of c.target_text.ensures.text);
    }
    c.in-Ok-read_user.ensures c.if-not-is_single.ensures c.in-Ok-read_call.ensures

pub returns : goal.returns
returns c =
    said_nothing c.args.request.now c.args.operation c.args.part.now c.as_slice.result.now c.as_slice-2.result.now c.in-Ok.query c.in-Ok-read_user.user
    record {
      routes = c.requires;
      decoded = c.as_slice.ensures ∙ c.in-Ok-decoded.ensures;
      body = c.as_slice-2.ensures ∙ ap (λ m. m.body) c.request.view_is;
      query = c.in-Ok.ensures ∙ ap parameters (c.query_of.ensures ∙ ap query_of c.target_text.ensures.text);
    }
    c.in-Ok-read_user.ensures c.in-Err.fault c.in-Err.ensures
