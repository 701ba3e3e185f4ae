use Rattle.std.proofs.Common.{ap, ◌∙◌}
use Rattle.path_routes.specs.Queries.{parameters, query_of}
use Rattle.name_rest.proofs.AnswerLemmas.{said_nothing}
use Rattle.name_rest.proofs.requests.read_routed.Goals as goal

pub returns : goal.returns
returns c =
    said_nothing c.args.request.now c.args.operation c.in-Ok.query c.in-Ok-read_user.user c.requires
    (c.in-Ok.ensures ∙ ap parameters (c.query_of.ensures ∙ ap query_of c.target_text.ensures.text))
    c.in-Ok-read_user.ensures c.in-Err.fault c.in-Err.ensures.err
