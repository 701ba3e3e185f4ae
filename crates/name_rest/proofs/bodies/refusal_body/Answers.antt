use Rattle.std.proofs.Common.{◌∙◌}
use Rattle.serde_json.specs.Written.{compact_text}
use Rattle.name_rest.specs.Responses.{error_data}
use Rattle.name_rest.proofs.BodyLemmas.{text_written}
use Rattle.name_rest.proofs.bodies.refusal_body.Goals as goal

pub returns : goal.returns
returns c =
    c.of.ensures ∙ c.into_inner.ensures.items
    ∙ text_written (error_data c.refusal_name.result.now c.as_str.result.now) c.new-out.result c.write_error.new.out c.new-out.ensures.tokens (c.new-out.ensures.before ∙ c.new.ensures.items) c.in_ok-write_error.ensures
    ∙ (λ i. compact_text (error_data (c.refusal_name.ensures i) ((c.as_str.ensures.value ∙ c.in_ok-message.ensures) i)))
