use Rattle.std.proofs.Common.{◌∙◌, ap}
use Rattle.serde_json.specs.Written.{compact_text}
use Rattle.name_rest.specs.Responses.{answer_data}
use Rattle.name_rest.proofs.BodyLemmas.{text_written}
use Rattle.name_rest.proofs.bodies.answer_body.Goals as goal

pub returns : goal.returns
returns c =
    c.of.ensures ∙ c.into_inner.ensures.items
    ∙ text_written (answer_data c.as_str.result.now) c.new-out.result c.write_answer.new.out c.new-out.ensures.tokens (c.new-out.ensures.before ∙ c.new.ensures.items) c.in_ok-write_answer.ensures
    ∙ ap (λ text. compact_text (answer_data text)) (c.as_str.ensures.value ∙ c.in_ok-text.ensures)
