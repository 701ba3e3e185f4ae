use Rattle.std.proofs.Common.{sym, ◌∙◌, ap}
use Rattle.http_wire.specs.Fields.{sized}
use Rattle.http_wire.proofs.FieldLemmas.{length_chunked, length_sized}
use Rattle.http_wire.proofs.fields.body_length.Goals as goal

pub returns-then-has : goal.returns-then-has
returns-then-has c = sym (length_chunked c.args.buf.now c.args.headers.now (sym c.has.ensures ∙ c.if-has.true))

pub returns : goal.returns
returns c = c.sized.ensures ∙ ap sized c.agreed_length.ensures ∙ sym (length_sized c.args.buf.now c.args.headers.now (sym c.has.ensures ∙ c.if-has.false))
