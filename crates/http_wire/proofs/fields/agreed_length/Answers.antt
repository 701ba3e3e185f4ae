use Rattle.std.proofs.Common.{sym, ◌∙◌, ap, Some}
use Rattle.std.specs.Prelude.{codes}
use Rattle.http_wire.specs.Fields.{joined}
use Rattle.http_wire.proofs.AgreeLemmas.{none_agreed, all_agreed}
use Rattle.http_wire.proofs.fields.agreed_length.Goals as goal

pub returns-in_err-joined : goal.returns-in_err-joined
returns-in_err-joined c = c.from_residual.ensures ∙ sym (none_agreed (codes "content-length") c.args.buf.now c.args.headers.now c.fields.known c.fields.header-index _ c.fields-test.true (sym c.is_named.ensures ∙ c.if-is_named.true) (ap (joined c.fields.known) (sym c.of.ensures) ∙ sym c.joined.ensures ∙ c.in_err-joined.was) c.fields.invariant)

pub returns : goal.returns
returns c = ap (λ n. Some n) c.unwrap_or.ensures ∙ sym (all_agreed (codes "content-length") c.args.buf.now c.args.headers.now c.fields.known c.fields.header-index c.fields-test.false c.fields.invariant)
