use Rattle.std.proofs.Common.{sym, ◌∙◌, ap, not}
use Rattle.http_wire.proofs.FieldLemmas.{closes_is}
use Rattle.http_wire.proofs.fields.keeps.Goals as goal

pub returns-then-minor-eq1 : goal.returns-then-minor-eq1
returns-then-minor-eq1 c = rw (c.if-minor-eq1.true) (ap not (c.closes.ensures ∙ sym (closes_is c.args.buf.now c.args.headers.now)))
