use Rattle.std.proofs.Common.{ℕ, List, refl, ap, ◌∙◌, subst}
use Rattle.std.specs.Prelude.{Some}
use Rattle.hk_base.specs.declared.ended.Ended.TheVariants as ended
use Rattle.service_health.specs.Responses.{method_response}
use Rattle.hk_serve.specs.Turns.{SendsSo}
use Rattle.hk_serve.proofs.PageLemmas.{method_refused}
use Rattle.hk_serve.proofs.connection.Connection.refuse_method.Goals as goal

pub returns-in_default-clause-answered : goal.returns-in_default-clause-answered
returns-in_default-clause-answered g c =
    method_refused g.E.Desk.answers c.args.request.now c.args.self.now.bytes c.args.self.now.bytes c.args._desk.now c.args._desk.now (g.K.Sink.written c.args.sink.now) (g.K.Sink.written c.args.sink.now) (Some ended.NoMemory)
    c.args.page c.requires.page c.requires.method refl refl

pub returns-clause-answered : goal.returns-clause-answered
returns-clause-answered g c =
    method_refused g.E.Desk.answers c.args.request.now c.args.self.now.bytes c.send_page-ended.new.self.bytes c.args._desk.now c.args._desk.now (g.K.Sink.written c.args.sink.now) (g.K.Sink.written c.send_page-ended.new.sink) c.send_page-ended.result
    c.args.page c.requires.page c.requires.method refl
    (subst (λ (t : List ℕ). SendsSo c.args.request.now t c.args.self.now.bytes c.send_page-ended.new.self.bytes (g.K.Sink.written c.args.sink.now) (g.K.Sink.written c.send_page-ended.new.sink) c.send_page-ended.result)
    (c.as_slice.ensures ∙ (c.in-Ok.ensures ∙ ap method_response c.is_head.ensures)) c.send_page-ended.ensures.sends)
