use Rattle.std.proofs.Common.{ℕ, List, refl, ◌∙◌, subst}
use Rattle.std.specs.Prelude.{Some}
use Rattle.hk_base.specs.declared.ended.Ended.TheVariants as ended
use Rattle.hk_serve.specs.Turns.{SendsSo}
use Rattle.hk_serve.proofs.PageLemmas.{page_shown}
use Rattle.hk_serve.proofs.connection.Connection.show_page.Goals as goal

pub returns-in_default-clause-answered : goal.returns-in_default-clause-answered
returns-in_default-clause-answered g c =
    page_shown g.E.Desk.answers c.args.request.now c.args.self.now.bytes c.args.self.now.bytes c.args.desk.now c.look-counts.new.self (g.K.Sink.written c.args.sink.now) (g.K.Sink.written c.args.sink.now) (Some ended.NoMemory)
    c.args.page c.look-counts.result c.requires.page c.requires.method c.look-counts.ensures.answers refl

pub returns-clause-answered : goal.returns-clause-answered
returns-clause-answered g c =
    page_shown g.E.Desk.answers c.args.request.now c.args.self.now.bytes c.send_page-ended.new.self.bytes c.args.desk.now c.look-counts.new.self (g.K.Sink.written c.args.sink.now) (g.K.Sink.written c.send_page-ended.new.sink) c.send_page-ended.result
    c.args.page c.look-counts.result c.requires.page c.requires.method c.look-counts.ensures.answers
    (subst (λ (t : List ℕ). SendsSo c.args.request.now t c.args.self.now.bytes c.send_page-ended.new.self.bytes (g.K.Sink.written c.args.sink.now) (g.K.Sink.written c.send_page-ended.new.sink) c.send_page-ended.result)
    (c.as_slice.ensures ∙ c.in-Ok.ensures) c.send_page-ended.ensures.sends)
