use Rattle.std.proofs.Common.{ℕ, List, subst, sym}
use Rattle.http_wire.specs.Reading.{ahead}
use Rattle.http_wire.specs.Requests.{TakesRequest}
use Rattle.hk_serve.proofs.ConnectionLemmas.{turned}
use Rattle.hk_serve.proofs.connection.Connection.turn.Goals as goal

pub returns-in-Ok-clause-turns : goal.returns-in-Ok-clause-turns
returns-in-Ok-clause-turns g c =
    let old = ahead c.args.self.now.buffer (g.S.Source.left c.args.source.now) in
    let left = g.S.Source.left c.read_request.new.source in
    turned g.E.Desk.answers c.args.self.now.bytes c.answer.new.self.bytes _ _ c.in-Ok.request c.answer.result
    (subst (λ (buffer : List ℕ). TakesRequest old (ahead buffer left) c.in-Ok.request) (sym c.answer.ensures.same) c.in-Ok.ensures.request)
    c.answer.ensures.answered
