use Rattle.std.proofs.Common.{arith}
use Rattle.hk_serve.proofs.ConnectionLemmas.{one_more, served}
use Rattle.hk_serve.proofs.connection.Connection.run.Goals as goal

pub requests-preserved : goal.requests-preserved
requests-preserved g c =
    let before = c.requests.invariant in
    let on = rw c.in-None.is at c.turn.ensures.turns in
    record {
      so_far = one_more g.E.Desk.answers _ _ _ c.requests.self.bytes c.turn.new.self.bytes before.so_far on;
      ready = c.turn.ensures.ready;
      few = on.goes_on.1.1;
      read_later = omega (arith, before.read_later, c.turn.ensures.read_later);
      write_later = omega (arith, before.write_later, c.turn.ensures.write_later);
    }

pub returns-in-Some-clause-served : goal.returns-in-Some-clause-served
returns-in-Some-clause-served g c =
    served g.E.Desk.answers _ _ _ c.requests.self.bytes c.in-Some.ended c.requests.invariant.so_far (rw c.in-Some.is at c.turn.ensures.turns)
