use Rattle.std.proofs.Common.{arith}
use Rattle.std.proofs.lemmas.Result.{MatchResult-weaker}
use Rattle.http_wire.proofs.RefusedLemmas.{found_refused}
use Rattle.http_wire.proofs.parsing.parse_head.Goals as goal

pub returns-in-Some-clause-err : goal.returns-in-Some-clause-err
returns-in-Some-clause-err c =
    let found = c.in-Some.ensures.some in
    MatchResult-weaker c.parts_of.result c.parts_of.ensures.err (λ _ h. h) (λ fault why. found_refused c.args.bytes.now c.find_head.new.headers c.in-Some.spans found.0 fault found.1 (omega arith) why)
