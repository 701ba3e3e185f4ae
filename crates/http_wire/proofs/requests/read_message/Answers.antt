use Rattle.std.proofs.Common.{sym, subst}
use Rattle.std.proofs.lemmas.Result.{err_from_is_err_and}
use Rattle.http_wire.specs.Reading.{ahead}
use Rattle.http_wire.specs.Requests.{TakesHead}
use Rattle.http_wire.proofs.RequestLemmas.{stops_in_body, stops_without_memory, takes}
use Rattle.http_wire.proofs.requests.read_message.Goals as goal

pub returns-in_err-body-clause-fault : goal.returns-in_err-body-clause-fault
returns-in_err-body-clause-fault g c =
    let old = ahead c.args.buffer.now (g.S.Source.left c.args.source.now) in
    let mid = ahead c.read_head.new.buffer (g.S.Source.left c.read_head.new.source) in
    let new = ahead c.read_body.new.buffer (g.S.Source.left c.read_body.new.source) in
    let taken = subst (λ head. TakesHead old mid head) (sym c.as_slice-bytes.ensures) c.in_ok-head.ensures.ok in
    let has = c.in_ok-parts.ensures.ok in
    let p = err_from_is_err_and c.from_residual-in_err-body.result c.from_residual-in_err-body.ensures.1 in
    rw (p.1, p.2) (stops_in_body old mid new c.as_slice-bytes.result.now has.0 c.in_ok-parts.parts _ taken has.1 c.in_err-body.ensures.err)

pub returns-in_err-request-clause-fault : goal.returns-in_err-request-clause-fault
returns-in_err-request-clause-fault g c =
    let old = ahead c.args.buffer.now (g.S.Source.left c.args.source.now) in
    let mid = ahead c.read_head.new.buffer (g.S.Source.left c.read_head.new.source) in
    let new = ahead c.read_body.new.buffer (g.S.Source.left c.read_body.new.source) in
    let p = err_from_is_err_and c.from_residual-in_err-request.result c.from_residual-in_err-request.ensures.1 in
    rw (p.1, p.2) (stops_without_memory old mid new c.in_ok-head.head c.in_ok-body.body c.in_ok-parts.parts.size c.in_ok-head.ensures.ok c.in_ok-body.ensures.ok)

pub returns-clause-request : goal.returns-clause-request
returns-clause-request g c =
    let old = ahead c.args.buffer.now (g.S.Source.left c.args.source.now) in
    let mid = ahead c.read_head.new.buffer (g.S.Source.left c.read_head.new.source) in
    let new = ahead c.read_body.new.buffer (g.S.Source.left c.read_body.new.source) in
    let taken = subst (λ head. TakesHead old mid head) (sym c.as_slice-bytes.ensures) c.in_ok-head.ensures.ok in
    let has = c.in_ok-parts.ensures.ok in
    takes old mid new c.as_slice-bytes.result.now c.in_ok-body.body has.0 c.in_ok-parts.parts c.in_ok-request.request taken has.1 c.in_ok-body.ensures.ok c.in_ok-request.ensures
