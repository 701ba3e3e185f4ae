use Rattle.std.proofs.Common.{List, subst, take}
use Rattle.path_routes.specs.declared.query.Parameter.{Parameter}
use Rattle.path_routes.specs.Queries.{IsGiven, values}
use Rattle.path_routes.proofs.QueryLemmas.{all_taken, taken}
use Rattle.path_routes.proofs.query.given_in.Goals as goal

pub parameters-preserved : goal.parameters-preserved
parameters-preserved c =
    let ps = c.args.parameters.now.items in
    let i = c.parameters.parameter-index in
    subst (λ (qs : List Parameter). IsGiven (values c.args.name.now qs) c.after-found.result)
    (taken c.deref-parameter-items.result.now ps i c.parameter-item.result c.deref-parameter-items.ensures.value c.parameters-test.true c.parameter-item.is)
    (c.after-found.ensures (take i ps) c.parameters.invariant)

pub returns : goal.returns
returns c =
    let ps = c.args.parameters.now.items in
    subst (λ (qs : List Parameter). IsGiven (values c.args.name.now qs) c.parameters.found)
    (all_taken c.deref-parameter-items.result.now ps c.parameters.parameter-index c.deref-parameter-items.ensures.value c.parameters-test.false) c.parameters.invariant
