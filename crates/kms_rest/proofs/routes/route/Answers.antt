use Rattle.std.proofs.Common.{◌≡◌, None, sym, ap, ◌∙◌, arith}
use Rattle.matchit.specs.Seek.{first}
use Rattle.kms_rest.specs.Places.{operation_at}
use Rattle.kms_rest.specs.Rows.{table}
use Rattle.kms_rest.proofs.RouteLemmas.{bad_method, no_route, routes_there}
use Rattle.kms_rest.proofs.TableLemmas.{sound}
use Rattle.kms_rest.proofs.routes.route.Goals as goal

pub returns-in-Err-clause-fault : goal.returns-in-Err-clause-fault
returns-in-Err-clause-fault c =
    let here : first table c.args.path.now ≡ None = rw c.requires at c.in-Err.ensures.missing in
    no_route c.args.path.now (λ i. let fits = c.type_inv.path i in omega arith) here

pub returns-in_default-clause-fault : goal.returns-in_default-clause-fault
returns-in_default-clause-fault c =
    let place = c.in-Ok.found.value.now in
    let found = rw c.requires at c.in-Ok.ensures.found in
    let r = sound c.args.path.now _ found in
    bad_method c.args.method.now c.args.path.now (λ i. let fits = c.type_inv.path i in omega arith) place r.0 r.1
    (ap (operation_at place) (sym c.read_verb.ensures) ∙ (sym c.operation_at.ensures ∙ c.in_default.is))

pub part-requires : goal.part-requires
part-requires c =
    let found = rw c.requires at c.in-Ok.ensures.found in
    let r = sound c.args.path.now _ found in
    (r.0, rw c.as_bytes.ensures.value r.1)

pub returns-clause-ok : goal.returns-clause-ok
returns-clause-ok c =
    let place = c.in-Ok.found.value.now in
    routes_there c.args.method.now c.args.path.now place c.part.result.now c.in-Some.operation (rw c.as_bytes.ensures.value at c.part.ensures)
    (ap (operation_at place) (sym c.read_verb.ensures) ∙ (sym c.operation_at.ensures ∙ c.in-Some.is))
