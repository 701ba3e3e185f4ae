use Rattle.std.proofs.Common.{◌≡◌, None, sym}
use Rattle.matchit.specs.Seek.{first}
use Rattle.name_rest.specs.Rows.{table}
use Rattle.name_rest.proofs.RouteLemmas.{bad_method, no_route, routes_there}
use Rattle.name_rest.proofs.TableLemmas.{sound}
use Rattle.name_rest.proofs.routes.route.Goals as goal

pub returns-in-Err-clause-fault : goal.returns-in-Err-clause-fault
returns-in-Err-clause-fault c =
    let here : first table c.args.path.now ≡ None = rw c.requires at c.in-Err.ensures.missing in
    no_route c.args.path.now here

pub returns-then-not-has_method-clause-fault : goal.returns-then-not-has_method-clause-fault
returns-then-not-has_method-clause-fault c =
    let found = rw c.requires at c.in-Ok.ensures.found in
    bad_method c.args.method.now c.args.path.now c.in-Ok.found.value.now (sound c.args.path.now _ found) (sym c.if-not-has_method.ensures)

pub returns-clause-ok : goal.returns-clause-ok
returns-clause-ok c =
    let found = rw c.requires at c.in-Ok.ensures.found in
    routes_there c.args.method.now c.args.path.now c.in-Ok.found.value.now (sound c.args.path.now _ found) (sym c.if-not-has_method.ensures)
