use Rattle.std.proofs.Common.{refl}
use Rattle.matchit.proofs.OnLiterals.{matchit_on_literals}
use Rattle.name_rest.proofs.routes.add_routes_of_snapshots.Goals as goal

pub add_route-requires : goal.add_route-requires
unfolding matchit_on_literals
add_route-requires c = rw c.requires refl

pub add_route-requires-2 : goal.add_route-requires-2
unfolding matchit_on_literals
add_route-requires-2 c = rw (c.in_ok-add_route.ensures.added, c.requires) refl

pub add_route-requires-3 : goal.add_route-requires-3
unfolding matchit_on_literals
add_route-requires-3 c = rw (c.in_ok-add_route-2.ensures.added, c.in_ok-add_route.ensures.added, c.requires) refl

pub add_route-requires-4 : goal.add_route-requires-4
unfolding matchit_on_literals
add_route-requires-4 c = rw (c.in_ok-add_route-3.ensures.added, c.in_ok-add_route-2.ensures.added, c.in_ok-add_route.ensures.added, c.requires) refl

pub returns : goal.returns
returns c = rw (c.in_ok-add_route-4.ensures.added, c.in_ok-add_route-3.ensures.added, c.in_ok-add_route-2.ensures.added, c.in_ok-add_route.ensures.added, c.requires)
    refl
