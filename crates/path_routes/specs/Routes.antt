-- The rows of a router after one more route.
use Rattle.std.specs.Prelude.{◌≡◌, ℕ, List, None, Result, Ok, Err}
use Rattle.matchit.specs.Rows.{RowsOf}
use Rattle.matchit.specs.Order.{placed}
use Rattle.matchit.specs.Route.{Scan, parse_route}
use Rattle.matchit.specs.Router.{RouteOf, nearest, route_from}
use Rattle.matchit.specs.declared.error.InsertError.{InsertError}

-- the rows of a router whose routes have values of a type
abbrev pub RouteTable : Type 0 → Type 0
RouteTable T = RowsOf (RouteOf T)

abbrev pub added : {T : Type 0} → Result Scan InsertError → T → RouteTable T → RouteTable T
added (Ok s) value rows = placed (s.pattern, route_from s value) rows
added (Err e) value rows = rows

abbrev pub with_route : {T : Type 0} → List ℕ → T → RouteTable T → RouteTable T
with_route route value rows = added (parse_route route) value rows

abbrev pub IsRouteApart : {T : Type 0} → Result Scan InsertError → RouteTable T → Type 0
IsRouteApart (Ok s) rows = nearest s.pattern rows ≡ None
IsRouteApart (Err e) rows = ⊥

-- The text is a route that conflicts with no route of the rows: no path could follow both without one of them
-- being better. So it is added unless an allocation fails.
abbrev pub HasNoConflict : {T : Type 0} → List ℕ → RouteTable T → Type 0
HasNoConflict route rows = IsRouteApart (parse_route route) rows
