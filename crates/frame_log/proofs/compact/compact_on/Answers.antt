use Rattle.std.proofs.Common.{Option, ◌≤◌, ◌^◌, IfSome, sym, subst}
use Rattle.std.specs.List.{AllByRecursion}
use Rattle.hk_base.specs.Disk.{LeavesOnly, piece}
use Rattle.frame_log.specs.FormatTwo.{Always, holding}
use Rattle.frame_log.specs.Bases.{Area, IsBase, MayFollow, front_of, start_of}
use Rattle.frame_log.specs.Compacts.{IsBetween, ShutAt}
use Rattle.frame_log.specs.declared.log.Selected.{Selected}
use Rattle.frame_log.proofs.Moves.{if_ok, none_known, some_known}
use Rattle.frame_log.proofs.compact.compact_on.Goals as goal

pub migrate-requires-clause-stands : goal.migrate-requires-clause-stands
migrate-requires-clause-stands g c tells =
    let was = c.requires.stands tells in
    let S0 = g.D.Disk.state c.args.disk.now in
    let none = none_known c.args.area was.0 was.3 c.in-None.is in (
      was.1,
      subst (λ (b : Option Area). AllByRecursion (MayFollow (start_of b)) was.1) none was.4,
      subst (λ (b : Option Area). ShutAt (front_of c.args.file b was.1) c.args.file c.args.end S0) none was.5,
    )

pub move_on-requires-clause-selectors : goal.move_on-requires-clause-selectors
move_on-requires-clause-selectors g c = subst (λ (a : Option Selected). IfSome a (λ now. now.selectors ≤ 2 ^ 62)) c.in-Some.is c.requires.selectors

pub move_on-requires-clause-behind : goal.move_on-requires-clause-behind
move_on-requires-clause-behind g c tells = subst (λ (a : Option Selected). IfSome a (λ now. now.place ≤ g.I.Image.from c.args.image.now)) c.in-Some.is (c.requires.behind tells)

pub move_on-requires-clause-stands : goal.move_on-requires-clause-stands
move_on-requires-clause-stands g c tells =
    let was = c.requires.stands tells in
    let S0 = g.D.Disk.state c.args.disk.now in
    let some = some_known c.args.area was.0 _ was.3 c.in-Some.is in (
      some.0,
      was.1,
      subst (λ (b : Option Area). IsBase b) some.1 was.2,
      some.2,
      subst (λ (b : Option Area). AllByRecursion (MayFollow (start_of b)) was.1) some.1 was.4,
      subst (λ (b : Option Area). ShutAt (front_of c.args.file b was.1) c.args.file c.args.end S0) some.1 was.5,
    )

pub returns-in-None-clause-moved : goal.returns-in-None-clause-moved
returns-in-None-clause-moved g c = if_ok c.migrate.result c.migrate.ensures.moved (λ next does tells base payloads is knows all shut.
    let S0 = g.D.Disk.state c.args.disk.now in
    let none = none_known c.args.area base knows c.in-None.is in
    does tells payloads (subst (λ (b : Option Area). AllByRecursion (MayFollow (start_of b)) payloads) none all) (subst (λ (b : Option Area). ShutAt (front_of c.args.file b payloads) c.args.file c.args.end S0) none shut))

pub returns-in-None-clause-any_moment : goal.returns-in-None-clause-any_moment
returns-in-None-clause-any_moment g c tells base payloads is knows all shut =
    let S0 = g.D.Disk.state c.args.disk.now in
    let S1 = g.D.Disk.state c.migrate.new.disk in
    let held = piece (g.I.Image.from c.args.image.now) (g.I.Image.count c.args.image.now) (S0.reads c.args.file) in
    let none = none_known c.args.area base knows c.in-None.is in
    subst (λ (b : Option Area). LeavesOnly c.args.file S0 S1 (Always c.args.file (IsBetween (holding (start_of b) payloads) (g.I.Image.image c.args.image.now held)))) (sym none)
    (c.migrate.ensures.any_moment tells payloads (subst (λ (b : Option Area). AllByRecursion (MayFollow (start_of b)) payloads) none all) (subst (λ (b : Option Area). ShutAt (front_of c.args.file b payloads) c.args.file c.args.end S0) none shut))

pub returns-in-Some-clause-moved : goal.returns-in-Some-clause-moved
returns-in-Some-clause-moved g c = if_ok c.move_on.result c.move_on.ensures.moved (λ next does tells base payloads is knows all shut.
    let S0 = g.D.Disk.state c.args.disk.now in
    let some = some_known c.args.area base _ knows c.in-Some.is in
    does tells some.0 payloads (subst (λ (b : Option Area). IsBase b) some.1 is) some.2 (subst (λ (b : Option Area). AllByRecursion (MayFollow (start_of b)) payloads) some.1 all) (subst (λ (b : Option Area). ShutAt (front_of c.args.file b payloads) c.args.file c.args.end S0) some.1 shut))

pub returns-in-Some-clause-any_moment : goal.returns-in-Some-clause-any_moment
returns-in-Some-clause-any_moment g c tells base payloads is knows all shut =
    let S0 = g.D.Disk.state c.args.disk.now in
    let S1 = g.D.Disk.state c.move_on.new.disk in
    let held = piece (g.I.Image.from c.args.image.now) (g.I.Image.count c.args.image.now) (S0.reads c.args.file) in
    let some = some_known c.args.area base _ knows c.in-Some.is in
    subst (λ (b : Option Area). LeavesOnly c.args.file S0 S1 (Always c.args.file (IsBetween (holding (start_of b) payloads) (g.I.Image.image c.args.image.now held)))) (sym some.1)
    (c.move_on.ensures.any_moment tells some.0 payloads (subst (λ (b : Option Area). IsBase b) some.1 is) some.2 (subst (λ (b : Option Area). AllByRecursion (MayFollow (start_of b)) payloads) some.1 all) (subst (λ (b : Option Area). ShutAt (front_of c.args.file b payloads) c.args.file c.args.end S0) some.1 shut))
