use Rattle.std.proofs.Common.{◌≡◌, None, refl, sym, subst}
use Rattle.name_core.specs.State.{RunningNames, names_of, service_of}
use Rattle.name_core.specs.Calls.{first_cause}
use Rattle.name_core.specs.Steps.{Takes}
use Rattle.name_core.specs.Walks.{walk_causes}
use Rattle.name_core.proofs.KeepLemmas.{keeps-walking}
use Rattle.name_core.proofs.WalkCalls.{takes-once, takes-read, was-submitted}
use Rattle.name_core.proofs.namesystem.Name.take_batch.Goals as goal

pub take-requires-clause-submitted : goal.take-requires-clause-submitted
take-requires-clause-submitted c =
    let r : RunningNames = record { store = c.self.inside.store; next = c.self.inside.next; asks = c.self.inside.asks; walks = c.self.inside.walks.items; updating = c.self.inside.updating; batch = c.self.inside.batch } in
    was-submitted r c.args.zone.now c.tree-tree.result.now.rows c.statuses-statuses.result.now.rows c.id_at-dir.result c.tree-tree.ensures.rows c.statuses-statuses.ensures c.id_at-dir.ensures
    (subst (λ (x : RunningNames). first_cause (walk_causes (names_of x) c.args.zone.now) ≡ None) (sym c.self.view_is) c.requires)

pub invariant_of-self : goal.invariant_of-self
invariant_of-self c =
    let r : RunningNames = record { store = c.self.inside.store; next = c.self.inside.next; asks = c.self.inside.asks; walks = c.self.inside.walks.items; updating = c.self.inside.updating; batch = c.self.inside.batch } in (
      keeps-walking (service_of r) c.take.new.walks.items c.self.invariant.0,
      takes-once r c.args.zone.now c.take.result c.tree-tree.result.now.rows c.statuses-statuses.result.now.rows c.id_at-dir.result c.files-size.result c.take.new.walks.items c.tree-tree.ensures.rows
          c.statuses-statuses.ensures c.id_at-dir.ensures (subst (λ (x : RunningNames). first_cause (walk_causes (names_of x) c.args.zone.now) ≡ None) (sym c.self.view_is) c.requires)
          c.tree-tree.ensures.rules.table.rules c.self.invariant.1 c.take.ensures,
    )

pub returns : goal.returns
returns c =
    let r : RunningNames = record { store = c.self.inside.store; next = c.self.inside.next; asks = c.self.inside.asks; walks = c.self.inside.walks.items; updating = c.self.inside.updating; batch = c.self.inside.batch } in
    let t : RunningNames = record { store = c.self.inside.store; next = c.self.inside.next; asks = c.self.inside.asks; walks = c.take.new.walks.items; updating = c.self.inside.updating; batch = c.self.inside.batch } in
    subst (λ (x : RunningNames). Takes x c.args.zone.now c.take.result t) c.self.view_is
    (takes-read r t c.args.zone.now c.take.result c.tree-tree.result.now.rows c.statuses-statuses.result.now.rows c.id_at-dir.result c.files-size.result c.take.new.walks.items c.tree-tree.ensures.rows
    c.statuses-statuses.ensures c.id_at-dir.ensures c.files-size.ensures.files
    (subst (λ (x : RunningNames). first_cause (walk_causes (names_of x) c.args.zone.now) ≡ None) (sym c.self.view_is) c.requires) c.take.ensures refl)
