use Rattle.std.proofs.Common.{◌∙◌, refl, sym, subst}
use Rattle.name_core.specs.State.{RunningNames, WalksOnce}
use Rattle.name_core.specs.Steps.{IsUnsettled, Settling}
use Rattle.name_core.proofs.LoggingLemmas.{settles, settling-keeps, store-stands, unsettled}
use Rattle.name_core.proofs.OnceLemmas.{once-with-kept}
use Rattle.name_core.proofs.namesystem.Name.settle.Goals as goal

pub settle-requires : goal.settle-requires
settle-requires g c = record {
  stands = store-stands (g.D.Disk.state c.args.disk.now) (record { store = c.self.inside.store; next = c.self.inside.next; asks = c.self.inside.asks; walks = c.self.inside.walks.items; updating = c.self.inside.updating; batch = c.self.inside.batch }) c.args.self.now c.self.view_is c.requires.stands;
}

pub returns-in-Err : goal.returns-in-Err
returns-in-Err g c =
    let D0 = g.D.Disk.state c.args.disk.now in
    let D1 = g.D.Disk.state c.settle.new.disk in
    let r : RunningNames = record { store = c.self.inside.store; next = c.self.inside.next; asks = c.self.inside.asks; walks = c.self.inside.walks.items; updating = c.self.inside.updating; batch = c.self.inside.batch } in
    let t : RunningNames = record { store = c.settle.new.self; next = c.self.inside.next; asks = c.self.inside.asks; walks = c.self.inside.walks.items; updating = c.self.inside.updating; batch = c.self.inside.batch } in
    subst (λ (x : RunningNames). IsUnsettled D0 D1 x t) c.self.view_is
    (unsettled D0 D1 r t (λ i. record r { store = c.in-Err.ensures.settles.same i }) c.settle.ensures.any_moment c.settle.ensures.run c.in-Err.ensures.settles)

pub returns-in-Ok : goal.returns-in-Ok
returns-in-Ok g c =
    let D0 = g.D.Disk.state c.args.disk.now in
    let D1 = g.D.Disk.state c.settle.new.disk in
    let r : RunningNames = record { store = c.self.inside.store; next = c.self.inside.next; asks = c.self.inside.asks; walks = c.self.inside.walks.items; updating = c.self.inside.updating; batch = c.self.inside.batch } in
    let t : RunningNames = record { store = c.settle.new.self; next = c.self.inside.next; asks = c.self.inside.asks; walks = c.retire_kept.new.walks.items; updating = c.self.inside.updating; batch = c.self.inside.batch } in
    subst (λ (x : RunningNames). Settling D0 D1 x t) c.self.view_is
    (settles D0 D1 r t c.in-Ok.kept c.self.invariant.0 refl c.settle.ensures.any_moment c.settle.ensures.run c.in-Ok.ensures.settles c.retire_kept.ensures)

pub invariant_of-self-in-Ok : goal.invariant_of-self-in-Ok
invariant_of-self-in-Ok g c =
    let D0 = g.D.Disk.state c.args.disk.now in
    let D1 = g.D.Disk.state c.settle.new.disk in
    let r : RunningNames = record { store = c.self.inside.store; next = c.self.inside.next; asks = c.self.inside.asks; walks = c.self.inside.walks.items; updating = c.self.inside.updating; batch = c.self.inside.batch } in
    let t : RunningNames = record { store = c.settle.new.self; next = c.self.inside.next; asks = c.self.inside.asks; walks = c.retire_kept.new.walks.items; updating = c.self.inside.updating; batch = c.self.inside.batch } in (
      settling-keeps D0 D1 r t c.self.invariant.0
          (settles D0 D1 r t c.in-Ok.kept c.self.invariant.0 refl c.settle.ensures.any_moment c.settle.ensures.run c.in-Ok.ensures.settles c.retire_kept.ensures),
      subst WalksOnce (sym c.retire_kept.ensures) (once-with-kept c.in-Ok.kept c.self.inside.updating c.self.inside.walks.items c.self.invariant.1),
    )
