use Rattle.std.proofs.Common.{rules, ℕ, List, None, IsErrOf, refl, sym, subst}
use Rattle.frame_log.proofs.Openings.{opens_err, opens_ok}
use Rattle.reenc_walk.specs.Walks.{WalkState}
use Rattle.name_core.specs.declared.asks.OpenAsk.{OpenAsk}
use Rattle.name_core.specs.Service.{Starts}
use Rattle.name_core.specs.State.{WalksOnce}
use Rattle.name_core.proofs.KeepLemmas.{keeps-started}
use Rattle.name_core.proofs.StartLemmas.{starts}
use Rattle.name_core.proofs.namesystem.Name.start.Goals as goal

pub returns-clause-started : goal.returns-clause-started
returns-clause-started g c =
    let D0 = g.D.Disk.state c.args.disk.now in
    let D1 = g.D.Disk.state c.start.new.disk in
    subst (λ (x : List OpenAsk × List WalkState × ℕ). Starts c.args.batch D0 D1 (record { store = c.in_ok-store.store; next = 1; asks = x.0; walks = x.1; updating = None; batch = x.2 }))
    (λ i. (sym c.new.ensures i, sym c.new-2.ensures.items i, sym c.of.ensures i))
    (starts D0 D1 c.in_ok-store.store c.args.batch c.in_ok-store.ensures.started)

pub invariant_of-result : goal.invariant_of-result
invariant_of-result g c = (
  keeps-started (record { store = c.in_ok-store.store; next = 1; asks = c.new.result; walks = c.new-2.result.items; updating = None; batch = c.of.result }) refl c.new.ensures c.in_ok-store.ensures.started.settled c.in_ok-store.ensures.started.earlier,
  subst WalksOnce (sym c.new-2.ensures.items) tt,
)

pub returns-in_err-store-clause-opens : goal.returns-in_err-store-clause-opens
returns-in_err-store-clause-opens g c =
    let now : IsErrOf c.from_residual.result c.in_err-store.field-0.0 = search rules in
    opens_err c.in_err-store.field-0.0 c.start.result c.from_residual.result c.in_err-store.was now c.start.ensures.opens

pub returns-clause-opens : goal.returns-clause-opens
returns-clause-opens g c = opens_ok _ _ c.in_ok-store.ensures.opens
