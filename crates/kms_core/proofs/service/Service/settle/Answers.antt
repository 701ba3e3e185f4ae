use Rattle.std.proofs.Common.{◌≡◌, Bool, true, Option, None, refl, ap, sym, ◌∙◌, subst}
use Rattle.key_rows.specs.declared.rows.KeyCommand.{KeyCommand}
use Rattle.kms_core.specs.State.{Running, ServiceState, service_of, settled, settled_queues}
use Rattle.kms_core.specs.Steps.{IsUnsettled, Settling}
use Rattle.kms_store.specs.Store.{StoreState}
use Rattle.kms_core.proofs.KeepLemmas.{keeps_is, keeps_settled}
use Rattle.kms_core.proofs.QueueLemmas.{unsettled_queues}
use Rattle.kms_core.proofs.ServiceLemmas.{err_only, settles, stays_pending}
use Rattle.kms_core.proofs.service.Service.settle.Goals as goal

pub returns-in_err-kept : goal.returns-in_err-kept
returns-in_err-kept g c =
    let D0 = g.D.Disk.state c.args.disk.now in
    let D1 = g.D.Disk.state c.settle.new.disk in
    let r : Running = record { store = c.self.inside.store; next = c.self.inside.next; ready = c.self.inside.queues } in
    let t : Running = record { store = c.settle.new.self; next = c.self.inside.next; ready = c.self.inside.queues } in
    err_only _ c.from_residual.result c.from_residual.ensures.0
    (subst (λ (x : Running). IsUnsettled D0 D1 x t) c.self.view_is
    (stays_pending D0 D1 r t (ap (λ (x : StoreState). record { store = x; next = c.self.inside.next; ready = c.self.inside.queues }) c.in_err-kept.ensures.still_pending) c.opening.ensures.pending
    (λ none. ap g.D.Disk.state (c.settle.ensures.nothing none).2) c.settle.ensures.any_moment c.in_err-kept.ensures.refused c.settle.ensures.run
    (λ none. absurd (cc ((c.settle.ensures.nothing none).0, c.in_err-kept.was))) c.in_err-kept.ensures.cause))

pub invariant_of-self-then-kept : goal.invariant_of-self-then-kept
invariant_of-self-then-kept g c =
    let D0 = g.D.Disk.state c.args.disk.now in
    let D1 = g.D.Disk.state c.settle.new.disk in
    let r : Running = record { store = c.self.inside.store; next = c.self.inside.next; ready = c.self.inside.queues } in
    let t : Running = record { store = c.settle.new.self; next = c.self.inside.next; ready = c.change.new.queues } in
    let queues : c.change.new.queues ≡ settled_queues c.in_ok-kept.kept r.store.pending r.ready =
    c.change.ensures ∙ c.change_by-effect.ensures r.ready ∙ ap (λ (o : Option KeyCommand). settled_queues true o r.ready) c.pending.ensures
    ∙ ap (λ (k : Bool). settled_queues k r.store.pending r.ready) (sym c.if-kept.true) in
    let done : Settling D0 D1 r t =
    settles D0 D1 r t c.in_ok-kept.kept refl queues c.opening.ensures.pending (λ none. ap g.D.Disk.state (c.settle.ensures.nothing none).2) c.settle.ensures.any_moment c.settle.ensures.run c.in_ok-kept.ensures.settles in
    keeps_is (record { keys = settled done.kept (service_of r); pending = None }) (service_of t) done.service (keeps_settled (service_of r) done.kept c.self.invariant)

pub returns-then-kept : goal.returns-then-kept
returns-then-kept g c =
    let D0 = g.D.Disk.state c.args.disk.now in
    let D1 = g.D.Disk.state c.settle.new.disk in
    let r : Running = record { store = c.self.inside.store; next = c.self.inside.next; ready = c.self.inside.queues } in
    let t : Running = record { store = c.settle.new.self; next = c.self.inside.next; ready = c.change.new.queues } in
    let queues : c.change.new.queues ≡ settled_queues c.in_ok-kept.kept r.store.pending r.ready =
    c.change.ensures ∙ c.change_by-effect.ensures r.ready ∙ ap (λ (o : Option KeyCommand). settled_queues true o r.ready) c.pending.ensures
    ∙ ap (λ (k : Bool). settled_queues k r.store.pending r.ready) (sym c.if-kept.true) in
    let done : Settling D0 D1 r t =
    settles D0 D1 r t c.in_ok-kept.kept refl queues c.opening.ensures.pending (λ none. ap g.D.Disk.state (c.settle.ensures.nothing none).2) c.settle.ensures.any_moment c.settle.ensures.run c.in_ok-kept.ensures.settles in
    subst (λ (x : Running). Settling D0 D1 x t) c.self.view_is done

pub returns-else-kept : goal.returns-else-kept
returns-else-kept g c =
    let D0 = g.D.Disk.state c.args.disk.now in
    let D1 = g.D.Disk.state c.settle.new.disk in
    let r : Running = record { store = c.self.inside.store; next = c.self.inside.next; ready = c.self.inside.queues } in
    let t : Running = record { store = c.settle.new.self; next = c.self.inside.next; ready = c.self.inside.queues } in
    let queues : r.ready ≡ settled_queues c.in_ok-kept.kept r.store.pending r.ready =
    sym (unsettled_queues r.store.pending r.ready) ∙ ap (λ (k : Bool). settled_queues k r.store.pending r.ready) (sym c.if-kept.false) in
    let done : Settling D0 D1 r t =
    settles D0 D1 r t c.in_ok-kept.kept refl queues c.opening.ensures.pending (λ none. ap g.D.Disk.state (c.settle.ensures.nothing none).2) c.settle.ensures.any_moment c.settle.ensures.run c.in_ok-kept.ensures.settles in
    subst (λ (x : Running). Settling D0 D1 x t) c.self.view_is done

pub invariant_of-self : goal.invariant_of-self
invariant_of-self g c =
    let r : Running = record { store = c.self.inside.store; next = c.self.inside.next; ready = c.self.inside.queues } in
    let same : StoreState → ServiceState = λ x. service_of (record { store = x; next = r.next; ready = r.ready }) in
    keeps_is (same r.store) (same c.settle.new.self) (ap same c.in_err-kept.ensures.still_pending) c.self.invariant
