use Rattle.std.proofs.Common.{List, ℕ, Some, None, refl, sym, subst}
use Rattle.hk_base.specs.Disk.{LeavesOnly, Tells}
use Rattle.hk_base.proofs.Runs.{begin}
use Rattle.edit_ops.specs.declared.ops.EditOp.{EditOp}
use Rattle.edit_log.specs.Log as edits
use Rattle.name_store.specs.Store.{IsLeftOf, NothingMore, SettlesNames, IsNameStoreOf, StoreState, LeavesUnsettled, made_with}
use Rattle.name_store.proofs.SettleLemmas.{settle_moments, settles_kept, settles_none, unsettled}
use Rattle.name_store.proofs.store.NameStore.settle.Goals as goal

pub returns-in-Err-clause-settles : goal.returns-in-Err-clause-settles
returns-in-Err-clause-settles g c =
    let D0 = g.D.Disk.state c.args.disk.now in
    let D1 = g.D.Disk.state c.settle.new.disk in
    let was : StoreState = record { log = c.self.inside.log; table = c.self.inside.names.table } in
    let is : StoreState = record { log = c.settle.new.self; table = c.self.inside.names.table } in
    subst (λ (s : StoreState). LeavesUnsettled D0 D1 s is) c.self.view_is
    (unsettled D0 D1 was is (λ none. cc (c.in-Err.is, (c.settle.ensures.nothing none).0)) c.in-Err.ensures.cause c.in-Err.ensures.still_pending refl c.in-Err.ensures.refused)

pub returns-in-Ok-None-clause-settles : goal.returns-in-Ok-None-clause-settles
returns-in-Ok-None-clause-settles g c =
    let D0 = g.D.Disk.state c.args.disk.now in
    let D1 = g.D.Disk.state c.settle.new.disk in
    let was : StoreState = record { log = c.self.inside.log; table = c.self.inside.names.table } in
    let is : StoreState = record { log = c.settle.new.self; table = c.self.inside.names.table } in
    let h = c.in-Ok-None.ensures in
    subst (λ (s : StoreState). SettlesNames D0 D1 s None is) c.self.view_is
    (settles_none D0 D1 was is c.in-Ok-None.field-0 c.in-Ok-None.field-0-is h.settled refl
    (λ none ops s. let same = h.nothing none in subst (λ d. edits.IsEditLogOf (g.D.Disk.state d) is.log ops) (sym same.2) (subst (λ l. edits.IsEditLogOf D0 l ops) (sym same.1) s))
    h.kept h.dropped)

pub returns-in-Ok-clause-settles : goal.returns-in-Ok-clause-settles
returns-in-Ok-clause-settles g c =
    let D0 = g.D.Disk.state c.args.disk.now in
    let D1 = g.D.Disk.state c.settle.new.disk in
    let was : StoreState = record { log = c.self.inside.log; table = c.self.inside.names.table } in
    let is : StoreState = record { log = c.settle.new.self; table = c.apply.new.self.table } in
    let h = c.in-Ok-Some.ensures in
    subst (λ (s : StoreState). SettlesNames D0 D1 s (Some c.in-Ok-Some.op) is) c.self.view_is
    (settles_kept D0 D1 was is c.in-Ok-Some.field-0 c.in-Ok-Some.op c.in-Ok-Some.field-0-is h.answer h.settled c.in-Ok.ensures.ok h.kept h.dropped)

pub returns-in-Ok-None-clause-any_moment : goal.returns-in-Ok-None-clause-any_moment
returns-in-Ok-None-clause-any_moment g c =
    let D0 = g.D.Disk.state c.args.disk.now in
    let D1 = g.D.Disk.state c.settle.new.disk in
    let was : StoreState = record { log = c.self.inside.log; table = c.self.inside.names.table } in
    subst
    (λ (s : StoreState). Tells D0 → (used : List ℕ) (ops : List EditOp) → IsNameStoreOf D0 s used ops → LeavesOnly 1 D0 D1 (IsLeftOf (made_with s used) s.log.pending NothingMore ops))
    c.self.view_is
    (settle_moments D0 D1 was (λ none P. let same = c.settle.ensures.nothing none in subst (λ d. LeavesOnly 1 D0 (g.D.Disk.state d) P) (sym same.2) (begin 1 D0 P).moments) c.settle.ensures.any_moment)

pub returns-in-Ok-clause-any_moment : goal.returns-in-Ok-clause-any_moment
returns-in-Ok-clause-any_moment g c =
    let D0 = g.D.Disk.state c.args.disk.now in
    let D1 = g.D.Disk.state c.settle.new.disk in
    let was : StoreState = record { log = c.self.inside.log; table = c.self.inside.names.table } in
    subst
    (λ (s : StoreState). Tells D0 → (used : List ℕ) (ops : List EditOp) → IsNameStoreOf D0 s used ops → LeavesOnly 1 D0 D1 (IsLeftOf (made_with s used) s.log.pending NothingMore ops))
    c.self.view_is
    (settle_moments D0 D1 was (λ none P. let same = c.settle.ensures.nothing none in subst (λ d. LeavesOnly 1 D0 (g.D.Disk.state d) P) (sym same.2) (begin 1 D0 P).moments) c.settle.ensures.any_moment)

pub returns-in-Err-clause-any_moment : goal.returns-in-Err-clause-any_moment
returns-in-Err-clause-any_moment g c =
    let D0 = g.D.Disk.state c.args.disk.now in
    let D1 = g.D.Disk.state c.settle.new.disk in
    let was : StoreState = record { log = c.self.inside.log; table = c.self.inside.names.table } in
    subst
    (λ (s : StoreState). Tells D0 → (used : List ℕ) (ops : List EditOp) → IsNameStoreOf D0 s used ops → LeavesOnly 1 D0 D1 (IsLeftOf (made_with s used) s.log.pending NothingMore ops))
    c.self.view_is
    (settle_moments D0 D1 was (λ none P. let same = c.settle.ensures.nothing none in subst (λ d. LeavesOnly 1 D0 (g.D.Disk.state d) P) (sym same.2) (begin 1 D0 P).moments) c.settle.ensures.any_moment)
