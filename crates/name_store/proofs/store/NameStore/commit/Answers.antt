use Rattle.std.proofs.Common.{◌≡◌, true, false, Err, refl, sym, ap, subst, ◌∙◌}
use Rattle.hk_base.specs.Disk.{LeavesOnly}
use Rattle.hk_base.proofs.Runs.{begin}
use Rattle.name_store.specs.Table.{NameTable, after_table, allows}
use Rattle.name_store.specs.Store.{CommitsOperation, StoreState}
use Rattle.name_store.proofs.Commits.{commits_done, commits_none, commits_refused, on_err}
use Rattle.name_store.proofs.store.NameStore.commit.Goals as goal

pub returns-in-Ok-clause-log : goal.returns-in-Ok-clause-log
returns-in-Ok-clause-log g c =
    let D0 = g.D.Disk.state c.args.disk.now in
    let D1 = g.D.Disk.state c.commit.new.disk in
    let op = c.args.op.now in
    let was : StoreState = record { log = c.self.inside.log; table = c.self.inside.names.table } in
    let is : StoreState = record { log = c.commit.new.self; table = c.apply.new.self.table } in
    let may : allows was.table op ≡ true = subst (λ (s : StoreState). allows s.table op ≡ true) (sym c.self.view_is) c.requires.allowed in
    let then_is : is.table ≡ after_table was.table op = c.in_ok-apply-in-Ok.ensures.ok ∙ ap (λ (t : NameTable). after_table t op) c.in_ok-reserve.ensures.same in
    subst (λ (s : StoreState). CommitsOperation D0 D1 s op true is) c.self.view_is
    (commits_done D0 D1 was is op c.commit.ensures.run may c.in-Ok.ensures.done then_is c.commit.ensures.any_moment c.in-Ok.ensures.committed)

pub returns-in-Err-clause-log : goal.returns-in-Err-clause-log
returns-in-Err-clause-log g c =
    let D0 = g.D.Disk.state c.args.disk.now in
    let D1 = g.D.Disk.state c.commit.new.disk in
    let op = c.args.op.now in
    let was : StoreState = record { log = c.self.inside.log; table = c.self.inside.names.table } in
    let is : StoreState = record { log = c.commit.new.self; table = c.reserve.new.self.table } in
    let may : allows was.table op ≡ true = subst (λ (s : StoreState). allows s.table op ≡ true) (sym c.self.view_is) c.requires.allowed in
    subst (λ (s : StoreState). CommitsOperation D0 D1 s op false is) c.self.view_is
    (commits_refused D0 D1 was is op c.commit.ensures.run c.in-Err.refusal may c.in_ok-reserve.ensures.same c.commit.ensures.any_moment c.in-Err.ensures.refused
    (λ fault. c.in-Err.ensures.pending (ap Err fault))
    (λ memory. let none = c.in-Err.ensures.memory (ap Err memory) in (none.0, λ P. subst (λ d. LeavesOnly 1 D0 (g.D.Disk.state d) P) (sym none.1) (begin 1 D0 P).moments)))

pub returns-in_err-reserve-clause-log : goal.returns-in_err-reserve-clause-log
returns-in_err-reserve-clause-log g c =
    let D0 = g.D.Disk.state c.args.disk.now in
    let op = c.args.op.now in
    let was : StoreState = record { log = c.self.inside.log; table = c.self.inside.names.table } in
    let is : StoreState = record { log = c.self.inside.log; table = c.reserve.new.self.table } in
    let none : CommitsOperation D0 D0 c.args.self.now op false is = subst (λ (s : StoreState). CommitsOperation D0 D0 s op false is) c.self.view_is
    (commits_none D0 D0 was is op (begin 1 D0 (λ b. Unit {0})).run refl c.in_err-reserve.ensures.same (λ P. (begin 1 D0 P).moments) (λ tells ops s. s)) in
    on_err c.from_residual.result (CommitsOperation D0 D0 c.args.self.now op true is) (CommitsOperation D0 D0 c.args.self.now op false is) c.from_residual.ensures.0 none
