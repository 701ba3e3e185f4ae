use Rattle.std.proofs.Common.{◌+◌, ◌++◌, ◌∷◌, [], ℕ, Err, sym, ap, subst}
use Rattle.hk_base.specs.Disk.{LeavesOnly}
use Rattle.hk_base.proofs.Runs.{begin}
use Rattle.edit_ops.specs.declared.ops.EditOp.{EditOp}
use Rattle.edit_ops.specs.declared.ops.EditOp.TheVariants.{Opened}
use Rattle.edit_log.specs.Log.{IsEditLogOf}
use Rattle.name_store.specs.Store.{IsWritten}
use Rattle.name_store.proofs.Starts.{done_moments, fault_moments}
use Rattle.name_store.proofs.opening.open.Goals as goal

pub returns-in-Ok-clause-log : goal.returns-in-Ok-clause-log
returns-in-Ok-clause-log g c tells ops s =
    let D1 = g.D.Disk.state c.open.new.disk in
    subst (λ (n : ℕ). IsEditLogOf D1 c.open.new.self (ops ++ Opened (n + 1) ∷ [])) c.opening-last.ensures (c.in-Ok.ensures.committed tells ops s)

pub returns-in-Ok-clause-moments : goal.returns-in-Ok-clause-moments
returns-in-Ok-clause-moments g c tells ops s =
    let D0 = g.D.Disk.state c.args.disk.now in
    let D1 = g.D.Disk.state c.open.new.disk in
    let next : EditOp = Opened (c.opening-last.result + 1) in
    subst (λ (n : ℕ). LeavesOnly 1 D0 D1 (IsWritten ops (Opened (n + 1)))) c.opening-last.ensures
    (done_moments D0 D1 c.args.log.now c.open.new.self next c.open.ensures.any_moment c.in-Ok.ensures.committed tells ops s)

pub returns-in-Err-clause-moments : goal.returns-in-Err-clause-moments
returns-in-Err-clause-moments g c tells ops s =
    let D0 = g.D.Disk.state c.args.disk.now in
    let D1 = g.D.Disk.state c.open.new.disk in
    let next : EditOp = Opened (c.opening-last.result + 1) in
    let h = c.in-Err.ensures in
    subst (λ (n : ℕ). LeavesOnly 1 D0 D1 (IsWritten ops (Opened (n + 1)))) c.opening-last.ensures
    (fault_moments D0 D1 c.args.log.now c.open.new.self next c.open.ensures.any_moment c.in-Err.fault h.refused
    (λ why. h.pending (ap Err why))
    (λ why P. subst (λ d. LeavesOnly 1 D0 (g.D.Disk.state d) P) (sym (h.memory (ap Err why)).1) (begin 1 D0 P).moments)
    (λ why P. subst (λ d. LeavesOnly 1 D0 (g.D.Disk.state d) P) (sym (h.spent (ap Err why)).2) (begin 1 D0 P).moments)
    (λ at why. h.damaged at (ap Err why)) tells ops s)
