use Rattle.std.proofs.Common.{rules, ◌≡◌, ℕ, ◌+◌, [], ◌∷◌, ◌++◌, subst}
use Rattle.hk_base.specs.Disk.{LeavesOnly}
use Rattle.key_rows.specs.declared.rows.KeyCommand.TheVariants.{Opened}
use Rattle.kms_store.specs.Store.{IsKeyStoreOf, IsWritten}
use Rattle.kms_store.proofs.Starts.{with_cache}
use Rattle.kms_store.proofs.store.Store.open.Goals as goal

pub returns-in-Ok-clause-log : goal.returns-in-Ok-clause-log
returns-in-Ok-clause-log g c tells commands s =
    let D0 = g.D.Disk.state c.args.disk.now in
    let empty : c.in_ok-cache.cache.entries ≡ [] = search rules in
    subst (λ (n : ℕ). IsKeyStoreOf (g.D.Disk.state c.commit.new.disk) c.commit.new.self (commands ++ Opened (n + 1) ∷ [])) c.opening-opening.ensures.opening
    (c.in-Ok.ensures.committed tells commands (with_cache D0 c.args.log c.args.keys c.in_ok-cache.cache.entries commands empty s))

pub returns-in-Ok-clause-moments : goal.returns-in-Ok-clause-moments
returns-in-Ok-clause-moments g c tells commands s =
    let D0 = g.D.Disk.state c.args.disk.now in
    let empty : c.in_ok-cache.cache.entries ≡ [] = search rules in
    subst (λ (n : ℕ). LeavesOnly 0 D0 (g.D.Disk.state c.commit.new.disk) (IsWritten commands (Opened (n + 1)))) c.opening-opening.ensures.opening
    (c.commit.ensures.any_moment tells commands (with_cache D0 c.args.log c.args.keys c.in_ok-cache.cache.entries commands empty s))

pub returns-in-Err-StoreFault-clause-moments : goal.returns-in-Err-StoreFault-clause-moments
returns-in-Err-StoreFault-clause-moments g c tells commands s =
    let D0 = g.D.Disk.state c.args.disk.now in
    let empty : c.in_ok-cache.cache.entries ≡ [] = search rules in
    subst (λ (n : ℕ). LeavesOnly 0 D0 (g.D.Disk.state c.commit.new.disk) (IsWritten commands (Opened (n + 1)))) c.opening-opening.ensures.opening
    (c.commit.ensures.any_moment tells commands (with_cache D0 c.args.log c.args.keys c.in_ok-cache.cache.entries commands empty s))
