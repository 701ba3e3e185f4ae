use Rattle.std.proofs.Common.{◌≡◌, ◌⊎◌, inl, ℕ, Bool, List, true, subst}
use Rattle.inode_tree.specs.Rows.{is_marked}
use Rattle.row_blocks.specs.Below.{below}
use Rattle.row_copies.specs.Clusters.{KeepsRows, MakesCopyDirectory}
use Rattle.row_copies.specs.Copies.{IsTooLong, StepRefuses}
use Rattle.row_copies.specs.Walks.{CopiesRow, MakesCopy, StopsWalk}
use Rattle.row_copies.proofs.StepLemmas.{if-ok, on-err, one, steps-join}
use Rattle.row_copies.proofs.WalkLemmas.{kept-stops, row-copied, row-stopped}
use Rattle.row_copies.proofs.CauseLemmas.{ends-call, ends-long, ends-now, free-keeps, then-ends, wide-ends}
use Rattle.row_copies.proofs.walk.copy_row.Goals as goal

pub returns-in-Err-clause-err : goal.returns-in-Err-clause-err
returns-in-Err-clause-err g c =
    kept-stops c.args.to.now (below (g.C.Clusters.state c.args.clusters.now).source.rows c.args.from.now) (g.C.Clusters.state c.args.clusters.now) (g.C.Clusters.state c.look.new.self) c.look.ensures.keeps

pub returns-in-Err-clause-steps : goal.returns-in-Err-clause-steps
returns-in-Err-clause-steps g c = one g.C.Clusters.follows c.args.clusters.now c.look.new.self c.look.ensures.follows

pub returns-in-Ok-join-clause-ok : goal.returns-in-Ok-join-clause-ok
returns-in-Ok-join-clause-ok g c =
    let a = g.C.Clusters.state c.args.clusters.now in
    let b = g.C.Clusters.state c.look.new.self in
    let e = g.C.Clusters.state c.make_row.new.clusters in
    if-ok (λ (directory : Bool). MakesCopy c.in-Ok.row c.in-Ok-join.path directory b e) (λ (directory : Bool). CopiesRow c.args.from.now c.args.to.now directory a e) c.make_row.result c.make_row.ensures.ok (λ directory made.
    row-copied c.args.from.now c.args.to.now a c.requires.next c.facts.ensures.source c.facts.ensures.target c.in-Ok.row directory b e c.in-Ok.ensures.row c.look.ensures.keeps
    (subst (λ (path : List (List ℕ)). MakesCopy c.in-Ok.row path directory b e) c.in-Ok-join.ensures.joined made))

pub returns-in-Ok-join-clause-err : goal.returns-in-Ok-join-clause-err
returns-in-Ok-join-clause-err g c =
    let a = g.C.Clusters.state c.args.clusters.now in
    let b = g.C.Clusters.state c.look.new.self in
    let e = g.C.Clusters.state c.make_row.new.clusters in
    on-err (KeepsRows b e ⊎ ((is_marked c.in-Ok.row ≡ true) × MakesCopyDirectory c.in-Ok-join.path b e)) (StopsWalk c.args.to.now (below a.source.rows c.args.from.now) a e) c.make_row.result c.make_row.ensures.err (λ ended.
    row-stopped c.args.from.now c.args.to.now a c.requires.next c.facts.ensures.source c.facts.ensures.target c.in-Ok.row b e c.in-Ok.ensures.row c.look.ensures.keeps
    (subst (λ (path : List (List ℕ)). KeepsRows b e ⊎ ((is_marked c.in-Ok.row ≡ true) × MakesCopyDirectory path b e)) c.in-Ok-join.ensures.joined ended))

pub returns-in-Ok-join-clause-steps : goal.returns-in-Ok-join-clause-steps
returns-in-Ok-join-clause-steps g c =
    steps-join g.C.Clusters.follows c.args.clusters.now c.look.new.self c.make_row.new.clusters (one g.C.Clusters.follows c.args.clusters.now c.look.new.self c.look.ensures.follows) c.make_row.ensures.steps

pub returns-in-Err-join-clause-err : goal.returns-in-Err-join-clause-err
returns-in-Err-join-clause-err g c =
    kept-stops c.args.to.now (below (g.C.Clusters.state c.args.clusters.now).source.rows c.args.from.now) (g.C.Clusters.state c.args.clusters.now) (g.C.Clusters.state c.look.new.self) c.look.ensures.keeps

pub returns-in-Err-join-clause-steps : goal.returns-in-Err-join-clause-steps
returns-in-Err-join-clause-steps g c = one g.C.Clusters.follows c.args.clusters.now c.look.new.self c.look.ensures.follows

pub returns-in-Err-clause-ends : goal.returns-in-Err-clause-ends
returns-in-Err-clause-ends g c =
    ends-now g.C.Clusters.state g.C.Clusters.follows g.C.Clusters.store_fails g.C.Clusters.vault_fails (StepRefuses g.C.Clusters.state g.C.Clusters.refuses (IsTooLong c.args.to.now)) c.args.clusters.now c.look.new.self c.in-Err.end (ends-call g.C.Clusters.state g.C.Clusters.follows g.C.Clusters.store_fails g.C.Clusters.vault_fails g.C.Clusters.refuses (IsTooLong c.args.to.now) c.args.clusters.now c.look.new.self c.in-Err.end c.in-Err.ensures.ends)

pub returns-in-Ok-join-clause-ends : goal.returns-in-Ok-join-clause-ends
returns-in-Ok-join-clause-ends g c =
    then-ends g.C.Clusters.state g.C.Clusters.follows g.C.Clusters.store_fails g.C.Clusters.vault_fails (StepRefuses g.C.Clusters.state g.C.Clusters.refuses (IsTooLong c.args.to.now)) c.args.clusters.now c.look.new.self c.make_row.new.clusters c.make_row.result (one g.C.Clusters.follows c.args.clusters.now c.look.new.self c.look.ensures.follows) (free-keeps (g.C.Clusters.state c.args.clusters.now) (g.C.Clusters.state c.look.new.self) c.look.ensures.keeps) (wide-ends g.C.Clusters.state g.C.Clusters.follows g.C.Clusters.store_fails g.C.Clusters.vault_fails g.C.Clusters.refuses (StepRefuses g.C.Clusters.state g.C.Clusters.refuses (IsTooLong c.args.to.now)) c.look.new.self c.make_row.new.clusters c.make_row.result (λ why x r. inl r) c.make_row.ensures.ends)

pub returns-in-Err-join-clause-ends : goal.returns-in-Err-join-clause-ends
returns-in-Err-join-clause-ends g c =
    ends-now g.C.Clusters.state g.C.Clusters.follows g.C.Clusters.store_fails g.C.Clusters.vault_fails (StepRefuses g.C.Clusters.state g.C.Clusters.refuses (IsTooLong c.args.to.now)) c.args.clusters.now c.look.new.self c.in-Err-join.end
    (ends-long g.C.Clusters.state g.C.Clusters.refuses c.args.to.now c.args.from.now c.in-Ok.row _ _ c.args.clusters.now c.look.new.self c.in-Err-join.end c.in-Ok.ensures.row c.in-Err-join.ensures.ends)
