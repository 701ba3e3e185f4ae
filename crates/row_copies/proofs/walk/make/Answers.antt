use Rattle.std.proofs.Common.{sym, subst}
use Rattle.std.specs.Prelude.{Option}
use Rattle.hk_base.specs.declared.names.KeyName.{KeyName}
use Rattle.inode_tree.specs.declared.rows.Kind.TheVariants.{Dir}
use Rattle.row_copies.specs.Walks.{MakesRow}
use Rattle.row_copies.proofs.AddLemmas.{makes-marks}
use Rattle.row_copies.proofs.StepLemmas.{on-ok, one, two}
use Rattle.row_copies.proofs.CauseLemmas.{ends-now, free-makes, last-ends}
use Rattle.row_copies.proofs.walk.make.Goals as goal

pub returns-in-Err-clause-steps : goal.returns-in-Err-clause-steps
returns-in-Err-clause-steps g c = one g.C.Clusters.follows c.args.clusters.now c.make_directory.new.self c.make_directory.ensures.follows

pub returns-in-Some-clause-ok : goal.returns-in-Some-clause-ok
returns-in-Some-clause-ok g c =
    on-ok _ _ c.mark.result c.mark.ensures.ok (λ marks.
    subst (λ (key : Option KeyName). MakesRow (Dir key) c.args.path.now (g.C.Clusters.state c.args.clusters.now) (g.C.Clusters.state c.mark.new.self)) (sym c.in-Some.is)
    (makes-marks c.args.path.now c.in-Some.key (g.C.Clusters.state c.args.clusters.now) (g.C.Clusters.state c.make_directory.new.self) (g.C.Clusters.state c.mark.new.self) c.in-Ok.ensures.ok marks))

pub returns-in-Some-clause-steps : goal.returns-in-Some-clause-steps
returns-in-Some-clause-steps g c = two g.C.Clusters.follows c.args.clusters.now c.make_directory.new.self c.mark.new.self c.make_directory.ensures.follows c.mark.ensures.follows

pub returns-in-None-clause-steps : goal.returns-in-None-clause-steps
returns-in-None-clause-steps g c = one g.C.Clusters.follows c.args.clusters.now c.make_directory.new.self c.make_directory.ensures.follows

pub returns-in-Err-clause-ends : goal.returns-in-Err-clause-ends
returns-in-Err-clause-ends g c =
    ends-now g.C.Clusters.state g.C.Clusters.follows g.C.Clusters.store_fails g.C.Clusters.vault_fails g.C.Clusters.refuses c.args.clusters.now c.make_directory.new.self c.in-Err.end c.in-Err.ensures.ends

pub returns-in-Some-clause-ends : goal.returns-in-Some-clause-ends
returns-in-Some-clause-ends g c =
    last-ends g.C.Clusters.state g.C.Clusters.follows g.C.Clusters.store_fails g.C.Clusters.vault_fails g.C.Clusters.refuses c.args.clusters.now c.make_directory.new.self c.mark.new.self c.mark.result (one g.C.Clusters.follows c.args.clusters.now c.make_directory.new.self c.make_directory.ensures.follows) (free-makes c.args.path.now (g.C.Clusters.state c.args.clusters.now) (g.C.Clusters.state c.make_directory.new.self) c.in-Ok.ensures.ok) c.mark.ensures.ends
