use Rattle.row_copies.proofs.StepLemmas.{one, two}
use Rattle.row_copies.proofs.CauseLemmas.{ends-now, free-keeps, last-ends}
use Rattle.row_copies.proofs.parents.make_missing.Goals as goal

pub returns-in-Ok-Some-clause-steps : goal.returns-in-Ok-Some-clause-steps
returns-in-Ok-Some-clause-steps g c = one g.C.Clusters.follows c.args.clusters.now c.is_directory.new.self c.is_directory.ensures.follows

pub returns-in-Ok-None-clause-steps : goal.returns-in-Ok-None-clause-steps
returns-in-Ok-None-clause-steps g c = two g.C.Clusters.follows c.args.clusters.now c.is_directory.new.self c.make_directory.new.self c.is_directory.ensures.follows c.make_directory.ensures.follows

pub returns-in-Err-clause-steps : goal.returns-in-Err-clause-steps
returns-in-Err-clause-steps g c = one g.C.Clusters.follows c.args.clusters.now c.is_directory.new.self c.is_directory.ensures.follows

pub returns-in-Ok-None-clause-ends : goal.returns-in-Ok-None-clause-ends
returns-in-Ok-None-clause-ends g c =
    last-ends g.C.Clusters.state g.C.Clusters.follows g.C.Clusters.store_fails g.C.Clusters.vault_fails g.C.Clusters.refuses c.args.clusters.now c.is_directory.new.self c.make_directory.new.self c.make_directory.result (one g.C.Clusters.follows c.args.clusters.now c.is_directory.new.self c.is_directory.ensures.follows) (free-keeps (g.C.Clusters.state c.args.clusters.now) (g.C.Clusters.state c.is_directory.new.self) c.is_directory.ensures.keeps) c.make_directory.ensures.ends

pub returns-in-Err-clause-ends : goal.returns-in-Err-clause-ends
returns-in-Err-clause-ends g c =
    ends-now g.C.Clusters.state g.C.Clusters.follows g.C.Clusters.store_fails g.C.Clusters.vault_fails g.C.Clusters.refuses c.args.clusters.now c.is_directory.new.self c.in-Err.end c.in-Err.ensures.ends
