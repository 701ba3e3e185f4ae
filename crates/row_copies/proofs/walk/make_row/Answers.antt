use Rattle.row_copies.proofs.StepLemmas.{one}
use Rattle.row_copies.proofs.CauseLemmas.{ends-now}
use Rattle.row_copies.proofs.walk.make_row.Goals as goal

pub returns-in-Ok-copy_file-clause-steps : goal.returns-in-Ok-copy_file-clause-steps
returns-in-Ok-copy_file-clause-steps g c = one g.C.Clusters.follows c.args.clusters.now c.copy_file.new.self c.copy_file.ensures.follows

pub returns-in-Err-copy_file-clause-steps : goal.returns-in-Err-copy_file-clause-steps
returns-in-Err-copy_file-clause-steps g c = one g.C.Clusters.follows c.args.clusters.now c.copy_file.new.self c.copy_file.ensures.follows

pub returns-in-Err-copy_file-clause-ends : goal.returns-in-Err-copy_file-clause-ends
returns-in-Err-copy_file-clause-ends g c =
    ends-now g.C.Clusters.state g.C.Clusters.follows g.C.Clusters.store_fails g.C.Clusters.vault_fails g.C.Clusters.refuses c.args.clusters.now c.copy_file.new.self c.in-Err-copy_file.end c.in-Err-copy_file.ensures.ends
