use Rattle.std.proofs.Common.{refl}
use Rattle.row_copies.specs.Copies.{IsPathTaken}
use Rattle.row_copies.proofs.CauseLemmas.{ends-call, ends-rule, found-some}
use Rattle.row_copies.proofs.parents.check_absent.Goals as goal

pub returns-in-Ok-Some-clause-ends : goal.returns-in-Ok-Some-clause-ends
returns-in-Ok-Some-clause-ends g c =
    ends-rule g.C.Clusters.state g.C.Clusters.follows g.C.Clusters.store_fails g.C.Clusters.vault_fails g.C.Clusters.refuses (IsPathTaken c.args.path.now) c.args.clusters.now c.is_directory.new.self _ (refl, found-some _ c.in-Ok-Some.field-0 c.in-Ok-Some.field-0-0 c.in-Ok-Some.field-0-is c.in-Ok-Some.ensures.row)

pub returns-in-Err-clause-ends : goal.returns-in-Err-clause-ends
returns-in-Err-clause-ends g c =
    ends-call g.C.Clusters.state g.C.Clusters.follows g.C.Clusters.store_fails g.C.Clusters.vault_fails g.C.Clusters.refuses (IsPathTaken c.args.path.now) c.args.clusters.now c.is_directory.new.self c.in-Err.end c.in-Err.ensures.ends
