use Rattle.row_copies.specs.Copies.{HasNoMark}
use Rattle.row_copies.proofs.CauseLemmas.{ends-call}
use Rattle.row_copies.proofs.walk.check_zone.Goals as goal

pub returns-in-Err-clause-ends : goal.returns-in-Err-clause-ends
returns-in-Err-clause-ends g c =
    ends-call g.C.Clusters.state g.C.Clusters.follows g.C.Clusters.store_fails g.C.Clusters.vault_fails g.C.Clusters.refuses (HasNoMark c.args.root.now) c.args.clusters.now c.look.new.self c.in-Err.end c.in-Err.ensures.ends
