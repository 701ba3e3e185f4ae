use Rattle.std.proofs.Common.{subst}
use Rattle.name_core.specs.State.{IsNames, RunningNames, service_of}
use Rattle.name_core.proofs.KeepLemmas.{is-names}
use Rattle.name_core.proofs.namesystem.Name.invariants.Goals as goal

pub returns-clause-names : goal.returns-clause-names
returns-clause-names c =
    subst (λ (x : RunningNames). IsNames (service_of x)) c.self.view_is
    (is-names (record { store = c.self.inside.store; next = c.self.inside.next; asks = c.self.inside.asks; walks = c.self.inside.walks.items; updating = c.self.inside.updating; batch = c.self.inside.batch }) c.tree.ensures.rules c.files.ensures.some c.files.ensures.most c.self.invariant.0 c.self.invariant.1)
