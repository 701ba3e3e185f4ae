use Rattle.std.proofs.Common.{List, sym, subst}
use Rattle.name_core.specs.declared.asks.OpenAsk.{OpenAsk}
use Rattle.name_core.specs.State.{service_of}
use Rattle.name_core.specs.Steps.{Keeps}
use Rattle.name_core.proofs.KeepLemmas.{keeps-closed}
use Rattle.name_core.proofs.namesystem.Name.close.Goals as goal

pub invariant_of-self : goal.invariant_of-self
invariant_of-self c = (
  subst (λ (asks : List OpenAsk). Keeps (service_of (record { store = c.self.inside.store; next = c.self.inside.next; asks = asks; walks = c.self.inside.walks.items; updating = c.self.inside.updating; batch = c.self.inside.batch }))) (sym c.remove.ensures)
      (keeps-closed (service_of (record { store = c.self.inside.store; next = c.self.inside.next; asks = c.self.inside.asks; walks = c.self.inside.walks.items; updating = c.self.inside.updating; batch = c.self.inside.batch })) c.args.id c.self.invariant.0),
  c.self.invariant.1,
)
