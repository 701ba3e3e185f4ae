use Rattle.name_cell.proofs.RunLemmas.{runs_after_ask}
use Rattle.name_cell.proofs.side.NameSide.ask.Goals as goal

pub invariant_of-self : goal.invariant_of-self
invariant_of-self g c = runs_after_ask _ c.self.inside.names c.ask.new.self c.args.user c.args.ask c.ask.result c.ask.ensures.store c.ask.ensures.asks c.self.invariant
