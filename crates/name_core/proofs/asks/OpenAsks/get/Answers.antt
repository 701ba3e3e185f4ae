use Rattle.std.proofs.Common.{◌≡◌, ◌∙◌, List, Option, None, Some, Bor, MatchOption, ap, sym}
use Rattle.std.specs.Option.{option_copied}
use Rattle.name_core.specs.declared.asks.OpenAsk.{OpenAsk}
use Rattle.name_core.specs.Asks.{open_ask}
use Rattle.name_core.proofs.AskLemmas.{open-keyed}
use Rattle.name_core.proofs.asks.OpenAsks.get.Goals as goal

tells : (r : Option (Bor OpenAsk)) (o : Option OpenAsk) → option_copied r ≡ o → MatchOption r (o ≡ None) (λ ask. o ≡ Some ask.now)
tells None o h = sym h
tells (Some ask) o h = sym h

pub returns : goal.returns
returns c =
    tells c.get.result (open_ask c.args.self.now c.args.id)
    (c.get.ensures.value ∙ open-keyed c.self.inside.asks.entries c.args.id c.self.invariant.1 ∙ ap (λ (asks : List OpenAsk). open_ask asks c.args.id) c.self.view_is)
