use Rattle.std.proofs.Common.{ℕ, ◌≡◌, ◌<◌, ◌++◌, ◌∷◌, [], ◌∙◌, List, ap, sym, subst}
use Rattle.std.specs.List.{AllByRecursion}
use Rattle.std.specs.Map.{values_of}
use Rattle.name_core.specs.declared.asks.OpenAsk.{OpenAsk}
use Rattle.name_core.specs.State.{AreAsksRising}
use Rattle.name_core.specs.Steps.{AreKeyed}
use Rattle.name_core.proofs.AskLemmas.{keyed-insert, rising-append, values-insert}
use Rattle.name_core.proofs.asks.OpenAsks.push.Goals as goal

below : (asks seen : List OpenAsk) (id : ℕ) → asks ≡ seen → AllByRecursion (λ (a : OpenAsk). a.id < id) seen → AllByRecursion (λ (a : OpenAsk). a.id < id) asks
below asks seen id is h = subst (λ (l : List OpenAsk). AllByRecursion (λ (a : OpenAsk). a.id < id) l) (sym is) h

pub invariant_of-self-2 : goal.invariant_of-self-2
invariant_of-self-2 c =
    let es = c.self.inside.asks.entries in
    let low = below (values_of es) c.args.self.now c.args.ask.id c.self.view_is c.requires in (
      subst (λ (asks : List OpenAsk). AreAsksRising asks) (sym (ap (λ (put : List (ℕ × OpenAsk)). values_of put) c.in_ok-insert.ensures.entries ∙ values-insert es c.args.ask c.self.invariant.1 low))
          (rising-append (values_of es) c.args.ask c.self.invariant.0 low),
      subst (λ (put : List (ℕ × OpenAsk)). AreKeyed put) (sym c.in_ok-insert.ensures.entries) (keyed-insert es c.args.ask c.self.invariant.1 low),
    )

pub returns-clause-ok : goal.returns-clause-ok
returns-clause-ok c =
    let es = c.self.inside.asks.entries in
    let low = below (values_of es) c.args.self.now c.args.ask.id c.self.view_is c.requires in
    ap (λ (put : List (ℕ × OpenAsk)). values_of put) c.in_ok-insert.ensures.entries ∙ values-insert es c.args.ask c.self.invariant.1 low
    ∙ ap (λ (asks : List OpenAsk). asks ++ c.args.ask ∷ []) c.self.view_is
