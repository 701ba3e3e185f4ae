use Rattle.std.proofs.Common.{ℕ, ◌∙◌, List, ap, sym, subst}
use Rattle.std.specs.BTreeMap.{is_at}
use Rattle.std.specs.Map.{values_of}
use Rattle.std.specs.Ordering.{nat_cmp}
use Rattle.name_core.specs.declared.asks.OpenAsk.{OpenAsk}
use Rattle.name_core.specs.Asks.{without}
use Rattle.name_core.specs.State.{AreAsksRising}
use Rattle.name_core.specs.Steps.{AreKeyed}
use Rattle.name_core.proofs.AskLemmas.{keyed-without, rising-without, without-keyed}
use Rattle.name_core.proofs.asks.OpenAsks.remove.Goals as goal

pub invariant_of-self : goal.invariant_of-self
invariant_of-self c =
    let es = c.self.inside.asks.entries in (
      subst (λ (asks : List OpenAsk). AreAsksRising asks) (sym (ap (λ (left : List (ℕ × OpenAsk)). values_of left) c.remove.ensures.entries ∙ without-keyed es c.args.id c.self.invariant.1))
          (rising-without (values_of es) c.args.id c.self.invariant.0),
      subst (λ (left : List (ℕ × OpenAsk)). AreKeyed left) (sym c.remove.ensures.entries) (keyed-without es (is_at (nat_cmp c.args.id)) c.self.invariant.1),
    )

pub returns : goal.returns
returns c =
    ap (λ (left : List (ℕ × OpenAsk)). values_of left) c.remove.ensures.entries ∙ without-keyed c.self.inside.asks.entries c.args.id c.self.invariant.1
    ∙ ap (λ (asks : List OpenAsk). without asks c.args.id) c.self.view_is
