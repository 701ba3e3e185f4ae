use Rattle.std.proofs.Common.{sym, ◌∙◌}
use Rattle.key_index.proofs.Commands.{applies_is}
use Rattle.key_index.proofs.index.KeyIndex.applies.Goals as goal

pub applies_to-requires-clause-rising : goal.applies_to-requires-clause-rising
applies_to-requires-clause-rising c = (c.self.inside.greatest, c.self.invariant.0.births)

pub returns : goal.returns
returns c m = rw (← c.self.view_is) (c.applies_to.ensures ∙ sym (applies_is m _ c.args.command.now c.self.invariant.0))
