use Rattle.std.proofs.Common.{sym, ◌∙◌}
use Rattle.prop_text.proofs.LoopLemmas.{adds_line}
use Rattle.prop_text.proofs.reading.Reading.read_line.Goals as goal

pub returns : goal.returns
returns c = adds_line _ _ _ _ _ _ (sym c.if-is_quiet.ensures) c.in-Some.ensures (sym c.read_name.ensures ∙ c.in-Some-read_name.is) c.in_ok-read_set.ensures
