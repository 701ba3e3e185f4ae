use Rattle.std.proofs.Common.{rules, ◌∙◌, sym}
use Rattle.command_line.proofs.NumberLemmas.{number_at-decimal}
use Rattle.command_line.proofs.reading.number_at.Goals as goal

pub returns-in-Some-clause-value : goal.returns-in-Some-clause-value
returns-in-Some-clause-value c =
    c.in_range.ensures.value ∙ sym (number_at-decimal c.args.most c.in-Some.number c.args.text.now (search rules) (search rules))
