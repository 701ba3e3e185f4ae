use Rattle.std.proofs.Common.{rules, sym}
use Rattle.clap_lines.proofs.ValueLemmas.{number_read, number_refused}
use Rattle.clap_lines.proofs.values.number_at.Goals as goal

pub returns-then-number : goal.returns-then-number
returns-then-number c = sym (number_refused c.in-Some.number c.args.text.now (search rules) (search rules) (search rules))

pub returns-else-number : goal.returns-else-number
returns-else-number c = sym (number_read c.in-Some.number c.args.text.now (search rules) (search rules))
