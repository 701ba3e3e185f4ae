use Rattle.std.proofs.Common.{rules, ap, codes, ◌∙◌}
use Rattle.command_line.specs.Line as line
use Rattle.command_line.proofs.commands.port_option.Goals as goal

pub returns-clause-rule : goal.returns-clause-rule
returns-clause-rule c = c.number_option.ensures.rule ∙ ap (line.number_option (codes "port")) (search rules)
