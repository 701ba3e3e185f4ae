use Rattle.std.proofs.Common.{rules}
use Rattle.clap_lines.proofs.OrderLemmas.{help_from, mistake_from, named_from, usage_from, version_from}
use Rattle.copy_command_line.specs.Line as line
use Rattle.copy_command_line.specs.Orders.{IsHelp, IsVersion, order_named}
use Rattle.copy_command_line.proofs.OrderLemmas.{plain, valued_from}
use Rattle.copy_command_line.proofs.SpellingLemmas.{spelling_is_named}
use Rattle.copy_command_line.proofs.reading.read_order.Goals as goal

pub returns-clause-usage : goal.returns-clause-usage
returns-clause-usage c = usage_from line.hkcopy order_named c.read.result c.args.words.now plain (search rules)

pub returns-clause-mistake : goal.returns-clause-mistake
returns-clause-mistake c = mistake_from line.hkcopy order_named IsHelp IsVersion c.read.result c.args.words.now (search rules)

pub returns-clause-named : goal.returns-clause-named
returns-clause-named c order spelled =
    named_from line.hkcopy order_named IsHelp IsVersion c.read.result c.args.words.now (search rules) (search rules) order (spelling_is_named order c.args.words.now spelled)

pub returns-clause-help : goal.returns-clause-help
returns-clause-help c = help_from line.hkcopy order_named IsHelp IsVersion c.read.result c.args.words.now plain (search rules) (search rules)

pub returns-clause-version : goal.returns-clause-version
returns-clause-version c = version_from line.hkcopy order_named IsHelp IsVersion c.read.result c.args.words.now plain (search rules) (search rules)

pub returns-clause-values : goal.returns-clause-values
returns-clause-values c = valued_from c.read.result c.args.words.now (search rules)
