use Rattle.std.proofs.Common.{map}
use Rattle.clap.specs.Words.{subcommand_rows_of}
use Rattle.clap_lines.proofs.ParseLemmas.{answer_of_error, answer_of_values, mistake_of_error, mistake_of_values}
use Rattle.command_line.specs.Line as line
use Rattle.command_line.specs.Orders.{IsHelp, IsVersion, order_named}
use Rattle.command_line.proofs.OrderLemmas.{known, ordered}
use Rattle.command_line.proofs.reading.read.Goals as goal

pub returns-in-Err-clause-usage : goal.returns-in-Err-clause-usage
returns-in-Err-clause-usage g c =
    mistake_of_error line.hkms order_named known _ c.in_ok-command.ensures (map g.S.AsStr.text c.args.words.now) c.order_without_command.result c.in-Err.error c.in-Err.ensures.kinds c.order_without_command.ensures.usage

pub returns-in-Err-clause-ok : goal.returns-in-Err-clause-ok
returns-in-Err-clause-ok g c =
    answer_of_error line.hkms order_named known _ c.in_ok-command.ensures (map g.S.AsStr.text c.args.words.now) IsHelp IsVersion c.order_without_command.result c.in-Err.error c.in-Err.ensures.kinds
    c.order_without_command.ensures.shown

pub returns-in-Ok-clause-ok : goal.returns-in-Ok-clause-ok
returns-in-Ok-clause-ok g c =
    answer_of_values line.hkms order_named known _ c.in_ok-command.ensures (map g.S.AsStr.text c.args.words.now) IsHelp IsVersion c.ok_or.result _ c.in-Ok.ensures.kinds (λ s. (c.in-Ok.ensures.matches s).1)
    (ordered c.ok_or.result c.order_of.result (subcommand_rows_of c.in-Ok.matches) c.ok_or.ensures.value c.order_of.ensures)

pub returns-in-Ok-clause-usage : goal.returns-in-Ok-clause-usage
returns-in-Ok-clause-usage g c =
    mistake_of_values line.hkms order_named known _ c.in_ok-command.ensures (map g.S.AsStr.text c.args.words.now) c.ok_or.result _ c.in-Ok.ensures.kinds (λ s. (c.in-Ok.ensures.matches s).1)
    (ordered c.ok_or.result c.order_of.result (subcommand_rows_of c.in-Ok.matches) c.ok_or.ensures.value c.order_of.ensures)
