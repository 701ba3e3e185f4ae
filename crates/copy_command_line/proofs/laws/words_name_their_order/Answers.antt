use Rattle.std.proofs.Common.{codes, refl}
use Rattle.clap.specs.Words.{subcommand_of}
use Rattle.copy_command_line.specs.Line as line
use Rattle.copy_command_line.specs.declared.order.CopyOrder.TheVariants.{Copy}
use Rattle.copy_command_line.proofs.SpellingLemmas.{spelling_is_named}
use Rattle.copy_command_line.proofs.ValueLemmas.{right_values}
use Rattle.copy_command_line.proofs.laws.words_name_their_order.Goals as goal

pub returns-clause-spelled : goal.returns-clause-spelled
returns-clause-spelled c o words s = spelling_is_named o words s

pub returns-clause-right : goal.returns-clause-right
returns-clause-right c o words names = right_values (subcommand_of line.hkcopy words) o names.command

pub returns-clause-copy : goal.returns-clause-copy
returns-clause-copy c = spelling_is_named (Copy (codes "/.reserved/raw/z") (codes "/w")) _ ((λ e. cc), (λ e. cc), refl)
