use Rattle.std.proofs.Common.{codes, refl, arith}
use Rattle.clap.specs.Words.{subcommand_of}
use Rattle.fs_command_line.specs.Line as line
use Rattle.fs_command_line.specs.declared.order.FsOrder.TheVariants.{Put}
use Rattle.fs_command_line.proofs.SpellingLemmas.{spelling_is_named}
use Rattle.fs_command_line.proofs.ValueLemmas.{right_values}
use Rattle.fs_command_line.proofs.laws.words_name_their_order.Goals as goal

pub returns-clause-spelled : goal.returns-clause-spelled
returns-clause-spelled c o words s = spelling_is_named o words s

pub returns-clause-right : goal.returns-clause-right
returns-clause-right c o words names = right_values (subcommand_of line.hkfs words) o names.command

pub returns-clause-put : goal.returns-clause-put
returns-clause-put c = spelling_is_named (Put (codes "alice") (codes "/b")) _ ((omega arith, omega arith), (λ e. cc), (λ e. cc), refl)
