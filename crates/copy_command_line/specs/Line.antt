-- The program's commands, as clap's parse of its words sees them.
use Rattle.std.specs.Prelude.{codes, true}
use Rattle.clap.specs.Words.{App, new_app, with_rule, with_subcommand}
use Rattle.clap_lines.specs.Folders.{folder_option}
use Rattle.clap_lines.specs.Told.{word}
use Rattle.read_words.specs.Line.{with_read}

-- the program's own name is not among the words, a command is required, and there is no command `help`
abbrev pub bare : App
bare =
    let new = new_app (codes "hkcopy") in
    record new {
      top = record new.top { no_binary_name = true; subcommand_required = true; disable_help_subcommand = true; has_version = true };
    }

-- the program itself has the option `--dir`
abbrev pub top : App
top = with_rule bare folder_option

abbrev pub copy : App
copy = with_rule (with_rule (new_app (codes "copy")) (word (codes "source"))) (word (codes "target"))

-- one more command, which is `copy`
abbrev pub with_copy : App → App
with_copy program = with_subcommand program copy.top

-- the program with its commands
abbrev pub hkcopy : App
hkcopy = with_read (with_copy top)
