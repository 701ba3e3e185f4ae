-- The program's commands, as clap's parse of its words sees them.
use Rattle.std.specs.Prelude.{codes, true}
use Rattle.clap.specs.Words.{App, new_app, with_rule, with_subcommand}
use Rattle.clap_lines.specs.Folders.{folder_option}
use Rattle.clap_lines.specs.Told.{word}
use Rattle.read_words.specs.Line.{with_read}

-- the program's own name is not among the words, a command is required, and there is no command `help`
abbrev pub bare : App
bare =
    let new = new_app (codes "hkfs") in
    record new {
      top = record new.top { no_binary_name = true; subcommand_required = true; disable_help_subcommand = true; has_version = true };
    }

-- the program itself has the option `--dir`
abbrev pub top : App
top = with_rule bare folder_option

abbrev pub put : App
put = with_rule (with_rule (new_app (codes "put")) (word (codes "user"))) (word (codes "path"))

-- one more command, which is `put`
abbrev pub with_put : App → App
with_put program = with_subcommand program put.top

-- the program with its commands
abbrev pub hkfs : App
hkfs = with_read (with_put top)
