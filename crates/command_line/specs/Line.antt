-- The program's commands, as clap's parse of its words sees them.
use Rattle.std.specs.Prelude.{codes, pos, true, Some}
use Rattle.clap.specs.Words.{App, Rule, Text, new_app, new_rule, with_rule, with_subcommand}
use Rattle.clap.specs.declared.builder.value_parser.ValueParser.{ValueParser}
use Rattle.clap.specs.declared.builder.value_parser.ValueParser.TheVariants as parser
use Rattle.clap_lines.specs.Folders.{folder_option}

-- the program's own name is not among the words, a command is required, and there is no command `help`
abbrev pub bare : App
bare =
    let new = new_app (codes "hkms") in
    record new {
      top = record new.top { no_binary_name = true; subcommand_required = true; disable_help_subcommand = true; has_version = true };
    }

-- the program itself has the option `--dir`
abbrev pub top : App
top = with_rule bare folder_option

-- one more command, which has no options except help
abbrev pub with_plain : App → Text → App
with_plain program name = with_subcommand program (new_app name).top

-- an option `--name N`, whose value passes this parser
abbrev pub number_option : Text → ValueParser → Rule
number_option name numbers = record (new_rule name) { long = Some name; value_names = 1; parser = Some numbers }

-- clap reads a port as a number from 1 to 65,535
abbrev pub port : Rule
port = number_option (codes "port") (parser.Signed (pos 1) (pos 65535))

-- clap reads a number of connections as one from 1 to 4,294,967,295
abbrev pub conns : Rule
conns = number_option (codes "conns") (parser.Signed (pos 1) (pos 4294967295))

-- clap reads a number of connections at a time as one from 1 to 1,024
abbrev pub connections : Rule
connections = number_option (codes "connections") (parser.Signed (pos 1) (pos 1024))

abbrev pub serve : App
serve = with_rule (with_rule (with_rule (new_app (codes "serve")) port) conns) connections

-- one more command, which is `serve`
abbrev pub with_serve : App → App
with_serve program = with_subcommand program serve.top

-- the number of steps, which has no name on the command line and is required; clap reads it as one from 1 to 20,000
abbrev pub count : Rule
count = record (new_rule (codes "count")) { value_names = 1; parser = Some (parser.Signed (pos 1) (pos 20000)); required = true }

abbrev pub load : App
load = with_rule (new_app (codes "load")) count

-- one more command, which is `load`
abbrev pub with_load : App → App
with_load program = with_subcommand program load.top

-- the program with its commands
abbrev pub hkms : App
hkms = with_plain (with_load (with_serve (with_plain (with_plain top (codes "replay")) (codes "pipe")))) (codes "check")
