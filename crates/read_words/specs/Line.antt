-- The command `read`, as clap's parse of its words sees it.
use Rattle.std.specs.Prelude.{codes}
use Rattle.clap.specs.Words.{App, new_app, with_rule, with_subcommand}
use Rattle.clap_lines.specs.Told.{word}

abbrev pub read : App
read = with_rule (with_rule (with_rule (with_rule (new_app (codes "read")) (word (codes "user"))) (word (codes "path"))) (word (codes "from"))) (word (codes "count"))

-- one more command, which is `read`
abbrev pub with_read : App → App
with_read program = with_subcommand program read.top
