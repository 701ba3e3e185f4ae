use Rattle.std.proofs.Common.{ap, ◌∙◌}
use Rattle.std.proofs.lemmas.Result.{IfOk-weaker}
use Rattle.clap.specs.Words.{App, app_of, with_subcommand}
use Rattle.clap_lines.proofs.PlainLemmas.{third_is_false}
use Rattle.read_words.proofs.command.with_read.Goals as goal

pub returns : goal.returns
returns c =
    IfOk-weaker c.subcommand.result _ _ (λ r h. h.shape (third_is_false _ _ _ _ (ap (λ (a : App). a.top.is_plain) c.in_ok-read.ensures)) ∙ ap (λ (a : App). with_subcommand (app_of c.args.program) a.top) c.in_ok-read.ensures) c.subcommand.ensures
