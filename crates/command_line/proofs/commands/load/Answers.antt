use Rattle.std.proofs.Common.{ap, ap₂, codes, ◌≡◌, ◌∙◌}
use Rattle.std.proofs.lemmas.Result.{IfOk-weaker}
use Rattle.clap.specs.Simple.{app_of_fields}
use Rattle.clap.specs.Words.{app_of, new_app, with_rule}
use Rattle.command_line.proofs.commands.load.Goals as goal

pub returns : goal.returns
returns c =
    let plain_is : app_of c.after_help-plain.result ≡ new_app (codes "load") = ap app_of_fields c.after_help-plain.ensures ∙ ap app_of_fields c.about.ensures ∙ c.new.ensures.app in
    IfOk-weaker c.arg.result _ _ (λ r h. h.shape c.count_argument.ensures.local ∙ ap₂ with_rule plain_is c.count_argument.ensures.rule) c.arg.ensures
