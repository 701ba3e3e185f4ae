use Rattle.std.proofs.Common.{ap, ap₂, codes, ◌≡◌, ◌∙◌}
use Rattle.std.proofs.lemmas.Result.{IfOk-weaker}
use Rattle.clap.specs.Simple.{app_of_fields}
use Rattle.clap.specs.Words.{app_of, new_app, with_rule}
use Rattle.clap_lines.specs.Told.{word}
use Rattle.copy_command_line.proofs.commands.copy.Goals as goal

pub returns : goal.returns
returns c =
    let plain_is : app_of c.after_help-plain.result ≡ new_app (codes "copy") = ap app_of_fields c.after_help-plain.ensures ∙ ap app_of_fields c.about.ensures ∙ c.new.ensures.app in
    let half_is : app_of c.in_ok-half.half ≡ with_rule (new_app (codes "copy")) (word (codes "source")) = c.in_ok-half.ensures.shape c.word.ensures.local ∙ ap₂ with_rule plain_is c.word.ensures.rule in
    IfOk-weaker c.arg-2.result _ _ (λ r h. h.shape c.word-2.ensures.local ∙ ap₂ with_rule half_is c.word-2.ensures.rule) c.arg-2.ensures
