use Rattle.std.proofs.Common.{ap, ap₂, codes, ◌≡◌, ◌∙◌}
use Rattle.std.proofs.lemmas.Result.{IfOk-weaker}
use Rattle.clap.specs.Simple.{app_of_fields}
use Rattle.clap.specs.Words.{app_of, new_app, with_rule}
use Rattle.clap_lines.specs.Told.{word}
use Rattle.read_words.proofs.command.read.Goals as goal

pub returns : goal.returns
returns c =
    let plain_is : app_of c.after_help-plain.result ≡ new_app (codes "read") = ap app_of_fields c.after_help-plain.ensures ∙ ap app_of_fields c.about.ensures ∙ c.new.ensures.app in
    let one_is : app_of c.in_ok-one.one ≡ with_rule (new_app (codes "read")) (word (codes "user")) = c.in_ok-one.ensures.shape c.word.ensures.local ∙ ap₂ with_rule plain_is c.word.ensures.rule in
    let two_is : app_of c.in_ok-two.two ≡ with_rule (with_rule (new_app (codes "read")) (word (codes "user"))) (word (codes "path")) = c.in_ok-two.ensures.shape c.word-2.ensures.local ∙ ap₂ with_rule one_is c.word-2.ensures.rule in
    let three_is : app_of c.in_ok-three.three ≡ with_rule (with_rule (with_rule (new_app (codes "read")) (word (codes "user"))) (word (codes "path"))) (word (codes "from")) =
    c.in_ok-three.ensures.shape c.word-3.ensures.local ∙ ap₂ with_rule two_is c.word-3.ensures.rule in
    IfOk-weaker c.arg-4.result _ _ (λ r h. h.shape c.word-4.ensures.local ∙ ap₂ with_rule three_is c.word-4.ensures.rule) c.arg-4.ensures
