use Rattle.std.proofs.Common.{ap, ap₂, codes, ◌≡◌, ◌∙◌}
use Rattle.std.proofs.lemmas.Result.{IfOk-weaker}
use Rattle.clap.specs.Simple.{app_of_fields}
use Rattle.clap.specs.Words.{app_of, new_app, with_rule}
use Rattle.command_line.specs.Line as line
use Rattle.command_line.proofs.commands.serve.Goals as goal

pub returns : goal.returns
returns c =
    let plain_is : app_of c.after_help-plain.result ≡ new_app (codes "serve") = ap app_of_fields c.after_help-plain.ensures ∙ ap app_of_fields c.about.ensures ∙ c.new.ensures.app in
    let half_is : app_of c.in_ok-half.half ≡ with_rule (new_app (codes "serve")) line.port = c.in_ok-half.ensures.shape c.port_option.ensures.local ∙ ap₂ with_rule plain_is c.port_option.ensures.rule in
    let most_is : app_of c.in_ok-most.most ≡ with_rule (with_rule (new_app (codes "serve")) line.port) line.conns = c.in_ok-most.ensures.shape c.conns_option.ensures.local ∙ ap₂ with_rule half_is c.conns_option.ensures.rule in
    IfOk-weaker c.arg-3.result _ _ (λ r h. h.shape c.connections_option.ensures.local ∙ ap₂ with_rule most_is c.connections_option.ensures.rule) c.arg-3.ensures
