use Rattle.std.proofs.Common.{◌∙◌, ◌++◌, ap}
use Rattle.std.proofs.lemmas.Result.{on_ok_weaker}
use Rattle.http.specs.StatusCode.{code_digits}
use Rattle.http_wire.specs.Responses.{phrase}
use Rattle.http_wire.proofs.ResponseLemmas.{status_appended}
use Rattle.http_wire.proofs.responses.append_status.Goals as goal

pub returns : goal.returns
returns c = on_ok_weaker c.append-5.result (λ last. status_appended c.args.status c.args.out.now c.append.new.self c.append-2.new.self c.append-3.new.self c.append-4.new.self c.append-5.new.self c.in_ok-append.ensures.ok (c.in_ok-append-2.ensures.ok ∙ ap (λ l. c.append.new.self ++ l) (c.as_bytes.ensures.value ∙ c.as_str.ensures ∙ ap code_digits c.code-code.ensures)) c.in_ok-append-3.ensures.ok (c.in_ok-append-4.ensures.ok ∙ ap (λ l. c.append-3.new.self ++ l) (c.as_bytes-2.ensures.value ∙ c.phrase.ensures ∙ ap phrase c.code-code.ensures)) last) c.append-5.ensures.ok
