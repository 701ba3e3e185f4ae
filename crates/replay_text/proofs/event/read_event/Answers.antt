use Rattle.std.proofs.Common.{◌≡◌, ◌∙◌, ap, true, false, ◌==◌}
use Rattle.replay_text.proofs.FieldLemmas.{not_quiet}
use Rattle.replay_text.proofs.event.read_event.Goals as goal

pub returns-in-Ok-None : goal.returns-in-Ok-None
returns-in-Ok-None c = λ _. record {
  not_quiet = not_quiet c.args.line.now (λ zero. let e : false ≡ true = c.if-is_empty.ensures ∙ ap (λ n. n == 0) zero in cc) c.if-line-eq35.false;
  no_event = λ event spells. (rw c.in-Ok-None.field-0-is at c.in-Ok-None.ensures) event spells.fields;
}
