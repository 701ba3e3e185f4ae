use Rattle.std.proofs.Common.{◌≡◌, ◌-◌, ◌∙◌, ap, length, subst, ℕ}
use Rattle.eek_queues.specs.Queues.{ready_in}
use Rattle.kms_core.specs.Steps.{DrewSome}
use Rattle.kms_core.proofs.QueueLemmas.{drew_all, on_err}
use Rattle.kms_core.proofs.queued.hand_out.Goals as goal

pub returns-in_err-make_queue-clause-wanting : goal.returns-in_err-make_queue-clause-wanting
returns-in_err-make_queue-clause-wanting g c =
    let words = g.W.Words.to_come c.args.words.now in
    let words' = g.W.Words.to_come c.draw_edeks.new.words in
    let rest : c.saturating_sub-rest.result ≡ c.args.count - length (ready_in c.args.queues.now.queues c.args.current.now.birth) = c.saturating_sub-rest.ensures ∙ ap (λ n. c.args.count - n) c.length.ensures.length in
    on_err _ c.from_residual-in_err-make_queue.result (
      c.in_err-make_queue.ensures.err,
      subst (λ (n : ℕ). DrewSome c.args.current.now words words' n) rest (drew_all c.args.current.now words words' c.saturating_sub-rest.result c.in_ok-ready.ready c.in_ok-keys.keys c.in_ok-keys.ensures),
    )
