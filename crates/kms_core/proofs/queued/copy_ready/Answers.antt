use Rattle.std.proofs.Common.{◌∙◌, ap, sym, ◌∷◌, ◌++◌, []}
use Rattle.eek_queues.specs.Queues.{ready_in}
use Rattle.kms_core.proofs.QueueLemmas.{one_more_taken}
use Rattle.kms_core.proofs.queued.copy_ready.Goals as goal

pub loop-position-preserved : goal.loop-position-preserved
loop-position-preserved c =
    c.in_ok-push-in-Some.ensures.ok ∙ ap (λ keys. keys ++ c.in-Some.key ∷ []) c.loop-position.invariant
    ∙ sym (one_more_taken (ready_in c.args.queues.now.queues c.args.birth) c.loop-position.position c.in-Some.key (sym c.get.ensures ∙ c.in-Some.is))
