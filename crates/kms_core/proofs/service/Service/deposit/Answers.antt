use Rattle.std.proofs.Common.{ap, sym, ◌∙◌}
use Rattle.kms_core.specs.State.{keys_of}
use Rattle.kms_core.specs.Ready.{queues_with}
use Rattle.eek_seal.specs.declared.deposit.Deposit.{Deposit}
use Rattle.kms_core.proofs.DepositLemmas.{answers_stale, answers_unqueued, present_newest}
use Rattle.kms_core.proofs.service.Service.deposit.Goals as goal

pub returns-then-not-is_present-clause-answer : goal.returns-then-not-is_present-clause-answer
returns-then-not-is_present-clause-answer c = c.stale.ensures ∙ answers_stale (keys_of c.args.self.now) c.args.sealed (sym c.is_present.ensures ∙ c.if-not-is_present.true)

pub returns-then-not-is_present-clause-queues : goal.returns-then-not-is_present-clause-queues
returns-then-not-is_present-clause-queues c = ap (λ (d : Deposit). record c.args.self.now { ready = queues_with c.args.self.now.ready c.args.sealed d }) (sym c.stale.ensures)

pub returns-then-not-has_queue-clause-answer : goal.returns-then-not-has_queue-clause-answer
returns-then-not-has_queue-clause-answer c =
    answers_unqueued (keys_of c.args.self.now) c.args.sealed (sym c.is_present.ensures ∙ c.if-not-is_present.false) (sym c.has_queue.ensures ∙ c.if-not-has_queue.true)

pub put-requires-clause-key : goal.put-requires-clause-key
put-requires-clause-key c = present_newest (keys_of c.args.self.now) c.args.sealed c.count.ensures.rules.table (sym c.is_present.ensures ∙ c.if-not-is_present.false)
