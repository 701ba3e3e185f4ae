use Rattle.std.proofs.Common.{inl, inr, map, refl, sym, ◌∙◌, rules, IsErrOf}
use Rattle.kms_calls.specs.declared.calls.KmsCall.TheVariants as call
use Rattle.kms_calls.specs.declared.calls.KmsRefusal.TheVariants as refusal
use Rattle.kms_core.specs.State.{keys_of}
use Rattle.kms_core.specs.Calls.{resealed}
use Rattle.kms_core.proofs.ReadLemmas.{of_err, reads_more}
use Rattle.kms_core.proofs.ReadLoops.{all_sealed, batch_failed, one_more_key}
use Rattle.kms_core.proofs.SentLemmas.{same_causes}
use Rattle.kms_core.proofs.service.Service.reseal_all.Goals as goal

pub returns-in-Some-batch_refusal-clause-answer : goal.returns-in-Some-batch_refusal-clause-answer
returns-in-Some-batch_refusal-clause-answer g c =
    let has = c.in-Some.ensures.key in
    inl (sym (same_causes (keys_of c.args.self.now) c.args.name.now has.key c.args.sent.now has.found) ∙ sym (c.batch_refusal.ensures has.key has.knows) ∙ c.in-Some-batch_refusal.is)

pub returns-in_err-keys-clause-answer : goal.returns-in_err-keys-clause-answer
returns-in_err-keys-clause-answer g c =
    let s = keys_of c.args.self.now in let has = c.in-Some.ensures.key in
    let now : IsErrOf c.from_residual.result refusal.NoMemory = search rules in
    of_err (g.D.Disk.state c.args.disk.now) (g.D.Disk.state c.args.disk.now) s (call.Batch c.args.name.now c.args.sent.now) (map (resealed s c.args.name.now) c.args.sent.now) c.from_residual.result refusal.NoMemory now
    (inr (sym (same_causes s c.args.name.now has.key c.args.sent.now has.found) ∙ sym (c.batch_refusal.ensures has.key has.knows) ∙ c.in_default-batch_refusal.is, inl (refl, refl)))

pub returns-in_err-key-clause-answer : goal.returns-in_err-key-clause-answer
returns-in_err-key-clause-answer g c =
    let s = keys_of c.args.self.now in let has = c.in-Some.ensures.key in
    let now : IsErrOf c.from_residual-in_err-key.result c.in_err-key.field-0.0 = search rules in
    of_err (g.D.Disk.state c.args.disk.now) (g.D.Disk.state c.resealed.new.disk) s (call.Batch c.args.name.now c.args.sent.now) (map (resealed s c.args.name.now) c.args.sent.now) c.from_residual-in_err-key.result c.in_err-key.field-0.0 now
    (batch_failed (g.D.Disk.state c.args.disk.now) (g.D.Disk.state c.loop-edek.disk) c.args.self.now c.loop-edek.self c.args.name.now c.in-Some.key has c.args.sent.now c.loop-edek.edek-index c.loop-edek.keys c.loop-edek.invariant
    c.loop-edek-test.true c.edek-item.result (sym c.edek-item.is)
    (sym (same_causes s c.args.name.now has.key c.args.sent.now has.found) ∙ sym (c.batch_refusal.ensures has.key has.knows) ∙ c.in_default-batch_refusal.is)
    c.in_err-key.field-0.0 (g.D.Disk.state c.resealed.new.disk) c.in_err-key.ensures.answer)

pub returns-in_err-push-clause-answer : goal.returns-in_err-push-clause-answer
returns-in_err-push-clause-answer g c =
    let s = keys_of c.args.self.now in let has = c.in-Some.ensures.key in
    let now : IsErrOf c.from_residual-in_err-push.result refusal.NoMemory = search rules in
    of_err (g.D.Disk.state c.args.disk.now) (g.D.Disk.state c.resealed.new.disk) s (call.Batch c.args.name.now c.args.sent.now) (map (resealed s c.args.name.now) c.args.sent.now) c.from_residual-in_err-push.result refusal.NoMemory now
    (inr (sym (same_causes s c.args.name.now has.key c.args.sent.now has.found) ∙ sym (c.batch_refusal.ensures has.key has.knows) ∙ c.in_default-batch_refusal.is, inl (refl, refl)))

pub returns-in_err-key-clause-reads : goal.returns-in_err-key-clause-reads
returns-in_err-key-clause-reads g c =
    reads_more (g.D.Disk.state c.args.disk.now) (g.D.Disk.state c.loop-edek.disk) (g.D.Disk.state c.resealed.new.disk) c.args.self.now c.loop-edek.self c.resealed.new.self c.loop-edek.invariant.reads c.in_err-key.ensures.reads

pub returns-in_err-push-clause-reads : goal.returns-in_err-push-clause-reads
returns-in_err-push-clause-reads g c =
    reads_more (g.D.Disk.state c.args.disk.now) (g.D.Disk.state c.loop-edek.disk) (g.D.Disk.state c.resealed.new.disk) c.args.self.now c.loop-edek.self c.resealed.new.self c.loop-edek.invariant.reads c.in_ok-key.ensures.reads

pub loop-edek-preserved : goal.loop-edek-preserved
loop-edek-preserved g c =
    let s = keys_of c.args.self.now in let has = c.in-Some.ensures.key in
    one_more_key (g.D.Disk.state c.args.disk.now) (g.D.Disk.state c.loop-edek.disk) c.args.self.now c.loop-edek.self c.args.name.now c.in-Some.key has c.args.sent.now c.loop-edek.edek-index c.loop-edek.keys c.loop-edek.invariant
    c.loop-edek-test.true c.edek-item.result (sym c.edek-item.is)
    (sym (same_causes s c.args.name.now has.key c.args.sent.now has.found) ∙ sym (c.batch_refusal.ensures has.key has.knows) ∙ c.in_default-batch_refusal.is)
    (g.D.Disk.state c.resealed.new.disk) c.resealed.new.self c.in_ok-key.key c.push.new.self c.in_ok-key.ensures.reads c.in_ok-key.ensures.answer c.in_ok-key.ensures.version c.in_ok-push.ensures.ok

pub returns-clause-answer : goal.returns-clause-answer
returns-clause-answer g c =
    let s = keys_of c.args.self.now in let has = c.in-Some.ensures.key in
    all_sealed (g.D.Disk.state c.args.disk.now) (g.D.Disk.state c.loop-edek.disk) c.args.self.now c.loop-edek.self c.args.name.now c.args.sent.now c.loop-edek.edek-index c.loop-edek.keys c.loop-edek.invariant c.loop-edek-test.false
    (sym (same_causes s c.args.name.now has.key c.args.sent.now has.found) ∙ sym (c.batch_refusal.ensures has.key has.knows) ∙ c.in_default-batch_refusal.is)
