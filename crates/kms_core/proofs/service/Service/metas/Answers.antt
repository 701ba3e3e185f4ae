use Rattle.std.proofs.Common.{◌≡◌, sym, ◌∙◌, ap, rules}
use Rattle.std.proofs.lemmas.List.{take_all}
use Rattle.kms_calls.specs.declared.calls.KmsRefusal.TheVariants.{NoMemory}
use Rattle.kms_core.specs.Calls.{metas_of}
use Rattle.kms_core.specs.State.{keys_of}
use Rattle.kms_core.proofs.AnswerLemmas.{one_more_known, only_wanting}
use Rattle.kms_core.proofs.service.Service.metas.Goals as goal

pub returns-in_err-meta : goal.returns-in_err-meta
returns-in_err-meta c =
    let only : c.in_err-meta.field-0.0 ≡ NoMemory =
    only_wanting (keys_of c.args.self.now) c.args.names.now c.loop-name.name-index c.name-item.result _ c.requires c.loop-name-test.true (sym c.name-item.is) c.in_err-meta.ensures in
    search rules

pub loop-name-preserved : goal.loop-name-preserved
loop-name-preserved c =
    one_more_known (keys_of c.args.self.now) c.args.names.now c.loop-name.name-index c.name-item.result c.loop-name.known _ c.in_ok-meta.meta
    c.loop-name-test.true (sym c.name-item.is) c.loop-name.invariant c.in_ok-meta.ensures.1 c.in_ok-push.ensures.ok

pub returns : goal.returns
returns c = c.loop-name.invariant ∙ ap (metas_of (keys_of c.args.self.now)) (take_all c.loop-name.name-index c.args.names.now c.loop-name-test.false)
