use Rattle.std.proofs.Common.{sym, ◌∙◌}
use Rattle.kms_acls.specs.Lists.{stands}
use Rattle.kms_acls.specs.Verdict.{key_denial}
use Rattle.kms_acls.proofs.StandingLemmas.{first_denies, first_passes, none_denies}
use Rattle.kms_acls.proofs.acls.Acls.denial_by_keys.Goals as goal

pub returns-in-Some : goal.returns-in-Some
returns-in-Some c =
    sym (c.loop-key.invariant ∙ first_denies (key_denial (stands c.args.self.now c.args.user.now) c.args.op) c.args.keys.now c.loop-key.key-index c.key-item.result c.in-Some.denied c.loop-key-test.true c.key-item.is (sym c.key_denial.ensures ∙ c.in-Some.is))

pub loop-key-preserved : goal.loop-key-preserved
loop-key-preserved c =
    c.loop-key.invariant ∙ first_passes (key_denial (stands c.args.self.now c.args.user.now) c.args.op) c.args.keys.now c.loop-key.key-index c.key-item.result c.loop-key-test.true c.key-item.is (sym c.key_denial.ensures ∙ c.in_default.is)

pub returns : goal.returns
returns c = sym (c.loop-key.invariant ∙ none_denies (key_denial (stands c.args.self.now c.args.user.now) c.args.op) c.args.keys.now c.loop-key.key-index c.loop-key-test.false)
