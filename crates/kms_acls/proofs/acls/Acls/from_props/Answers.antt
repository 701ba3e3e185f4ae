use Rattle.std.proofs.Common.{subst, ◌∙◌, take}
use Rattle.kms_acls.specs.Agreement.{AreListsOf}
use Rattle.kms_acls.proofs.StandingLemmas.{all_taken, one_more_taken}
use Rattle.kms_acls.proofs.acls.Acls.from_props.Goals as goal

pub loop-line-preserved : goal.loop-line-preserved
loop-line-preserved c =
    subst (AreListsOf c.add.new.self) (one_more_taken c.as_slice-line-items.result.now c.loop-line.line-index c.line-item.result c.loop-line-test.true c.line-item.is) (c.in_ok-add.ensures (take c.loop-line.line-index c.as_slice-line-items.result.now) c.loop-line.invariant)

pub returns : goal.returns
returns c = subst (AreListsOf c.loop-line.acls) (all_taken c.as_slice-line-items.result.now c.loop-line.line-index c.loop-line-test.false ∙ c.as_slice-line-items.ensures) c.loop-line.invariant
