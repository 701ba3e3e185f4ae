use Rattle.std.proofs.Common.{sym}
use Rattle.kms_rest.proofs.QueryLemmas.{names_pushed, names_refused, names_skip}
use Rattle.kms_rest.proofs.query.names_in.Goals as goal

pub parameters-preserved-then-not-names_a_key : goal.parameters-preserved-then-not-names_a_key
parameters-preserved-then-not-names_a_key c =
    names_skip c.args.parameters.now c.parameters.parameter-index c.parameter-item.result c.parameters.names c.parameters-test.true c.parameter-item.is (sym c.if-not-names_a_key.ensures) c.parameters.invariant

pub returns-in_default : goal.returns-in_default
returns-in_default c =
    names_refused c.args.parameters.now c.parameters.parameter-index c.parameter-item.result c.as_slice.result.now c.parameters-test.true c.parameter-item.is (sym c.if-not-names_a_key.ensures) c.as_slice.ensures c.in_default.ensures

pub parameters-preserved : goal.parameters-preserved
parameters-preserved c =
    names_pushed c.args.parameters.now c.parameters.parameter-index c.parameter-item.result c.parameters.names c.push.new.self c.in-Some.name c.as_slice.result.now c.parameters-test.true c.parameter-item.is (sym c.if-not-names_a_key.ensures)
    c.as_slice.ensures c.in-Some.ensures.0 c.in-Some.ensures.1 c.in_ok-push.ensures.ok c.parameters.invariant
