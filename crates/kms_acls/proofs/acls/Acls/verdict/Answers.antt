use Rattle.std.proofs.Common.{ap, sym, ◌∙◌, is_some}
use Rattle.kms_acls.specs.Lists.{stands}
use Rattle.kms_acls.proofs.StandingLemmas.{denied_by_none, denied_first, denied_second, same_verdict}
use Rattle.kms_acls.proofs.acls.Acls.verdict.Goals as goal

pub returns-in-Some : goal.returns-in-Some
returns-in-Some c = λ lines s.
    let asked = c.asked_by-asked.ensures in
    denied_first _ _ _ _ c.in-Some.denied
    (same_verdict c.args.self.now lines s c.args.user.now _ (c.as_bytes-user.ensures.value ∙ c.as_str.ensures) c.args.call.now _ _ _ _ asked.service asked.material asked.on_keys asked.keys)
    (sym c.denial_by_service.ensures ∙ c.in-Some.is)

pub returns-in-Some-denial_by_keys : goal.returns-in-Some-denial_by_keys
returns-in-Some-denial_by_keys c = λ lines s.
    let asked = c.asked_by-asked.ensures in
    denied_second _ _ _ _ c.in-Some-denial_by_keys.denied
    (same_verdict c.args.self.now lines s c.args.user.now _ (c.as_bytes-user.ensures.value ∙ c.as_str.ensures) c.args.call.now _ _ _ _ asked.service asked.material asked.on_keys asked.keys)
    (sym c.denial_by_service.ensures ∙ c.in_default.is)
    (sym c.denial_by_keys.ensures ∙ c.in-Some-denial_by_keys.is)

pub returns : goal.returns
returns c = λ lines s.
    let asked = c.asked_by-asked.ensures in
    denied_by_none _ (stands c.args.self.now c.as_bytes-user.result.now) _ _ c.is_none-material.result
    (same_verdict c.args.self.now lines s c.args.user.now _ (c.as_bytes-user.ensures.value ∙ c.as_str.ensures) c.args.call.now _ _ _ _ asked.service asked.material asked.on_keys asked.keys)
    (sym c.denial_by_service.ensures ∙ c.in_default.is)
    (sym c.denial_by_keys.ensures ∙ c.in_default-denial_by_keys.is)
    (ap is_some (sym c.service_denial.ensures) ∙ c.is_none-material.ensures)
