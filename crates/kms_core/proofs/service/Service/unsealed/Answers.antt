use Rattle.std.proofs.Common.{inl, inr, refl, rules, IsErrOf}
use Rattle.kms_calls.specs.declared.calls.KmsCall.TheVariants as call
use Rattle.kms_core.specs.State.{keys_of}
use Rattle.kms_core.specs.Calls.{unsealed_dek}
use Rattle.kms_core.proofs.KnownLemmas.{as_long, exists, free, not_free, of_birth, opens}
use Rattle.kms_core.proofs.ReadLemmas.{of_err}
use Rattle.kms_core.proofs.service.Service.unsealed.Goals as goal

pub returns-in_err-parts-clause-answer : goal.returns-in_err-parts-clause-answer
returns-in_err-parts-clause-answer g c =
    let s = keys_of c.args.self.now in let has = c.in-Some.ensures.key in
    let now : IsErrOf c.from_residual.result c.in_err-parts.field-0.0 = search rules in
    of_err (g.D.Disk.state c.args.disk.now) (g.D.Disk.state c.args.disk.now) s (call.Decrypt c.args.name.now c.args.sent.now) (unsealed_dek s c.args.sent.now) c.from_residual.result c.in_err-parts.field-0.0 now
    (inl (not_free s c.args.name.now c.in-Some.key has c.args.sent.now c.in_err-parts.field-0.0 (c.in_err-parts.ensures has.key has.knows)))

pub material-requires-clause-exists : goal.material-requires-clause-exists
material-requires-clause-exists g c =
    let has = c.in-Some.ensures.key in
    exists (keys_of c.args.self.now) c.args.name.now c.in-Some.key has c.args.sent.now c.in_ok-parts.parts (c.in_ok-parts.ensures has.key has.knows)

pub material-requires-clause-birth : goal.material-requires-clause-birth
material-requires-clause-birth g c =
    let has = c.in-Some.ensures.key in
    of_birth (keys_of c.args.self.now) c.args.name.now c.in-Some.key has c.args.sent.now c.in_ok-parts.parts (c.in_ok-parts.ensures has.key has.knows)

pub returns-in_err-material-clause-answer : goal.returns-in_err-material-clause-answer
returns-in_err-material-clause-answer g c =
    let s = keys_of c.args.self.now in let has = c.in-Some.ensures.key in
    let failed = c.in_err-material.ensures.fails c.in_err-material.field-0.0 refl in
    let now : IsErrOf c.from_residual-in_err-material.result c.in_err-material.field-0.0 = search rules in
    of_err (g.D.Disk.state c.args.disk.now) (g.D.Disk.state c.material.new.disk) s (call.Decrypt c.args.name.now c.args.sent.now) (unsealed_dek s c.args.sent.now) c.from_residual-in_err-material.result c.in_err-material.field-0.0 now
    (inr (free s c.args.name.now c.in-Some.key has c.args.sent.now c.in_ok-parts.parts (c.in_ok-parts.ensures has.key has.knows), inr (failed.1.0, failed.1.1, failed.0)))

pub unseal-requires : goal.unseal-requires
unseal-requires g c =
    let has = c.in-Some.ensures.key in
    as_long (keys_of c.args.self.now) c.args.name.now c.in-Some.key has c.args.sent.now c.in_ok-parts.parts (c.in_ok-parts.ensures has.key has.knows) c.in_ok-material.material c.in_ok-material.ensures.length

pub returns-clause-answer : goal.returns-clause-answer
returns-clause-answer g c =
    let s = keys_of c.args.self.now in let has = c.in-Some.ensures.key in let checks = c.in_ok-parts.ensures has.key has.knows in (
      free s c.args.name.now c.in-Some.key has c.args.sent.now c.in_ok-parts.parts checks,
      λ telling. opens s c.args.name.now c.in-Some.key has c.args.sent.now c.in_ok-parts.parts checks c.in_ok-material.material c.unseal.result (c.in_ok-material.ensures.given telling) c.unseal.ensures.opened,
    )
