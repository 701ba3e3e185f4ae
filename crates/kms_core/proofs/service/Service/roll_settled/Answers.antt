use Rattle.std.proofs.Common.{◌≡◌, Some, refl, sym, arith, rules}
use Rattle.kms_calls.specs.declared.calls.KmsCall.TheVariants.{Roll}
use Rattle.kms_calls.specs.declared.calls.KmsRefusal.TheVariants.{NoSuchKey, BadMaterial, TooManyVersions}
use Rattle.kms_core.specs.Calls.{first_cause, roll_causes, row_of}
use Rattle.kms_core.proofs.StepLemmas.{refuses}
use Rattle.kms_core.specs.State.{keys_of}
use Rattle.kms_core.proofs.ServiceLemmas.{rolls, settled_refused}
use Rattle.kms_core.proofs.service.Service.roll_settled.Goals as goal

pub returns-in_default : goal.returns-in_default
returns-in_default g c =
    let s = keys_of c.args.self.now in
    let words = g.W.Words.to_come c.args.words.now in
    let cause : first_cause (roll_causes (row_of s c.args.name) c.args.material) ≡ Some NoSuchKey = search rules in
    settled_refused (g.D.Disk.state c.args.disk.now) c.args.self.now words c.args.now (Roll c.args.name c.args.material) NoSuchKey words c.requires.settled
    (refuses s words c.args.now (Roll c.args.name c.args.material) NoSuchKey _ _ _ cause refl refl (λ k. refl))

pub returns-then-is_misfit : goal.returns-then-is_misfit
returns-then-is_misfit g c =
    let s = keys_of c.args.self.now in
    let words = g.W.Words.to_come c.args.words.now in
    let cause : first_cause (roll_causes (row_of s c.args.name) c.args.material) ≡ Some BadMaterial = search rules in
    settled_refused (g.D.Disk.state c.args.disk.now) c.args.self.now words c.args.now (Roll c.args.name c.args.material) BadMaterial words c.requires.settled
    (refuses s words c.args.now (Roll c.args.name c.args.material) BadMaterial _ _ _ cause refl refl (λ k. refl))

pub returns-then-key-ge-MOST_VERSIONS : goal.returns-then-key-ge-MOST_VERSIONS
returns-then-key-ge-MOST_VERSIONS g c =
    let s = keys_of c.args.self.now in
    let words = g.W.Words.to_come c.args.words.now in
    let cause : first_cause (roll_causes (row_of s c.args.name) c.args.material) ≡ Some TooManyVersions = search rules in
    settled_refused (g.D.Disk.state c.args.disk.now) c.args.self.now words c.args.now (Roll c.args.name c.args.material) TooManyVersions words c.requires.settled
    (refuses s words c.args.now (Roll c.args.name c.args.material) TooManyVersions _ _ _ cause refl refl (λ k. refl))

pub returns : goal.returns
returns g c =
    rolls (g.D.Disk.state c.args.disk.now) (g.D.Disk.state c.add_version.new.disk) c.args.self.now c.add_version.new.self (g.W.Words.to_come c.args.words.now) c.args.now c.args.name c.args.material
    c.in-Some.key c.material_for-material.result c.add_version.result _ c.in-Some.ensures.known (sym c.if-is_misfit.ensures) (omega arith) c.material_for-material.ensures.key c.material_for-material.ensures.rest c.add_version.ensures
