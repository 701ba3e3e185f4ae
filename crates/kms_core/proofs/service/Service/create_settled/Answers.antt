use Rattle.std.proofs.Common.{refl, sym, ◌∙◌}
use Rattle.kms_calls.specs.declared.calls.KmsCall.TheVariants.{Create}
use Rattle.kms_core.specs.State.{keys_of}
use Rattle.kms_core.specs.Calls.{deed}
use Rattle.kms_core.proofs.StepLemmas.{refuses}
use Rattle.kms_core.proofs.ServiceLemmas.{same_commit, settled_enacted, settled_refused}
use Rattle.kms_core.proofs.service.Service.create_settled.Goals as goal

pub returns-in-Some : goal.returns-in-Some
returns-in-Some g c =
    settled_refused (g.D.Disk.state c.args.disk.now) c.args.self.now (g.W.Words.to_come c.args.words.now) c.args.now (Create c.args.name c.args.bits c.args.material c.args.description) c.in-Some.why
    (g.W.Words.to_come c.args.words.now) c.requires.settled
    (refuses (keys_of c.args.self.now) (g.W.Words.to_come c.args.words.now) c.args.now (Create c.args.name c.args.bits c.args.material c.args.description) c.in-Some.why _ _ _ (sym c.create_refusal.ensures ∙ c.in-Some.is) refl refl (λ k. refl))

pub returns : goal.returns
returns g c =
    let s = keys_of c.args.self.now in
    let words = g.W.Words.to_come c.args.words.now in
    let create = Create c.args.name c.args.bits c.args.material c.args.description in
    settled_enacted (g.D.Disk.state c.args.disk.now) (g.D.Disk.state c.add.new.disk) c.args.self.now c.add.new.self words c.args.now create c.add.result _
    refl (sym c.create_refusal.ensures ∙ c.in_default.is) refl
    (same_commit (g.D.Disk.state c.args.disk.now) (g.D.Disk.state c.add.new.disk) c.args.self.now c.add.new.self _ (deed s words c.args.now create) c.add.result refl refl refl
    (rw c.material_for-material.ensures.key at c.add.ensures)) c.material_for-material.ensures.rest
