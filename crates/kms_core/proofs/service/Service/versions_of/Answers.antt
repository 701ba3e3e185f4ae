use Rattle.std.proofs.Common.{refl, rules, IsErrOf}
use Rattle.kms_calls.specs.declared.calls.KmsCall.TheVariants as call
use Rattle.kms_core.specs.State.{keys_of}
use Rattle.kms_core.specs.Calls.{all_versions, row_of}
use Rattle.kms_core.proofs.ReadLemmas.{of_err, reads_nothing}
use Rattle.kms_core.proofs.ReadLoops.{number_birth, number_exists, one_more, version_failed}
use Rattle.kms_core.proofs.service.Service.versions_of.Goals as goal

pub loop-number-init : goal.loop-number-init
loop-number-init g c = record {
  reads = reads_nothing (g.D.Disk.state c.args.disk.now) c.args.self.now c.requires.pending;
  has = c.requires.key;
  count_is = c.requires.key.knows.versions;
  are = λ telling. c.in_ok-versions.ensures;
}

pub material-requires-clause-exists : goal.material-requires-clause-exists
material-requires-clause-exists g c =
    number_exists (g.D.Disk.state c.args.disk.now) (g.D.Disk.state c.loop-number.disk) c.args.self.now c.loop-number.self c.args.name.now c.args.known.now c.args.known.now.versions c.loop-number.number c.loop-number.versions
    c.loop-number.invariant c.loop-number-test.true

pub material-requires-clause-birth : goal.material-requires-clause-birth
material-requires-clause-birth g c =
    number_birth (g.D.Disk.state c.args.disk.now) (g.D.Disk.state c.loop-number.disk) c.args.self.now c.loop-number.self c.args.name.now c.args.known.now c.args.known.now.versions c.loop-number.number c.loop-number.versions
    c.loop-number.invariant c.loop-number-test.true

pub returns-in_err-material-clause-answer : goal.returns-in_err-material-clause-answer
returns-in_err-material-clause-answer g c =
    let s = keys_of c.args.self.now in
    let now : IsErrOf c.from_residual-in_err-material.result c.in_err-material.field-0.0 = search rules in
    of_err (g.D.Disk.state c.args.disk.now) (g.D.Disk.state c.material.new.disk) s (call.Versions c.args.name.now) (all_versions (row_of s c.args.name.now)) c.from_residual-in_err-material.result c.in_err-material.field-0.0 now
    (version_failed (g.D.Disk.state c.args.disk.now) (g.D.Disk.state c.loop-number.disk) c.args.self.now c.loop-number.self c.args.name.now c.args.known.now c.args.known.now.versions c.loop-number.number c.loop-number.versions
    c.loop-number.invariant c.loop-number-test.true c.in_err-material.field-0.0 (g.D.Disk.state c.material.new.disk) (c.in_err-material.ensures.fails c.in_err-material.field-0.0 refl))

pub loop-number-preserved : goal.loop-number-preserved
loop-number-preserved g c =
    one_more (g.D.Disk.state c.args.disk.now) (g.D.Disk.state c.loop-number.disk) c.args.self.now c.loop-number.self c.args.name.now c.args.known.now c.args.known.now.versions c.loop-number.number c.loop-number.versions
    c.loop-number.invariant c.loop-number-test.true (g.D.Disk.state c.material.new.disk) c.material.new.self c.in_ok-material.material c.push.new.self c.in_ok-material.ensures.reads c.in_ok-material.ensures.given c.in_ok-push.ensures.ok
