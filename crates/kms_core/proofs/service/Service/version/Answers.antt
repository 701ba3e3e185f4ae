use Rattle.std.proofs.Common.{refl}
use Rattle.std.specs.Prelude.{Ok, Err}
use Rattle.kms_calls.specs.declared.calls.KmsCall.TheVariants as call
use Rattle.kms_calls.specs.declared.calls.KmsReply.TheVariants as reply
use Rattle.kms_core.specs.State.{keys_of}
use Rattle.key_rows.specs.Table.{material_of}
use Rattle.kms_core.proofs.ReadLemmas.{acts_by_reads}
use Rattle.kms_core.proofs.service.Service.version.Goals as goal

pub returns-in-Err : goal.returns-in-Err
returns-in-Err g c = λ words now.
    acts_by_reads (g.D.Disk.state c.args.disk.now) (g.D.Disk.state c.version_material.new.disk) c.args.self.now c.version_material.new.self words now (call.Version c.args.version) (reply.Version c.args.version) (material_of (keys_of c.args.self.now).table.rows c.args.version)
    (Err c.in-Err.why) refl refl (λ x why is. absurd cc) c.in-Err.ensures.reads c.in-Err.ensures.answer (λ name sent edeks batch is. absurd cc)

pub returns-in-Ok : goal.returns-in-Ok
returns-in-Ok g c = λ words now.
    acts_by_reads (g.D.Disk.state c.args.disk.now) (g.D.Disk.state c.version_material.new.disk) c.args.self.now c.version_material.new.self words now (call.Version c.args.version) (reply.Version c.args.version) (material_of (keys_of c.args.self.now).table.rows c.args.version)
    (Ok c.in-Ok.material) refl refl (λ x why is. absurd cc) c.in-Ok.ensures.reads c.in-Ok.ensures.answer (λ name sent edeks batch is. absurd cc)
