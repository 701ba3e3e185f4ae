use Rattle.std.proofs.Common.{refl}
use Rattle.std.specs.Prelude.{Ok, Err}
use Rattle.kms_calls.specs.declared.calls.KmsCall.TheVariants as call
use Rattle.kms_calls.specs.declared.calls.KmsReply.TheVariants as reply
use Rattle.kms_core.specs.State.{keys_of}
use Rattle.kms_core.specs.Calls.{unsealed_dek}
use Rattle.kms_core.proofs.ReadLemmas.{acts_by_reads}
use Rattle.kms_core.proofs.service.Service.decrypt.Goals as goal

pub returns-in-Err : goal.returns-in-Err
returns-in-Err g c = λ words now.
    acts_by_reads (g.D.Disk.state c.args.disk.now) (g.D.Disk.state c.unsealed.new.disk) c.args.self.now c.unsealed.new.self words now (call.Decrypt c.args.name c.args.sent) reply.Key (unsealed_dek (keys_of c.args.self.now) c.args.sent)
    (Err c.in-Err.why) refl refl (λ x why is. absurd cc) c.in-Err.ensures.reads c.in-Err.ensures.answer (λ name sent edeks batch is. absurd cc)

pub returns : goal.returns
returns g c = λ words now.
    acts_by_reads (g.D.Disk.state c.args.disk.now) (g.D.Disk.state c.unsealed.new.disk) c.args.self.now c.unsealed.new.self words now (call.Decrypt c.args.name c.args.sent) reply.Key (unsealed_dek (keys_of c.args.self.now) c.args.sent)
    (Ok c.in-Ok.key) refl refl (λ x why is. absurd cc) c.in-Ok.ensures.reads c.in-Ok.ensures.answer (λ name sent edeks batch is. absurd cc)
