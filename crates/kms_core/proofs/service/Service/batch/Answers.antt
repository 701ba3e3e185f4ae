use Rattle.std.proofs.Common.{List, subst}
use Rattle.std.specs.Prelude.{Ok, Err}
use Rattle.kms_calls.specs.declared.calls.KmsCall.TheVariants as call
use Rattle.kms_calls.specs.declared.calls.KmsReply.TheVariants as reply
use Rattle.kms_calls.specs.declared.calls.RawEdek.{RawEdek}
use Rattle.kms_core.specs.Service.{KmsActsOnDisk}
use Rattle.kms_core.proofs.ReadLoops.{acts_on_batch}
use Rattle.kms_core.proofs.service.Service.batch.Goals as goal

pub returns-in-Err : goal.returns-in-Err
returns-in-Err g c = λ words now.
    let D0 = g.D.Disk.state c.args.disk.now in let D1 = g.D.Disk.state c.reseal_all.new.disk in
    subst (λ (sent : List RawEdek). KmsActsOnDisk D0 D1 c.args.self.now words now (call.Batch c.args.name sent) (reply.Refused c.in-Err.why) c.reseal_all.new.self words) c.as_slice.ensures
    (acts_on_batch D0 D1 c.args.self.now c.reseal_all.new.self words now c.args.name c.as_slice.result.now (Err c.in-Err.why) c.in-Err.ensures.reads c.in-Err.ensures.answer tt)

pub returns : goal.returns
returns g c = λ words now.
    let D0 = g.D.Disk.state c.args.disk.now in let D1 = g.D.Disk.state c.reseal_all.new.disk in
    subst (λ (sent : List RawEdek). KmsActsOnDisk D0 D1 c.args.self.now words now (call.Batch c.args.name sent) (reply.Ready c.in-Ok.keys) c.reseal_all.new.self words) c.as_slice.ensures
    (acts_on_batch D0 D1 c.args.self.now c.reseal_all.new.self words now c.args.name c.as_slice.result.now (Ok c.in-Ok.keys) c.in-Ok.ensures.reads c.in-Ok.ensures.answer c.in-Ok.ensures.versions)
