use Rattle.std.proofs.Common.{◌≡◌, true, cond, Some, None, refl, ap, rules}
use Rattle.kms_calls.specs.declared.calls.KmsCall.TheVariants.{Delete}
use Rattle.kms_calls.specs.declared.calls.KmsRefusal.TheVariants.{NoSuchKey}
use Rattle.kms_core.specs.State.{keys_of}
use Rattle.std.specs.Option.{is_none}
use Rattle.kms_core.specs.Calls.{row_of}
use Rattle.kms_core.proofs.StepLemmas.{refuses, stands_born}
use Rattle.kms_core.proofs.ServiceLemmas.{deletes, settled_refused}
use Rattle.kms_core.proofs.service.Service.delete_settled.Goals as goal

pub remove-requires-clause-born : goal.remove-requires-clause-born
remove-requires-clause-born g c = stands_born (keys_of c.args.self.now) c.args.name c.in-Some.key c.in-Some.ensures.known

pub returns-in_default : goal.returns-in_default
returns-in_default g c = λ words now.
    let absent : is_none (row_of (keys_of c.args.self.now) c.args.name) ≡ true = search rules in
    settled_refused (g.D.Disk.state c.args.disk.now) c.args.self.now words now (Delete c.args.name) NoSuchKey words c.requires.settled
    (refuses (keys_of c.args.self.now) words now (Delete c.args.name) NoSuchKey _ _ _ (ap (λ b. cond b (Some NoSuchKey) None) absent) refl refl (λ k. refl))

pub returns : goal.returns
returns g c = λ words now. deletes (g.D.Disk.state c.args.disk.now) (g.D.Disk.state c.remove.new.disk) c.args.self.now c.remove.new.self words now c.args.name c.in-Some.key c.remove.result c.in-Some.ensures.known c.remove.ensures
