use Rattle.std.proofs.Common.{◌≡◌, None, Some, Option, cond, refl, ap, sym, ◌∙◌, subst}
use Rattle.std.specs.Prelude.{is_none}
use Rattle.key_rows.specs.declared.rows.KeyRow.{KeyRow}
use Rattle.eek_queues.specs.Queues.{AllQueues}
use Rattle.kms_calls.specs.declared.calls.KmsReply.TheVariants.{Done}
use Rattle.kms_calls.specs.declared.calls.KmsCall.TheVariants.{Invalidate}
use Rattle.kms_calls.specs.declared.calls.KmsRefusal.TheVariants.{NoSuchKey}
use Rattle.kms_core.specs.State.{AllReady, Running, keys_of, service_of}
use Rattle.kms_core.specs.Calls.{CallActs, birth_of, row_of}
use Rattle.kms_core.specs.Steps.{WorksOnQueues}
use Rattle.kms_core.proofs.DepositLemmas.{all_emptied, keeps_queues}
use Rattle.kms_core.proofs.StepLemmas.{invalidates, refuses}
use Rattle.kms_core.proofs.service.Service.invalidate.Goals as goal

pub returns-in_default : goal.returns-in_default
returns-in_default c = λ words now. record {
  store = refl;
  acts = refuses (keys_of c.args.self.now) words now (Invalidate c.args.name) NoSuchKey _ _ _ (ap (λ (o : Option KeyRow). cond (is_none o) (Some NoSuchKey) None) c.in_default.ensures) refl refl (λ k. refl);
}

pub returns : goal.returns
returns c = λ words now.
    let r : Running = record { store = c.self.inside.store; next = c.self.inside.next; ready = c.self.inside.queues } in
    let found : row_of (keys_of r) c.args.name ≡ Some c.in-Some.ensures.key = ap (λ (x : Running). row_of (keys_of x) c.args.name) c.self.view_is ∙ c.in-Some.ensures.is in
    subst (λ (x : Running). WorksOnQueues x words now (Invalidate c.args.name) Done (record r { ready = c.drain.new.self }) words) c.self.view_is
    (record {
      store = refl;
      acts = subst (λ (all : AllQueues). CallActs (keys_of r) words now (Invalidate c.args.name) Done (record (keys_of r) { ready = all }) words) (sym c.drain.ensures)
          (invalidates (keys_of r) words now c.args.name c.in-Some.row.now.birth (ap is_none found) (c.in-Some.ensures.shows.birth ∙ ap birth_of (sym found)));
    })

pub invariant_of-self : goal.invariant_of-self
invariant_of-self c =
    let r : Running = record { store = c.self.inside.store; next = c.self.inside.next; ready = c.self.inside.queues } in
    keeps_queues (service_of r) c.drain.new.self
    (subst (λ (all : AllQueues). AllReady r.store.table.keys.rows all.queues) (sym c.drain.ensures) (all_emptied r.store.table.keys.rows r.ready c.in-Some.row.now.birth c.self.invariant.5)) c.self.invariant
