use Rattle.std.proofs.Common.{◌≡◌, true, false, nat_lt, [], ◌∷◌, refl, ap, sym, subst, arith}
use Rattle.eek_queues.specs.Queues.{AllQueues}
use Rattle.kms_calls.specs.declared.calls.KmsCall.TheVariants.{Generate}
use Rattle.kms_calls.specs.declared.calls.KmsReply.{KmsReply}
use Rattle.kms_calls.specs.declared.calls.KmsReply.TheVariants.{Refused}
use Rattle.kms_calls.specs.declared.calls.KmsRefusal.TheVariants.{NoMemory, NoSuchKey, TooManyAsked}
use Rattle.kms_core.specs.State.{Running, keys_of, service_of}
use Rattle.kms_core.specs.Calls.{CallActs, first_cause}
use Rattle.kms_core.specs.Steps.{IsCurrent, WorksOnQueues}
use Rattle.kms_core.proofs.DepositLemmas.{all_given, current_found, keeps_queues}
use Rattle.kms_core.proofs.StepLemmas.{generates, generates_none, refuses, refuses_many}
use Rattle.kms_core.proofs.service.Service.generate.Goals.{in-Err, in-Ok}
use Rattle.kms_core.proofs.service.Service.generate.Goals as goal

pub returns-in_default : goal.returns-in_default
returns-in_default g c = λ now. record {
  store = refl;
  acts = refuses (keys_of c.args.self.now) (g.W.Words.to_come c.args.words.now) now (Generate c.args.name c.args.count) NoSuchKey _ _ _
      (ap (λ b. first_cause ((b, NoSuchKey) ∷ (nat_lt 1000 c.args.count, TooManyAsked) ∷ [])) c.in_default.ensures) refl refl (λ k. refl);
}

pub returns-then-count-gt-MOST_ASKED : goal.returns-then-count-gt-MOST_ASKED
returns-then-count-gt-MOST_ASKED g c =
    let many : nat_lt 1000 c.args.count ≡ true = grind (arith, c.if-count-gt-MOST_ASKED.true) in
    λ now. record { store = refl; acts = refuses_many (keys_of c.args.self.now) (g.W.Words.to_come c.args.words.now) now c.args.name c.args.count c.in-Some.ensures.stands many }

pub returns : goal.returns
returns g c = λ now.
    let words = g.W.Words.to_come c.args.words.now in
    let words' = g.W.Words.to_come c.hand_out.new.words in
    let r : Running = record { store = c.self.inside.store; next = c.self.inside.next; ready = c.self.inside.queues } in
    let t : Running = record r { ready = c.hand_out.new.queues } in
    let few : nat_lt 1000 c.args.count ≡ false = grind (arith, c.if-count-gt-MOST_ASKED.false) in
    let is : IsCurrent (keys_of r) c.args.name c.in-Some.current = subst (λ (x : Running). IsCurrent (keys_of x) c.args.name c.in-Some.current) (sym c.self.view_is) c.in-Some.ensures in
    let answer : KmsReply → Type 0 = λ reply. CallActs (keys_of r) words now (Generate c.args.name c.args.count) reply (keys_of t) words' in
    subst (λ (x : Running). WorksOnQueues x words now (Generate c.args.name c.args.count) c.match-hand_out.result t words') c.self.view_is
    (elim c.match-hand_out.branch [
      | in-Err w ↦ record {
        store = refl;
        acts = subst answer (sym w.result-is)
            (subst (λ (all : AllQueues). CallActs (keys_of r) words now (Generate c.args.name c.args.count) (Refused NoMemory) (record (keys_of r) { ready = all }) words') (sym w.in-Err.ensures.wanting.0)
            (generates_none (keys_of r) words now c.args.name c.args.count c.in-Some.current words' is few w.in-Err.ensures.wanting.1));
      }
      | in-Ok w ↦ record {
        store = refl;
        acts = subst answer (sym w.result-is) (generates (keys_of r) words now c.args.name c.args.count c.in-Some.current t.ready w.in-Ok.keys words' is few w.in-Ok.ensures.given);
      }
    ])

pub invariant_of-self : goal.invariant_of-self
invariant_of-self g c =
    let r : Running = record { store = c.self.inside.store; next = c.self.inside.next; ready = c.self.inside.queues } in
    let is : IsCurrent (keys_of r) c.args.name c.in-Some.current = subst (λ (x : Running). IsCurrent (keys_of x) c.args.name c.in-Some.current) (sym c.self.view_is) c.in-Some.ensures in
    let row = current_found (keys_of r) c.args.name c.in-Some.current is in
    keeps_queues (service_of r) c.hand_out.new.queues
    (all_given r.store.table.keys.rows r.ready c.hand_out.new.queues c.in-Some.current (g.W.Words.to_come c.args.words.now) (g.W.Words.to_come c.hand_out.new.words) c.args.count row.0
    c.hand_out.result c.hand_out.ensures.given c.hand_out.ensures.wanting row.1 c.self.invariant.5)
    c.self.invariant
