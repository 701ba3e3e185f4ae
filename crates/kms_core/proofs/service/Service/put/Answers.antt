use Rattle.std.proofs.Common.{◌≡◌, ℕ, [], ◌∷◌, ◌++◌, length, true, false, refl, ap, sym, ◌∙◌, subst}
use Rattle.eek_seal.specs.Tickets.{SealedKey}
use Rattle.eek_queues.specs.Queues.{AllQueues, has_queue, ready_in, set_ready}
use Rattle.kms_core.specs.State.{AllReady, Running, keys_of, service_of}
use Rattle.kms_core.specs.Steps.{IsOfNewest}
use Rattle.kms_core.specs.Ready.{deposit_answer, is_present, queues_with, with_sealed}
use Rattle.eek_seal.specs.declared.deposit.Deposit.{Deposit}
use Rattle.kms_core.proofs.DepositLemmas.{all_deposited, keeps_queues, answers_full, answers_kept}
use Rattle.kms_core.proofs.service.Service.put.Goals.{in-Ok, in-Err}
use Rattle.kms_core.proofs.service.Service.put.Goals as goal

pub put-requires : goal.put-requires
put-requires c =
    subst (λ (x : Running). has_queue x.ready.queues c.sealed.inside.birth ≡ true) (sym c.self.view_is)
    (subst (λ (x : SealedKey). has_queue c.args.self.now.ready.queues x.birth ≡ true) (sym c.sealed.view_is) c.requires.queue)

pub invariant_of-self : goal.invariant_of-self
invariant_of-self c =
    let r : Running = record { store = c.self.inside.store; next = c.self.inside.next; ready = c.self.inside.queues } in
    let is : IsOfNewest (keys_of r) c.args.sealed.now = subst (λ (x : Running). IsOfNewest (keys_of x) c.args.sealed.now) (sym c.self.view_is) c.requires.key in
    let birth : c.sealed.inside.birth ≡ c.args.sealed.now.birth = ap (λ (x : SealedKey). x.birth) c.sealed.view_is in
    let each : AllReady r.store.table.keys.rows c.put.new.self.queues = elim c.match-put.branch [
      | in-Ok w ↦
          let kept : c.put.new.self ≡ with_sealed r.ready c.args.sealed.now =
          w.in-Ok.ensures.ok ∙ (λ i. record r.ready { queues = set_ready r.ready.queues (birth i) (ready_in r.ready.queues (birth i) ++ c.edek.ensures.edek i ∷ []) }) in
          subst (λ (all : AllQueues). AllReady r.store.table.keys.rows all.queues) (sym kept) (all_deposited (keys_of r) c.args.sealed.now is c.self.invariant.5)
      | in-Err w ↦ subst (λ (all : AllQueues). AllReady r.store.table.keys.rows all.queues) (sym w.in-Err.ensures.err.1) c.self.invariant.5
    ] in
    keeps_queues (service_of r) c.put.new.self each c.self.invariant

pub returns-clause-answer : goal.returns-clause-answer
returns-clause-answer c =
    let r : Running = record { store = c.self.inside.store; next = c.self.inside.next; ready = c.self.inside.queues } in
    let birth : c.sealed.inside.birth ≡ c.args.sealed.now.birth = ap (λ (x : SealedKey). x.birth) c.sealed.view_is in
    let held : length (ready_in r.ready.queues c.sealed.inside.birth) ≡ length (ready_in r.ready.queues c.args.sealed.now.birth) = ap (λ (b : ℕ). length (ready_in r.ready.queues b)) birth in
    let present : is_present (keys_of r) c.args.sealed.now ≡ true = ap (λ (x : Running). is_present (keys_of x) c.args.sealed.now) c.self.view_is ∙ c.requires.present in
    let has : has_queue r.ready.queues c.args.sealed.now.birth ≡ true = subst (λ (x : Running). has_queue x.ready.queues c.args.sealed.now.birth ≡ true) (sym c.self.view_is) c.requires.queue in
    subst (λ (x : Running). c.match-put.result ≡ deposit_answer (keys_of x) c.args.sealed.now) c.self.view_is
    (elim c.match-put.branch [
      | in-Ok w ↦ w.result-is ∙ answers_kept (keys_of r) c.args.sealed.now present has (λ full. let no : false ≡ true = w.in-Ok.ensures.full.1 (held ∙ full) in absurd cc)
      | in-Err w ↦ w.result-is ∙ answers_full (keys_of r) c.args.sealed.now present has (sym held ∙ w.in-Err.ensures.full.0 refl)
    ])

pub returns-clause-queues : goal.returns-clause-queues
returns-clause-queues c =
    let r : Running = record { store = c.self.inside.store; next = c.self.inside.next; ready = c.self.inside.queues } in
    let t : Running = record r { ready = c.put.new.self } in
    let birth : c.sealed.inside.birth ≡ c.args.sealed.now.birth = ap (λ (x : SealedKey). x.birth) c.sealed.view_is in
    subst (λ (x : Running). t ≡ record x { ready = queues_with x.ready c.args.sealed.now c.match-put.result }) c.self.view_is
    (elim c.match-put.branch [
      | in-Ok w ↦
          let kept : c.put.new.self ≡ with_sealed r.ready c.args.sealed.now =
          w.in-Ok.ensures.ok ∙ (λ i. record r.ready { queues = set_ready r.ready.queues (birth i) (ready_in r.ready.queues (birth i) ++ c.edek.ensures.edek i ∷ []) }) in
          ap (λ (all : AllQueues). record r { ready = all }) kept ∙ ap (λ (d : Deposit). record r { ready = queues_with r.ready c.args.sealed.now d }) (sym w.result-is)
      | in-Err w ↦ ap (λ (all : AllQueues). record r { ready = all }) w.in-Err.ensures.err.1 ∙ ap (λ (d : Deposit). record r { ready = queues_with r.ready c.args.sealed.now d }) (sym w.result-is)
    ])
