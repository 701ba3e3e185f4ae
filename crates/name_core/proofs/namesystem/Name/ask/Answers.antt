use Rattle.std.proofs.Common.{◌∙◌, ◌+◌, ◌<◌, ◌^◌, ℕ, List, ap, sym, subst}
use Rattle.std.specs.List.{AllByRecursion}
use Rattle.name_core.specs.declared.asks.OpenAsk.{OpenAsk}
use Rattle.name_core.specs.State.{RunningNames, names_of, next_id, service_of}
use Rattle.name_core.specs.Steps.{Keeps}
use Rattle.name_core.proofs.AllowedLemmas.{not-spent}
use Rattle.name_core.proofs.AskLemmas.{ask-room}
use Rattle.name_core.proofs.KeepLemmas.{keeps-asked}
use Rattle.name_core.proofs.namesystem.Name.ask.Goals as goal

pub opened-opened-requires : goal.opened-opened-requires
opened-opened-requires c = not-spent (names_of c.args.self.now) (ask-room (names_of c.args.self.now) c.args.user.now c.args.ask (sym c.ask_refusal.ensures ∙ c.in_default.is))

pub push-requires : goal.push-requires
push-requires c =
    let id_is = ap (λ (q : OpenAsk). q.id) c.opened-opened.ensures ∙ ap (λ (x : RunningNames). next_id (names_of x)) (sym c.self.view_is) in
    subst (λ (n : ℕ). AllByRecursion (λ (a : OpenAsk). a.id < n) c.self.inside.asks) (sym id_is) c.self.invariant.0.ids.of_asks

pub invariant_of-self-in-Ok : goal.invariant_of-self-in-Ok
invariant_of-self-in-Ok c =
    let id_is = ap (λ (q : OpenAsk). q.id) c.opened-opened.ensures ∙ ap (λ (x : RunningNames). next_id (names_of x)) (sym c.self.view_is) in
    let room = ask-room (names_of c.args.self.now) c.args.user.now c.args.ask (sym c.ask_refusal.ensures ∙ c.in_default.is) in
    let left : c.self.inside.next < 2 ^ 32 = subst (λ (x : RunningNames). x.next < 2 ^ 32) (sym c.self.view_is) room in (
      subst (λ (asks : List OpenAsk). Keeps (service_of (record { store = c.self.inside.store; next = c.self.inside.next + 1; asks = asks; walks = c.self.inside.walks.items; updating = c.self.inside.updating; batch = c.self.inside.batch }))) (sym c.in-Ok.ensures.ok)
          (keeps-asked (service_of (record { store = c.self.inside.store; next = c.self.inside.next; asks = c.self.inside.asks; walks = c.self.inside.walks.items; updating = c.self.inside.updating; batch = c.self.inside.batch })) c.opened-opened.result id_is left c.self.invariant.0),
      c.self.invariant.1,
    )
