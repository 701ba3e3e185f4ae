use Rattle.std.proofs.Common.{◌≡◌, None, Some, ap, sym, ◌∙◌}
use Rattle.std.specs.Prelude.{option_map}
use Rattle.kms_core.specs.State.{Running, keys_of}
use Rattle.kms_core.specs.Ready.{low_birth, ticket_for, ticket_of}
use Rattle.kms_core.proofs.DepositLemmas.{queue_stands, ticket_is}
use Rattle.kms_core.proofs.KnownLemmas.{shown_newest}
use Rattle.kms_core.proofs.service.Service.ticket.Goals as goal

pub returns-in_err-birth : goal.returns-in_err-birth
returns-in_err-birth c =
    let r : Running = record { store = c.self.inside.store; next = c.self.inside.next; ready = c.self.inside.queues } in
    c.from_residual.ensures ∙ ap (option_map (ticket_for (keys_of r))) (sym c.in_err-birth.was ∙ c.low.ensures.value) ∙ ap (λ (x : Running). ticket_of (keys_of x)) c.self.view_is

pub returns-in_err-row : goal.returns-in_err-row
returns-in_err-row c =
    let stands = queue_stands c.self.inside.store.table.keys.rows c.self.inside.queues.queues c.in_ok-birth.birth c.self.invariant.5 c.in_ok-birth.ensures.lowest.stands in
    let no : None ≡ Some stands.0 = sym c.in_err-row.ensures ∙ stands.1 in
    absurd cc

pub returns : goal.returns
returns c =
    let r : Running = record { store = c.self.inside.store; next = c.self.inside.next; ready = c.self.inside.queues } in
    let low : low_birth r.ready ≡ Some c.in_ok-birth.birth = sym c.low.ensures.value ∙ c.in_ok-birth.was in
    let key = c.in_ok-row.ensures in
    (λ i. Some (record { opening = c.opening.ensures.opening i; birth = c.in_ok-birth.birth; version = record { key = c.in_ok-row.row.now.name; number = c.saturating_sub-number.ensures i }; material = c.in_ok-row.row.now.current; wanted = c.room.ensures i }))
    ∙ ticket_is (keys_of r) c.in_ok-birth.birth key.key _ low key.is (shown_newest key.key c.in_ok-row.row.now key.shows key.rules)
    ∙ ap (λ (x : Running). ticket_of (keys_of x)) c.self.view_is
