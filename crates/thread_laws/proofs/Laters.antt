-- A linked world whose keys go on: what each call of the key management service keeps.
use Rattle.std.proofs.Common.{◌≡◌, inl, inr, ℕ, zero, suc, List, [], ◌∷◌, length, Option, Some, None, refl, sym, ap, subst, ◌∙◌}
use Rattle.hk_base.specs.declared.texts.Text.{Text}
use Rattle.eek_seal.specs.Tickets.{SealedKey}
use Rattle.eek_seal.specs.declared.deposit.Deposit.{Deposit}
use Rattle.eek_seal.specs.declared.deposit.Deposit.TheVariants as deposit
use Rattle.eek_seal.specs.declared.tickets.Ticket.{Ticket}
use Rattle.key_rows.specs.declared.rows.KeyCommand.{KeyCommand}
use Rattle.prop_text.specs.declared.lines.PropLine.{PropLine}
use Rattle.kms_calls.specs.declared.calls.KmsCall.{KmsCall}
use Rattle.kms_calls.specs.declared.calls.KmsReply.{KmsReply}
use Rattle.kms_core.specs.Draws.{sealed_with, words_of_draw}
use Rattle.kms_core.specs.Ready.{deposit_answer, deposited, ticket_of}
use Rattle.kms_core.specs.State.{ServiceState}
use Rattle.kms_core.specs.Users.{ServesUser}
use Rattle.hk_events.specs.declared.event.Event.TheVariants as event
use Rattle.hk_events.specs.declared.event.Line.TheVariants as line
use Rattle.inode_tree.specs.Rows.{IsRows}
use Rattle.world_run.specs.declared.kept.KeptReply.{KeptReply}
use Rattle.world_run.specs.Acknowledged.{nothing_acknowledged, of_keys}
use Rattle.world_run.specs.Ledger.{Draw, Hidden, hidden_after, moved_on}
use Rattle.world_run.specs.Linked.{LinkedWorld, Replied, ServicesFit}
use Rattle.world_run.specs.Promise.{In}
use Rattle.world_run.specs.Step.{DepositActs, after_ticket, ticket_line}
use Rattle.world_run.specs.World.{Kept, WorldState, next_ticket, numbered, with_ticket}
use Rattle.world_run.proofs.CoveredWorld.{keeps-world}
use Rattle.world_run.proofs.Members.{in-left, in-right, some-is}
use Rattle.thread_laws.specs.Worlds.{world_with}

-- a member has a number

pub in-numbered : {X : Type 0} (x : X) (xs : List X) → In x xs → (n : ℕ) × (numbered xs n ≡ Some x)
in-numbered x [] i = absurd i
in-numbered x (y ∷ xs) (inl is) = (suc zero, ap Some (sym is))
in-numbered x (y ∷ xs) (inr i) = next (in-numbered x xs i)
  where
    next : (n : ℕ) × (numbered xs n ≡ Some x) → (n : ℕ) × (numbered (y ∷ xs) n ≡ Some x)
    next (zero, at) = absurd cc
    next (suc n, at) = (suc (suc n), at)

-- A world with later keys: it is linked with what is hidden then, no id got an entry, and nothing that was kept is lost.
pub record Later (w : WorldState) (h : Hidden) (keys : ServiceState) : Type 0 where
  pub kept : Kept
  pub hidden : Hidden
  pub linked : LinkedWorld (world_with keys w.names kept) hidden
  pub ledger : hidden.ledger ≡ h.ledger
  pub starts : hidden.starts ≡ h.starts
  pub tickets : (t : Ticket) → In t w.kept.tickets → In t kept.tickets
  pub batches : kept.batches ≡ w.kept.batches
  pub replies : (r : KeptReply) (o : Option Draw) → Replied w.kept.replies h.replied r o → Replied kept.replies hidden.replied r o
  pub more : (r : KeptReply) → In r w.kept.replies → In r kept.replies

abbrev pub same-later : (w : WorldState) (h : Hidden) → LinkedWorld w h → Later w h w.keys
same-later w h l = record { kept = w.kept; hidden = h; linked = l; ledger = refl; starts = refl; tickets = λ t i. i; batches = refl; replies = λ r o at. at; more = λ r i. i }

abbrev pub then-later : (w : WorldState) (h : Hidden) (keys next : ServiceState) (l : Later w h keys) → Later (world_with keys w.names l.kept) l.hidden next → Later w h next
then-later w h keys next l m = record {
  kept = m.kept;
  hidden = m.hidden;
  linked = m.linked;
  ledger = m.ledger ∙ l.ledger;
  starts = m.starts ∙ l.starts;
  tickets = λ t i. m.tickets t (l.tickets t i);
  batches = m.batches ∙ l.batches;
  replies = λ r o at. m.replies r o (l.replies r o at);
  more = λ r i. m.more r (l.more r i);
}

-- a call of a user is an event
pub call-later : (lines : List PropLine) (w : WorldState) (h : Hidden) (keys : ServiceState) (words : ℕ → ℕ) (now : ℕ) (user : Text) (c : KmsCall) (fault tells : Type 0) (reply : KmsReply) (drawn : ℕ) (commands : List KeyCommand)
    → ServicesFit w → LinkedWorld w h → ServesUser lines user w.keys words now c fault tells reply drawn commands keys → Later w h keys
call-later lines w h keys words now user c fault tells reply drawn commands fit l serves = record {
  kept = w.kept;
  hidden = moved_on w.keys.keys.ready.queues keys.keys.ready.queues drawn h;
  linked = keeps-world lines w words now (event.Kms user c) fault tells (line.Kms reply) drawn (of_keys commands) (record w { keys = keys }) h tt fit fit.names.table.rules
      (record { reply = reply; keys = keys; commands = commands; serves = serves; logged_is = refl; reply_is = refl; left = refl }) l;
  ledger = refl;
  starts = refl;
  tickets = λ t i. i;
  batches = refl;
  replies = λ r o at. at;
  more = λ r i. i;
}

-- so is a ticket, which is kept
pub record LaterGiven (w : WorldState) (h : Hidden) (o : Option Ticket) : Type 0 where
  pub later : Later w h w.keys
  pub gave : (t : Ticket) → o ≡ Some t → In t later.kept.tickets

ticket-given : (w : WorldState) (h : Hidden) (o : Option Ticket) → LinkedWorld (after_ticket o w) (moved_on w.keys.keys.ready.queues (after_ticket o w).keys.keys.ready.queues 0 h) → LaterGiven w h o
ticket-given w h None l = record {
  later = record {
    kept = w.kept;
    hidden = moved_on w.keys.keys.ready.queues w.keys.keys.ready.queues 0 h;
    linked = l;
    ledger = refl;
    starts = refl;
    tickets = λ t i. i;
    batches = refl;
    replies = λ r o at. at;
    more = λ r i. i;
  };
  gave = λ t is. absurd cc;
}
ticket-given w h (Some ticket) l = record {
  later = record {
    kept = (with_ticket ticket w).kept;
    hidden = moved_on w.keys.keys.ready.queues w.keys.keys.ready.queues 0 h;
    linked = l;
    ledger = refl;
    starts = refl;
    tickets = λ t i. in-left t w.kept.tickets (ticket ∷ []) i;
    batches = refl;
    replies = λ r o at. at;
    more = λ r i. i;
  };
  gave = λ t is. in-right t w.kept.tickets (ticket ∷ []) (inl (sym (some-is ticket t is)));
}

pub ticket-later : (w : WorldState) (h : Hidden) → ServicesFit w → LinkedWorld w h → LaterGiven w h (ticket_of w.keys.keys)
ticket-later w h fit l =
    ticket-given w h (ticket_of w.keys.keys)
    (keeps-world [] w (λ k. k) 0 event.Ticket (Unit {0}) (Unit {0}) (ticket_line (ticket_of w.keys.keys) (next_ticket w)) 0 nothing_acknowledged (after_ticket (ticket_of w.keys.keys) w) h tt fit (rules (ticket_of w.keys.keys))
    (inl (record { reply_is = refl; quiet = (refl, refl); left = refl })) l)
  where
    rules : (o : Option Ticket) → IsRows (after_ticket o w).names.names.table.rows
    rules None = fit.names.table.rules
    rules (Some ticket) = fit.names.table.rules

-- and a deposit of a key that was drawn and sealed with a kept ticket
abbrev deposited_world : WorldState → SealedKey → WorldState
deposited_world w x = record w { keys = record w.keys { keys = deposited w.keys.keys x } }

deposit-hidden : (w : WorldState) (h : Hidden) (words : ℕ → ℕ) (number : ℕ) (x : SealedKey) (drawn : ℕ) (a : Deposit)
    → LinkedWorld (deposited_world w x) (hidden_after w words (event.Deposit number) (line.Deposit a) drawn (deposited_world w x) h) → Later w h (deposited_world w x).keys
deposit-hidden w h words number x drawn deposit.Kept l = record { kept = w.kept; hidden = _; linked = l; ledger = refl; starts = refl; tickets = λ t i. i; batches = refl; replies = λ r o at. at; more = λ r i. i }
deposit-hidden w h words number x drawn deposit.Full l = record { kept = w.kept; hidden = _; linked = l; ledger = refl; starts = refl; tickets = λ t i. i; batches = refl; replies = λ r o at. at; more = λ r i. i }
deposit-hidden w h words number x drawn (deposit.Stale opening birth version) l = record { kept = w.kept; hidden = _; linked = l; ledger = refl; starts = refl; tickets = λ t i. i; batches = refl; replies = λ r o at. at; more = λ r i. i }

deposit-numbered : (w : WorldState) (h : Hidden) (ticket : Ticket) (words : ℕ → ℕ) (number : ℕ) → ServicesFit w → LinkedWorld w h → numbered w.kept.tickets number ≡ Some ticket
    → Later w h (deposited_world w (sealed_with ticket words)).keys
deposit-numbered w h ticket words number fit l at =
    let x : SealedKey = sealed_with ticket words in
    let answer : Deposit = deposit_answer w.keys.keys x in
    let drawn : ℕ = words_of_draw (length ticket.material) in
    deposit-hidden w h words number x drawn answer
    (keeps-world [] w words 0 (event.Deposit number) (Unit {0}) (Unit {0}) (line.Deposit answer) drawn nothing_acknowledged (deposited_world w x) h tt fit fit.names.table.rules
    (subst (λ (o : Option Ticket). DepositActs w words o (line.Deposit answer) drawn nothing_acknowledged (deposited_world w x)) (sym at)
    (record { reply_is = refl; drawn_is = refl; none_logged = refl; left = refl })) l)

pub deposit-later : (w : WorldState) (h : Hidden) (ticket : Ticket) (words : ℕ → ℕ) → ServicesFit w → LinkedWorld w h → In ticket w.kept.tickets → Later w h (deposited_world w (sealed_with ticket words)).keys
deposit-later w h ticket words fit l member = let found = in-numbered ticket w.kept.tickets member in deposit-numbered w h ticket words found.0 fit l found.1
