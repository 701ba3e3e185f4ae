-- Every legal history of the keys keeps a world linked, with the same entries.
use Rattle.std.proofs.Common.{◌≡◌, ◌⊎◌, inl, inr, ℕ, List, [], ◌∷◌, ◌++◌, Option, Some, sym, subst, ◌∙◌}
use Rattle.hk_base.specs.Disk.{DiskState, Tells}
use Rattle.hk_base.specs.Faults.{Rose}
use Rattle.hk_base.specs.declared.texts.Text.{Text}
use Rattle.eek_seal.specs.Tickets.{SealedKey}
use Rattle.eek_seal.specs.declared.deposit.Deposit.{Deposit}
use Rattle.eek_seal.specs.declared.tickets.Ticket.{Ticket}
use Rattle.kms_calls.specs.declared.calls.KmsCall.{KmsCall}
use Rattle.kms_calls.specs.declared.calls.KmsReply.{KmsReply}
use Rattle.kms_core.specs.Draws.{sealed_with}
use Rattle.kms_core.specs.Ready.{deposit_answer, queues_with}
use Rattle.kms_core.specs.State.{IsService}
use Rattle.hist_cell.specs.History.{LegalAfter, state_after}
use Rattle.name_core.specs.State.{NameService}
use Rattle.kms_cell.specs.Entries.{KmsEntry}
use Rattle.kms_cell.specs.Steps.{CallSteps, DepositSteps, KmsDoes, KmsSteps, TicketSteps}
use Rattle.kms_cell.specs.Tickets.{HasTicket, IsSealedWith, KmsAllows, ReturnsTicket}
use Rattle.kms_cell.specs.Views.{KmsView}
use Rattle.kms_cell.specs.declared.acts.KmsAct.{KmsAct}
use Rattle.kms_cell.specs.declared.acts.KmsAct.TheVariants as act
use Rattle.kms_cell.specs.declared.acts.KmsActed.{KmsActed}
use Rattle.kms_cell.specs.declared.acts.KmsActed.TheVariants as acted
use Rattle.world_run.specs.Ledger.{Hidden}
use Rattle.world_run.specs.Linked.{LinkedWorld, ServicesFit}
use Rattle.world_run.specs.Promise.{In}
use Rattle.world_run.specs.World.{Kept}
use Rattle.world_run.proofs.KeepLemmas.{linked-promise}
use Rattle.thread_laws.specs.Keys.{KeysKeepFilesOpen}
use Rattle.thread_laws.specs.Worlds.{keys_of_view, world_with}
use Rattle.thread_laws.proofs.Laters.{Later, call-later, deposit-later, same-later, then-later, ticket-later}

-- a ticket of a history with one more entry
pub ticket-before : {D W : Type 0} (u : Ticket) (es : List (KmsEntry D W)) (e : KmsEntry D W) → HasTicket u (es ++ e ∷ []) → HasTicket u es ⊎ ReturnsTicket u e
ticket-before u [] e (inl here) = inr here
ticket-before u [] e (inr none) = absurd none
ticket-before u (x ∷ es) e (inl here) = inl (inl here)
ticket-before u (x ∷ es) e (inr rest) = elim (ticket-before u es e rest) [ inl old ↦ inl (inr old) | inr new ↦ inr new ]

pub given-ticket : (p : Option Ticket) (u : Ticket) → acted.Ticket p ≡ acted.Ticket (Some u) → p ≡ Some u
given-ticket p u is = cc

-- the world after one entry
pub record Turned {D W : Type 0} (s : KmsView D W) (names : NameService) (kept : Kept) (h : Hidden) (t : KmsView D W) (r : KmsActed) : Type 0 where
  pub later : Later (world_with (keys_of_view s) names kept) h (keys_of_view t)
  pub gave : (u : Ticket) → r ≡ acted.Ticket (Some u) → In u later.kept.tickets

module _ {D W : Type 0} (state : D → DiskState) (to_come : W → ℕ → ℕ) where
  pub turned-call : (s t : KmsView D W) (user : Text) (c : KmsCall) (reply : KmsReply) (names : NameService) (kept : Kept) (h : Hidden) → ServicesFit (world_with (keys_of_view s) names kept)
      → LinkedWorld (world_with (keys_of_view s) names kept) h → CallSteps state to_come s user c reply t → Turned s names kept h t (acted.Call reply)
  turned-call s t user c reply names kept h fit l step =
      let lines = step.has_lines.0 in
      let acts = step.acts lines step.has_lines.1 in
      record {
        later = call-later lines (world_with (keys_of_view s) names kept) h (keys_of_view t) (to_come s.words) step.now user c (Rose (state s.disk).faults (state t.disk).faults) (Tells (state s.disk)) reply acts.drawn acts.logged fit l acts.serves;
        gave = λ u is. absurd cc;
      }

  pub turned-ticket : (s t : KmsView D W) (o : Option Ticket) (names : NameService) (kept : Kept) (h : Hidden) → ServicesFit (world_with (keys_of_view s) names kept)
      → LinkedWorld (world_with (keys_of_view s) names kept) h → TicketSteps s o t → Turned s names kept h t (acted.Ticket o)
  turned-ticket s t o names kept h fit l step =
      let g = ticket-later (world_with (keys_of_view s) names kept) h fit l in
      subst (λ (v : KmsView D W). Turned s names kept h v (acted.Ticket o)) (sym step.same)
      (record { later = g.later; gave = λ u is. g.gave u (sym step.ticket_is ∙ given-ticket o u is) })

  pub turned-deposit : (s t : KmsView D W) (ticket : Ticket) (x : SealedKey) (a : Deposit) (names : NameService) (kept : Kept) (h : Hidden) → ServicesFit (world_with (keys_of_view s) names kept)
      → LinkedWorld (world_with (keys_of_view s) names kept) h → In ticket kept.tickets → IsSealedWith ticket x → DepositSteps s x a t → Turned s names kept h t (acted.Deposit a)
  turned-deposit s t ticket x a names kept h fit l member sealed step =
      subst (λ (v : KmsView D W). Turned s names kept h v (acted.Deposit a)) (sym step.left)
      (record { later = subst (λ (b : Deposit). Later (world_with (keys_of_view s) names kept) h (keys_of_view (after x b))) (sym step.answer_is) (subst At (sym sealed.is) deposited_so); gave = λ u is. absurd cc })
    where
      after : SealedKey → Deposit → KmsView D W
      after y b = record s { kms = record s.kms { ready = queues_with s.kms.ready y b } }

      At : SealedKey → Type 0
      At y = Later (world_with (keys_of_view s) names kept) h (keys_of_view (after y (deposit_answer (keys_of_view s).keys y)))

      deposited_so : At (sealed_with ticket sealed.words)
      deposited_so = deposit-later (world_with (keys_of_view s) names kept) h ticket sealed.words fit l member

  turned : (before : List (KmsEntry D W)) (s t : KmsView D W) (q : KmsAct) (r : KmsActed) (names : NameService) (kept : Kept) (h : Hidden) → ServicesFit (world_with (keys_of_view s) names kept)
      → LinkedWorld (world_with (keys_of_view s) names kept) h → ((u : Ticket) → HasTicket u before → In u kept.tickets) → KmsAllows before q → KmsDoes state to_come s q r t → Turned s names kept h t r
  turned before s t (act.Call user c) (acted.Call reply) names kept h fit l has may step = turned-call s t user c reply names kept h fit l step
  turned before s t (act.Call user c) (acted.Ticket o) names kept h fit l has may step = absurd step
  turned before s t (act.Call user c) (acted.Deposit a) names kept h fit l has may step = absurd step
  turned before s t act.Ticket (acted.Call reply) names kept h fit l has may step = absurd step
  turned before s t act.Ticket (acted.Ticket o) names kept h fit l has may step = turned-ticket s t o names kept h fit l step
  turned before s t act.Ticket (acted.Deposit a) names kept h fit l has may step = absurd step
  turned before s t (act.Deposit x) (acted.Call reply) names kept h fit l has may step = absurd step
  turned before s t (act.Deposit x) (acted.Ticket o) names kept h fit l has may step = absurd step
  turned before s t (act.Deposit x) (acted.Deposit a) names kept h fit l has may step = turned-deposit s t may.0 x a names kept h fit l (has may.0 may.1) may.2 step

  -- the service keeps its rules in a legal history
  pub rules-after : (before es : List (KmsEntry D W)) (s : KmsView D W) → LegalAfter (KmsSteps {D = D} {W = W} state to_come) (KmsAllows {S = KmsView D W}) before s es → IsService (keys_of_view s) → IsService (keys_of_view (state_after s es))
  rules-after before [] s legal is = is
  rules-after before (e ∷ es) s legal is = rules-after (before ++ e ∷ []) es e.after legal.2 legal.1.after

  -- a whole history
  pub keys-later : (before es : List (KmsEntry D W)) (s : KmsView D W) (names : NameService) (kept : Kept) (h : Hidden) → ServicesFit (world_with (keys_of_view s) names kept)
      → LinkedWorld (world_with (keys_of_view s) names kept) h → ((u : Ticket) → HasTicket u before → In u kept.tickets) → LegalAfter (KmsSteps {D = D} {W = W} state to_come) (KmsAllows {S = KmsView D W}) before s es
      → Later (world_with (keys_of_view s) names kept) h (keys_of_view (state_after s es))
  keys-later before [] s names kept h fit l has legal = same-later (world_with (keys_of_view s) names kept) h l
  keys-later before (e ∷ es) s names kept h fit l has legal =
      let first = turned before s e.after e.call e.reply names kept h fit l has legal.0 legal.1.does in
      then-later (world_with (keys_of_view s) names kept) h (keys_of_view e.after) (keys_of_view (state_after e.after es)) first.later
      (keys-later (before ++ e ∷ []) es e.after names first.later.kept first.later.hidden (record { keys = legal.1.after; names = fit.names }) first.later.linked
      (λ u i. elim (ticket-before u before e i) [ inl old ↦ first.later.tickets u (has u old) | inr new ↦ first.gave u new.reply_is ]) legal.2)

  pub keys_keep_files_open : KeysKeepFilesOpen state to_come
  keys_keep_files_open before es first names kept h fit l has legal =
      let m = keys-later before es first names kept h fit l has legal in
      record {
        kept = m.kept;
        hidden = m.hidden;
        ledger = m.ledger;
        starts = m.starts;
        linked = m.linked;
        open_up = linked-promise (world_with (keys_of_view (state_after first es)) names m.kept) m.hidden (rules-after before es first legal fit.keys) m.linked;
      }
