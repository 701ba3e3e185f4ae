-- Each call is answered by a reply of its own kind, since its entry is a step.
use Rattle.std.specs.Prelude.{◌≡◌, ℕ, List, [], ◌∷◌, ◌++◌, Option, Some, None}
use Rattle.std.proofs.Common.{refl, subst}
use Rattle.hk_base.specs.Disk.{DiskState}
use Rattle.hk_base.specs.declared.texts.Text.{Text}
use Rattle.eek_seal.specs.Tickets.{SealedKey}
use Rattle.eek_seal.specs.declared.deposit.Deposit.{Deposit}
use Rattle.eek_seal.specs.declared.tickets.Ticket.{Ticket}
use Rattle.kms_calls.specs.declared.calls.KmsCall.{KmsCall}
use Rattle.kms_calls.specs.declared.calls.KmsReply.{KmsReply}
use Rattle.hist_cell.specs.declared.views.Entry.{Entry}
use Rattle.hist_cell.specs.History.{LegalAfter, LegalOf}
use Rattle.kms_cell.specs.Entries.{KmsKnown, Makes}
use Rattle.kms_cell.specs.Steps.{KmsDoes, KmsSteps}
use Rattle.kms_cell.specs.Tickets.{KmsAllows}
use Rattle.kms_cell.specs.Views.{KmsView}
use Rattle.kms_cell.specs.declared.acts.KmsAct.{KmsAct}
use Rattle.kms_cell.specs.declared.acts.KmsAct.TheVariants as act
use Rattle.kms_cell.specs.declared.acts.KmsActed.{KmsActed}
use Rattle.kms_cell.specs.declared.acts.KmsActed.TheVariants as acted

module _ {Q R S : Type 0} (step : S → Q → R → S → Type 0) (allows : List (Entry Q R S) → Q → Type 0) where
  last_after : (before : List (Entry Q R S)) (s : S) (es : List (Entry Q R S)) (e : Entry Q R S) → LegalAfter step allows before s (es ++ e ∷ []) → (t : S) × step t e.call e.reply e.after
  last_after before s [] e legal = (s, legal.1)
  last_after before s (x ∷ es) e legal = last_after (before ++ x ∷ []) x.after es e legal.2

  -- the last entry is a step from some state
  pub last_step : (start : Option S) (es : List (Entry Q R S)) (e : Entry Q R S) → LegalOf step allows start (es ++ e ∷ []) → (t : S) × step t e.call e.reply e.after
  last_step None es e legal = absurd legal
  last_step (Some s) es e legal = last_after [] s es e legal

module _ {D W : Type 0} (state : D → DiskState) (to_come : W → ℕ → ℕ) where
  -- the entry of a call is a step from some state
  pub made_step : (v w : KmsKnown D W) (q : KmsAct) (r : KmsActed) → Makes state to_come v q r w → (s : KmsView D W) × (t : KmsView D W) × KmsSteps state to_come s q r t
  made_step v w q r a =
      let last = last_step (KmsSteps state to_come) (KmsAllows {S = KmsView D W}) w.start (v.seen ++ a.between) a.entry
      (subst (LegalOf (KmsSteps state to_come) (KmsAllows {S = KmsView D W}) w.start) a.seen a.legal) in (
        last.0,
        a.entry.after,
        subst (λ (q : KmsAct). KmsSteps state to_come last.0 q r a.entry.after) a.call_is
            (subst (λ (r : KmsActed). KmsSteps state to_come last.0 a.entry.call r a.entry.after) a.reply_is last.1),
      )

  call_answer : (user : Text) (c : KmsCall) (r : KmsActed) (s t : KmsView D W) → KmsDoes state to_come s (act.Call user c) r t → (reply : KmsReply) × (r ≡ acted.Call reply)
  call_answer user c (acted.Call reply) s t h = (reply, refl)
  call_answer user c (acted.Ticket ticket) s t h = absurd h
  call_answer user c (acted.Deposit answer) s t h = absurd h

  ticket_answer : (r : KmsActed) (s t : KmsView D W) → KmsDoes state to_come s act.Ticket r t → (ticket : Option Ticket) × (r ≡ acted.Ticket ticket)
  ticket_answer (acted.Call reply) s t h = absurd h
  ticket_answer (acted.Ticket ticket) s t h = (ticket, refl)
  ticket_answer (acted.Deposit answer) s t h = absurd h

  deposit_answer : (x : SealedKey) (r : KmsActed) (s t : KmsView D W) → KmsDoes state to_come s (act.Deposit x) r t → (answer : Deposit) × (r ≡ acted.Deposit answer)
  deposit_answer x (acted.Call reply) s t h = absurd h
  deposit_answer x (acted.Ticket ticket) s t h = absurd h
  deposit_answer x (acted.Deposit answer) s t h = (answer, refl)

  pub call_is_answered : (v w : KmsKnown D W) (user : Text) (c : KmsCall) (r : KmsActed) → Makes state to_come v (act.Call user c) r w → (reply : KmsReply) × (r ≡ acted.Call reply)
  call_is_answered v w user c r a = let made = made_step v w (act.Call user c) r a in call_answer user c r made.0 made.1 made.2.does

  pub ticket_is_answered : (v w : KmsKnown D W) (r : KmsActed) → Makes state to_come v act.Ticket r w → (ticket : Option Ticket) × (r ≡ acted.Ticket ticket)
  ticket_is_answered v w r a = let made = made_step v w act.Ticket r a in ticket_answer r made.0 made.1 made.2.does

  pub deposit_is_answered : (v w : KmsKnown D W) (x : SealedKey) (r : KmsActed) → Makes state to_come v (act.Deposit x) r w → (answer : Deposit) × (r ≡ acted.Deposit answer)
  deposit_is_answered v w x r a = let made = made_step v w (act.Deposit x) r a in deposit_answer x r made.0 made.1 made.2.does
