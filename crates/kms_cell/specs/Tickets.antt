-- Which calls a history allows: a deposit needs the ticket that its key was sealed with.
use Rattle.std.specs.Prelude.{◌≡◌, ◌⊎◌, ℕ, List, [], ◌∷◌, ◌++◌, Some, ⊤}
use Rattle.std.proofs.Common.{inl, inr, subst}
use mathlib.Core.List.{IsPrefix}
use Rattle.eek_seal.specs.Tickets.{SealedKey}
use Rattle.eek_seal.specs.declared.tickets.Ticket.{Ticket}
use Rattle.kms_core.specs.Draws.{sealed_with}
use Rattle.hist_cell.specs.declared.views.Entry.{Entry}
use Rattle.kms_cell.specs.declared.acts.KmsAct.{KmsAct}
use Rattle.kms_cell.specs.declared.acts.KmsAct.TheVariants as act
use Rattle.kms_cell.specs.declared.acts.KmsActed.{KmsActed}
use Rattle.kms_cell.specs.declared.acts.KmsActed.TheVariants as acted

-- the key was drawn from some random words and sealed with the ticket, so it is for the ticket's queue and has the right lengths
pub record IsSealedWith (ticket : Ticket) (x : SealedKey) : Type 0 where
  pub words : ℕ → ℕ
  pub is : x ≡ sealed_with ticket words

module _ {S : Type 0} where
  -- the entry returned this ticket
  pub record ReturnsTicket (ticket : Ticket) (e : Entry KmsAct KmsActed S) : Type 0 where
    pub call_is : e.call ≡ act.Ticket
    pub reply_is : e.reply ≡ acted.Ticket (Some ticket)

  -- an entry of the history returned this ticket
  abbrev pub HasTicket : Ticket → List (Entry KmsAct KmsActed S) → Type 0
  HasTicket ticket [] = ⊥
  HasTicket ticket (e ∷ es) = ReturnsTicket ticket e ⊎ HasTicket ticket es

  -- A deposit may follow if an entry returned a ticket with which the key was drawn and sealed. Every other call may follow every history.
  abbrev pub KmsAllows : List (Entry KmsAct KmsActed S) → KmsAct → Type 0
  KmsAllows es (act.Call user c) = ⊤
  KmsAllows es act.Ticket = ⊤
  KmsAllows es (act.Deposit x) = (ticket : Ticket) × HasTicket ticket es × IsSealedWith ticket x

  ticket_stays : (ticket : Ticket) (es more : List (Entry KmsAct KmsActed S)) → HasTicket ticket es → HasTicket ticket (es ++ more)
  ticket_stays ticket [] more h = absurd h
  ticket_stays ticket (e ∷ es) more h = elim h [
    | inl here ↦ inl here
    | inr later ↦ inr (ticket_stays ticket es more later)
  ]

  pub HasTicket-grows : (ticket : Ticket) (es fs : List (Entry KmsAct KmsActed S)) → IsPrefix es fs → HasTicket ticket es → HasTicket ticket fs
  HasTicket-grows ticket es fs p h = subst (HasTicket ticket) p.1 (ticket_stays ticket es p.0 h)

  pub KmsAllows-grows : (es fs : List (Entry KmsAct KmsActed S)) (q : KmsAct) → IsPrefix es fs → KmsAllows es q → KmsAllows fs q
  KmsAllows-grows es fs (act.Call user c) p a = tt
  KmsAllows-grows es fs act.Ticket p a = tt
  KmsAllows-grows es fs (act.Deposit x) p a = (a.0, HasTicket-grows a.0 es fs p a.1, a.2)
