-- What each call of the cell does.
use Rattle.std.specs.Prelude.{◌≡◌, ℕ, List, Option}
use Rattle.hk_base.specs.Disk.{DiskState}
use Rattle.hk_base.specs.declared.texts.Text.{Text}
use Rattle.prop_text.specs.declared.lines.PropLine.{PropLine}
use Rattle.kms_acls.specs.Agreement.{AreListsOf}
use Rattle.eek_seal.specs.Tickets.{SealedKey}
use Rattle.eek_seal.specs.declared.deposit.Deposit.{Deposit}
use Rattle.eek_seal.specs.declared.tickets.Ticket.{Ticket}
use Rattle.kms_calls.specs.declared.calls.KmsCall.{KmsCall}
use Rattle.kms_calls.specs.declared.calls.KmsReply.{KmsReply}
use Rattle.kms_core.specs.Ready.{deposit_answer, queues_with, ticket_of}
use Rattle.kms_core.specs.State.{IsService, keys_of, service_of}
use Rattle.kms_core.specs.Users.{ActsFor, running}
use Rattle.kms_cell.specs.Views.{KmsView}
use Rattle.kms_cell.specs.declared.acts.KmsAct.{KmsAct}
use Rattle.kms_cell.specs.declared.acts.KmsAct.TheVariants as act
use Rattle.kms_cell.specs.declared.acts.KmsActed.{KmsActed}
use Rattle.kms_cell.specs.declared.acts.KmsActed.TheVariants as acted

-- A call of a user, at some moment, under the lines that its lists agree with; there are such lines. Three things are open: memory may run out; the disk may fail, if its count of faults rose; and the pending command was kept or not.
pub record CallSteps {D W : Type 0} (state : D → DiskState) (to_come : W → ℕ → ℕ) (v : KmsView D W) (user : Text) (c : KmsCall) (reply : KmsReply) (v' : KmsView D W) : Type 0 where
  pub now : ℕ
  pub has_lines : (lines : List PropLine) × AreListsOf v.kms.acls lines
  pub acts : (lines : List PropLine) → AreListsOf v.kms.acls lines
      → ActsFor lines user (state v.disk) (state v'.disk) v.kms (to_come v.words) now c reply v'.kms (to_come v'.words)

-- a ticket for the low queue with the fewest ready keys, if a queue is low; nothing changes
pub record TicketSteps {D W : Type 0} (v : KmsView D W) (ticket : Option Ticket) (v' : KmsView D W) : Type 0 where
  pub ticket_is : ticket ≡ ticket_of (keys_of (running v.kms))
  pub same : v' ≡ v

-- the deposit of a ready key, which changes the queues alone
pub record DepositSteps {D W : Type 0} (v : KmsView D W) (x : SealedKey) (answer : Deposit) (v' : KmsView D W) : Type 0 where
  pub answer_is : answer ≡ deposit_answer (keys_of (running v.kms)) x
  pub left : v' ≡ record v { kms = record v.kms { ready = queues_with v.kms.ready x answer } }

abbrev pub KmsDoes : {D W : Type 0} → (D → DiskState) → (W → ℕ → ℕ) → KmsView D W → KmsAct → KmsActed → KmsView D W → Type 0
KmsDoes state to_come v (act.Call user c) (acted.Call reply) v' = CallSteps state to_come v user c reply v'
KmsDoes state to_come v act.Ticket (acted.Ticket ticket) v' = TicketSteps v ticket v'
KmsDoes state to_come v (act.Deposit x) (acted.Deposit answer) v' = DepositSteps v x answer v'
KmsDoes state to_come v _ _ v' = ⊥

-- One call of the cell, with its reply and the state after it. The service keeps its rules.
pub record KmsSteps {D W : Type 0} (state : D → DiskState) (to_come : W → ℕ → ℕ) (v : KmsView D W) (q : KmsAct) (r : KmsActed) (v' : KmsView D W) : Type 0 where
  pub before : IsService (service_of (running v.kms))
  pub after : IsService (service_of (running v'.kms))
  pub does : KmsDoes state to_come v q r v'
