-- The turn of a filler: one ticket, and one deposit for each key, each of a draw of its own.
use Rattle.std.specs.Prelude.{◌≡◌, ◌<◌, ◌⊎◌, ℕ, zero, suc, ◌+◌, List, [], ◌∷◌, ◌++◌, length, map, Option, Some, None}
use Rattle.hk_base.specs.Disk.{DiskState}
use Rattle.eek_seal.specs.Tickets.{SealedKey}
use Rattle.eek_seal.specs.declared.deposit.Deposit.{Deposit}
use Rattle.eek_seal.specs.declared.deposit.Deposit.TheVariants as deposit
use Rattle.eek_seal.specs.declared.tickets.Ticket.{Ticket}
use Rattle.kms_core.specs.Draws.{place_of_draw, sealed_with}
use Rattle.kms_core.specs.Steps.{Drew}
use Rattle.kms_cell.specs.Entries.{KmsEntry, KmsKnown, MakesAll}
use Rattle.kms_cell.specs.declared.acts.KmsAct.{KmsAct}
use Rattle.kms_cell.specs.declared.acts.KmsAct.TheVariants as act
use Rattle.kms_cell.specs.declared.acts.KmsActed.TheVariants as acted
use Rattle.kms_cell.specs.declared.filling.FillTurn.{FillTurn}
use Rattle.kms_cell.specs.declared.filling.FillTurn.TheVariants as turn

-- the data encryption key of the draw of this number, from 0, sealed with the ticket
abbrev pub sealed_draw : Ticket → (ℕ → ℕ) → ℕ → SealedKey
sealed_draw ticket words number = sealed_with ticket (λ k. words (place_of_draw (length ticket.material) number + k))

-- deposits of the first n draws, in order
abbrev pub deposits_of : Ticket → (ℕ → ℕ) → ℕ → List KmsAct
deposits_of ticket words zero = []
deposits_of ticket words (suc n) = deposits_of ticket words n ++ act.Deposit (sealed_draw ticket words n) ∷ []

-- n answers that a key was kept
abbrev pub all_kept : ℕ → List Deposit
all_kept zero = []
all_kept (suc n) = all_kept n ++ deposit.Kept ∷ []

-- How a turn ends with these answers to its deposits: all are kept, as many as the ticket wanted; or the last one is the first that is
-- not kept.
abbrev pub EndsFill : ℕ → List Deposit → FillTurn → Type 0
EndsFill wanted answers (turn.Filled kept) =
    ((answers ≡ all_kept kept) × (kept ≡ wanted)) ⊎ ((answers ≡ all_kept kept ++ deposit.Full ∷ []) × (kept < wanted))
EndsFill wanted answers turn.NothingLow = ⊥
EndsFill wanted answers (turn.Stale opening birth number) =
    (kept : ℕ) × (answers ≡ all_kept kept ++ deposit.Stale opening birth number ∷ []) × (kept < wanted)

-- These entries are deposits of the first draws of the words, with these answers. The words of the draws were drawn.
pub record AreDeposits {D W : Type 0} (ticket : Ticket) (words words' : ℕ → ℕ) (made : List (KmsEntry D W)) (answers : List Deposit) : Type 0 where
  pub calls : map (λ e. e.call) made ≡ deposits_of ticket words (length answers)
  pub replies : map (λ e. e.reply) made ≡ map acted.Deposit answers
  pub rest : Drew words words' (place_of_draw (length ticket.material) (length answers))

-- a turn deposits keys of a ticket until the queue has as many as it wanted, or a key is not kept
pub record FillsQueue {D W : Type 0} (ticket : Ticket) (words words' : ℕ → ℕ) (made : List (KmsEntry D W)) (result : FillTurn) : Type 0 where
  pub answers : List Deposit
  pub deposits : AreDeposits ticket words words' made answers
  pub ends : EndsFill ticket.wanted answers result

-- without a ticket no queue is low, and nothing is drawn or deposited
pub record FillsNothing {D W : Type 0} (words words' : ℕ → ℕ) (made : List (KmsEntry D W)) (result : FillTurn) : Type 0 where
  pub none : made ≡ []
  pub result_is : result ≡ turn.NothingLow
  pub rest : (k : ℕ) → words' k ≡ words k

abbrev pub FillsBy : {D W : Type 0} → Option Ticket → (ℕ → ℕ) → (ℕ → ℕ) → List (KmsEntry D W) → FillTurn → Type 0
FillsBy None words words' made result = FillsNothing words words' made result
FillsBy (Some ticket) words words' made result = FillsQueue ticket words words' made result

-- A pass made the deposits of a ticket, and no other entries.
pub record FillsKeys {D W : Type 0} (state : D → DiskState) (to_come : W → ℕ → ℕ) (ticket : Ticket) (words words' : ℕ → ℕ) (v : KmsKnown D W) (result : FillTurn) (w : KmsKnown D W) : Type 0 where
  pub made : List (KmsEntry D W)
  pub makes : MakesAll state to_come v made w
  pub fills : FillsQueue ticket words words' made result

-- A whole turn: the pass made the entry of a ticket, then the deposits, and no other entries.
pub record FillsTurn {D W : Type 0} (state : D → DiskState) (to_come : W → ℕ → ℕ) (words words' : ℕ → ℕ) (v : KmsKnown D W) (result : FillTurn) (w : KmsKnown D W) : Type 0 where
  pub ticket : Option Ticket
  pub asked : KmsEntry D W
  pub made : List (KmsEntry D W)
  pub call_is : asked.call ≡ act.Ticket
  pub reply_is : asked.reply ≡ acted.Ticket ticket
  pub makes : MakesAll state to_come v (asked ∷ made) w
  pub fills : FillsBy ticket words words' made result
