-- Whatever the key management service does, zone files open to their draws.
use Rattle.std.specs.Prelude.{◌≡◌, ℕ, List}
use Rattle.hk_base.specs.Disk.{DiskState}
use Rattle.eek_seal.specs.declared.tickets.Ticket.{Ticket}
use Rattle.hist_cell.specs.History.{LegalAfter, state_after}
use Rattle.name_core.specs.State.{NameService}
use Rattle.kms_cell.specs.Entries.{KmsEntry}
use Rattle.kms_cell.specs.Steps.{KmsSteps}
use Rattle.kms_cell.specs.Tickets.{HasTicket, KmsAllows}
use Rattle.kms_cell.specs.Views.{KmsView}
use Rattle.world_run.specs.Ledger.{Hidden}
use Rattle.world_run.specs.Linked.{LinkedWorld, ServicesFit}
use Rattle.world_run.specs.Promise.{In, ZoneFilesOpen}
use Rattle.world_run.specs.World.{Kept}
use Rattle.thread_laws.specs.Worlds.{keys_of_view, world_with}

-- The world is linked again with these keys, and its zone files open. The same draws are entered.
pub record StaysOpen {D W : Type 0} (names : NameService) (h : Hidden) (last : KmsView D W) : Type 0 where
  pub kept : Kept
  pub hidden : Hidden
  pub ledger : hidden.ledger ≡ h.ledger
  pub starts : hidden.starts ≡ h.starts
  pub linked : LinkedWorld (world_with (keys_of_view last) names kept) hidden
  pub open_up : ZoneFilesOpen (world_with (keys_of_view last) names kept) hidden

-- A linked world stays linked in every legal history of the keys, with the same entries, and its zone files open. The tickets that the
-- history returned before are kept.
abbrev pub KeysKeepFilesOpen : {D W : Type 0} → (D → DiskState) → (W → ℕ → ℕ) → Type 0
KeysKeepFilesOpen {D = D} {W = W} state to_come =
    (before es : List (KmsEntry D W)) (first : KmsView D W) (names : NameService) (kept : Kept) (h : Hidden)
    → ServicesFit (world_with (keys_of_view first) names kept) → LinkedWorld (world_with (keys_of_view first) names kept) h
    → ((t : Ticket) → HasTicket t before → In t kept.tickets)
    → LegalAfter (KmsSteps {D = D} {W = W} state to_come) (KmsAllows {S = KmsView D W}) before first es → StaysOpen names h (state_after first es)
