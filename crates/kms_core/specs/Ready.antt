-- Ready keys: the tickets with which they are sealed, and their deposit in the queues.
use Rattle.std.specs.Prelude.{ℕ, ◌-◌, Bool, false, true, ◌&&◌, ◌==◌, [], ◌∷◌, ◌++◌, length, Option, None, Some, option_map, slice_get, unwrap_or, if◌then◌else◌}
use Rattle.hk_base.specs.declared.names.Dek.{Dek}
use Rattle.hk_base.specs.declared.names.Edek.{Edek}
use Rattle.eek_seal.specs.Tickets.{SealedKey}
use Rattle.eek_seal.specs.declared.tickets.Ticket.{Ticket}
use Rattle.eek_queues.specs.Queues.{AllQueues, has_queue, limit, lowest, ready_in, set_ready}
use Rattle.key_rows.specs.declared.rows.KeyRow.{KeyRow}
use Rattle.key_rows.specs.Table.{find_birth}
use Rattle.kms_core.specs.State.{KmsState}
use Rattle.kms_core.specs.Calls.{birth_of, current_version, row_of}
use Rattle.eek_seal.specs.declared.deposit.Deposit.{Deposit}
use Rattle.eek_seal.specs.declared.deposit.Deposit.TheVariants.{Full, Kept, Stale}

-- the material of the newest version
abbrev pub newest_material : Option KeyRow → Dek
newest_material None = []
newest_material (Some row) = unwrap_or (slice_get row.materials (length row.materials - 1)) []

-- a ticket for the queue of this birth: the key's current version with its material, and how many more ready keys the queue can hold
abbrev pub ticket_for : KmsState → ℕ → Ticket
ticket_for s birth =
    let row = find_birth s.table.rows birth in
    record {
      opening = s.table.opening;
      birth = birth;
      version = current_version row;
      material = newest_material row;
      wanted = s.ready.size - length (ready_in s.ready.queues birth);
    }

-- the birth of the low queue with the fewest ready keys, the lowest birth among equals
abbrev pub low_birth : AllQueues → Option ℕ
low_birth all = option_map (λ q. q.birth) (lowest (limit all) all.queues)

-- the ticket for that queue, if a queue is low
abbrev pub ticket_of : KmsState → Option Ticket
ticket_of s = option_map (ticket_for s) (low_birth s.ready)

-- the birth and the version of a sealed key are those of the key now
abbrev pub is_of_key : Option KeyRow → SealedKey → Bool
is_of_key None x = false
is_of_key (Some row) x = x.birth == row.birth && x.version.number == length row.materials - 1

-- the opening, the birth and the version of a sealed key are the current ones
abbrev pub is_present : KmsState → SealedKey → Bool
is_present s x = is_of_key (row_of s x.version.key) x && x.opening == s.table.opening

-- the current opening, and the birth and the newest version of the key: both 0 if there is no such key
abbrev pub stale_for : KmsState → Option KeyRow → Deposit
stale_for s row = Stale s.table.opening (birth_of row) (current_version row).number

-- there is no room for a ready key of this birth: its queue holds as many as it can, or it has no queue
abbrev pub is_filled : AllQueues → ℕ → Bool
is_filled all birth = if has_queue all.queues birth then length (ready_in all.queues birth) == all.size else true

-- the answer to a deposit
abbrev pub deposit_answer : KmsState → SealedKey → Deposit
deposit_answer s x =
    if is_present s x then (if is_filled s.ready x.birth then Full else Kept)
    else stale_for s (row_of s x.version.key)

abbrev pub edek_of_sealed : SealedKey → Edek
edek_of_sealed x = record { version = x.version; iv = x.iv; sealed = x.sealed }

-- the queues with one more ready key, the newest of its queue
abbrev pub with_sealed : AllQueues → SealedKey → AllQueues
with_sealed all x = record all { queues = set_ready all.queues x.birth (ready_in all.queues x.birth ++ edek_of_sealed x ∷ []) }

-- the queues after a deposit with this answer
abbrev pub queues_with : AllQueues → SealedKey → Deposit → AllQueues
queues_with all x Kept = with_sealed all x
queues_with all x Full = all
queues_with all x (Stale opening birth number) = all

-- the keys after a deposit
abbrev pub deposited : KmsState → SealedKey → KmsState
deposited s x = record s { ready = queues_with s.ready x (deposit_answer s x) }
