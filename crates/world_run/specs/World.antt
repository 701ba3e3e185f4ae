-- Both services, and the tickets, notes, batches and replies that are kept.
use Rattle.std.specs.Prelude.{ℕ, zero, suc, ◌+◌, List, [], ◌∷◌, ◌++◌, length, Option, None, slice_get}
use Rattle.key_rows.specs.Table.{Table}
use Rattle.prop_text.specs.SizeValues.{SizeValues}
use Rattle.eek_seal.specs.declared.tickets.Ticket.{Ticket}
use Rattle.kms_core.specs.State.{ServiceState, no_queues, service_after_opening, service_of}
use Rattle.kms_core.specs.Users.{RunningKms, running}
use Rattle.name_store.specs.Table.{NameTable}
use Rattle.name_core.specs.State.{NameService, NameState, RunningNames, started, service_of as names_service}
use Rattle.name_calls.specs.declared.calls.AskNote.{AskNote}
use Rattle.reenc_walk.specs.declared.sent.BatchNote.{BatchNote}
use Rattle.world_run.specs.declared.kept.KeptReply.{KeptReply}

-- the tickets, the notes of asks, the batches and the replies that are kept: nothing is ever taken away
pub record Kept : Type 0 where
  pub tickets : List Ticket
  pub notes : List AskNote
  pub batches : List BatchNote
  pub replies : List KeptReply

-- the key management service, the namesystem, and what is kept
pub record WorldState : Type 0 where
  pub keys : ServiceState
  pub names : NameService
  pub kept : Kept

-- nothing is kept
abbrev pub none_kept : Kept
none_kept = record { tickets = []; notes = []; batches = []; replies = [] }

-- after a start with these sizes that found these two tables: nothing is kept, and no key is ready
abbrev pub first_world : SizeValues → Table → NameTable → WorldState
first_world sizes table names = record { keys = service_after_opening (no_queues sizes) table; names = started sizes.batch names; kept = none_kept }

-- A running world: its key management service has access control lists and a store, and its namesystem has a store.
pub record RunningWorld : Type 0 where
  pub keys : RunningKms
  pub names : RunningNames
  pub kept : Kept

-- the state of a running world, without its disk and its lists
abbrev pub world_of : RunningWorld → WorldState
world_of r = record { keys = service_of (running r.keys); names = names_service r.names; kept = r.kept }

-- the world with the namesystem in another state, and the same operation pending
abbrev pub with_names : NameState → WorldState → WorldState
with_names names w = record w { names = record w.names { names = names } }

-- the value kept under a number, from 1
abbrev pub numbered : {X : Type 0} → List X → ℕ → Option X
numbered xs zero = None
numbered xs (suc n) = slice_get xs n

-- the world with one more ticket, with one more note, with one more batch, and with one more reply
abbrev pub with_ticket : Ticket → WorldState → WorldState
with_ticket ticket w = record w { kept = record w.kept { tickets = w.kept.tickets ++ ticket ∷ [] } }

abbrev pub with_note : AskNote → WorldState → WorldState
with_note note w = record w { kept = record w.kept { notes = w.kept.notes ++ note ∷ [] } }

abbrev pub with_batch : BatchNote → WorldState → WorldState
with_batch batch w = record w { kept = record w.kept { batches = w.kept.batches ++ batch ∷ [] } }

abbrev pub with_reply : KeptReply → WorldState → WorldState
with_reply reply w = record w { kept = record w.kept { replies = w.kept.replies ++ reply ∷ [] } }

-- the numbers under which the next ones are kept
abbrev pub next_ticket : WorldState → ℕ
next_ticket w = length w.kept.tickets + 1

abbrev pub next_note : WorldState → ℕ
next_note w = length w.kept.notes + 1

abbrev pub next_batch : WorldState → ℕ
next_batch w = length w.kept.batches + 1

abbrev pub next_reply : WorldState → ℕ
next_reply w = length w.kept.replies + 1
