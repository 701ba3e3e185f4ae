-- The key management service in an opening.
use Rattle.std.specs.Prelude.{◌≡◌, ℕ, ◌+◌, ◌*◌, ◌^◌, ◌<◌, ◌≤◌, Bool, true, false, nat_le, List, [], Option, None, Some, IfSome}
use Rattle.std.specs.List.{AllByRecursion}
use Rattle.hk_base.specs.declared.names.Edek.{Edek}
use Rattle.key_rows.specs.declared.rows.KeyRow.{KeyRow}
use Rattle.key_rows.specs.declared.rows.KeyCommand.{KeyCommand}
use Rattle.key_rows.specs.declared.rows.KeyCommand.TheVariants.{Opened, Create, Roll, Delete}
use Rattle.key_rows.specs.Sound.{IsKeyTable}
use Rattle.key_rows.specs.Table.{Table, after, applies, current_of, find_birth}
use Rattle.prop_text.specs.SizeValues.{SizeValues}
use Rattle.kms_store.specs.Store.{StoreState, next_opening, settled_table}
use Rattle.eek_queues.specs.Queues.{AllQueues, Queue, dropped, set_ready}

-- the keys, the counter of the next birth, and the queues of ready keys
pub record KmsState : Type 0 where
  pub table : Table
  pub next : ℕ
  pub ready : AllQueues

-- a birth is the opening and, below it, the counter
abbrev pub next_birth : KmsState → ℕ
next_birth s = s.table.opening * 2 ^ 32 + s.next

-- each counter of the opening is used
abbrev pub is_spent : KmsState → Bool
is_spent s = nat_le (2 ^ 32) s.next

-- the service over a disk: its keys, and the command whose record may or may not be on the disk
pub record ServiceState : Type 0 where
  pub keys : KmsState
  pub pending : Option KeyCommand

-- the queues with the queue of this birth emptied, or dropped

abbrev pub emptied : AllQueues → ℕ → AllQueues
emptied all birth = record all { queues = set_ready all.queues birth [] }

abbrev pub without : AllQueues → ℕ → AllQueues
without all birth = record all { queues = dropped all.queues birth }

-- the queues after a command took effect: a rollover empties the queue of its key, and a deletion drops it
abbrev pub queues_after : AllQueues → KeyCommand → AllQueues
queues_after all (Opened opening) = all
queues_after all (Create birth name bits description created material) = all
queues_after all (Roll birth number material) = emptied all birth
queues_after all (Delete birth) = without all birth

-- the keys after a command took effect
abbrev pub took : KmsState → KeyCommand → KmsState
took s command = record s { table = after s.table command; ready = queues_after s.ready command }

-- the queues once the pending command was settled: kept or dropped
abbrev pub settled_queues : Bool → Option KeyCommand → AllQueues → AllQueues
settled_queues kept None all = all
settled_queues true (Some command) all = queues_after all command
settled_queues false (Some command) all = all

-- The keys after the pending command was settled: kept or dropped. A kept command takes effect (`took`); its effect is stated field by
-- field here, so that a field is known without the command.
abbrev pub settled : Bool → ServiceState → KmsState
settled kept s = record s.keys { table = settled_table kept s.pending s.keys.table; ready = settled_queues kept s.pending s.keys.ready }

-- no queues yet, of the sizes of the properties
abbrev pub no_queues : SizeValues → AllQueues
no_queues sizes = record { size = sizes.queue; watermark = sizes.watermark; queues = [] }

-- after a start that found this table: in the next opening, with nothing pending, and without queues, whose sizes stay
abbrev pub service_after_opening : AllQueues → Table → ServiceState
service_after_opening all t = record { keys = record { table = after t (next_opening t); next = 1; ready = record all { queues = [] } }; pending = None }

-- a queue is of an existing key, and its ready keys are of the key's current version
abbrev pub IsReadyFor : List KeyRow → Queue → Type 0
IsReadyFor rows q = (row : KeyRow) × (find_birth rows q.birth ≡ Some row) × AllByRecursion (λ (e : Edek). e.version ≡ current_of row) q.ready

abbrev pub AllReady : List KeyRow → List Queue → Type 0
AllReady rows queues = AllByRecursion (IsReadyFor rows) queues

-- a command that may be pending: it applies in this opening, and the birth of the key that it would create is taken
pub record IsPending (s : KmsState) (command : KeyCommand) : Type 0 where
  pub fits : applies s.table command ≡ true
  pub same_opening : (after s.table command).opening ≡ s.table.opening
  pub births : (after s.table command).greatest < next_birth s

-- What is true of each service: births in use are below the next one, which is at most the first of the next opening. Each queue is of an
-- existing key, and holds ready keys of its current version.
pub record IsService (s : ServiceState) : Type 0 where
  pub table : IsKeyTable s.keys.table
  pub births : s.keys.table.greatest < next_birth s.keys
  pub counter : s.keys.next ≤ 2 ^ 32
  pub waits : IfSome s.pending (IsPending s.keys)
  pub ready : AllReady s.keys.table.rows s.keys.ready.queues

-- What the fields of a service keep: births in use are below the next one, also once the pending command took effect, and each queue
-- holds ready keys of the current version of its key.
abbrev pub Keeps : ServiceState → Type 0
Keeps s =
    (0 < s.keys.table.opening) × (s.keys.table.opening < 2 ^ 32) × (s.keys.table.greatest < s.keys.table.opening * 2 ^ 32 + s.keys.next) × (s.keys.next ≤ 2 ^ 32)
    × IfSome s.pending (λ command. ((after s.keys.table command).opening ≡ s.keys.table.opening) × ((after s.keys.table command).greatest < s.keys.table.opening * 2 ^ 32 + s.keys.next))
    × AllReady s.keys.table.rows s.keys.ready.queues

-- A running service: its store, the counter of the next birth, and the queues of ready keys.
pub record Running : Type 0 where
  pub store : StoreState
  pub next : ℕ
  pub ready : AllQueues

abbrev pub keys_of : Running → KmsState
keys_of r = record { table = r.store.table.keys; next = r.next; ready = r.ready }

-- the state of a running service, without its disk
abbrev pub service_of : Running → ServiceState
service_of r = record { keys = keys_of r; pending = r.store.pending }
