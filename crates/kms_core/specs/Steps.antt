-- The steps that the service takes in a call.
use Rattle.std.specs.Prelude.{◌≡◌, ◌≤◌, ◌<◌, ℕ, Bool, ◌+◌, ◌-◌, ◌/◌, ◌⊎◌, true, false, is_none, is_some, IsTrue, List, [], ◌++◌, None, Some, Result, Ok, Err, length, take, slice_get, unwrap_or, bytes_eq, MatchOption, if◌then◌else◌}
use Rattle.hk_base.specs.declared.names.KeyName.{KeyName}
use Rattle.hk_base.specs.declared.names.Dek.{Dek}
use Rattle.hk_base.specs.declared.names.Edek.{Edek}
use Rattle.eek_seal.specs.Seal.{seal, unseal}
use Rattle.eek_seal.specs.Tickets.{SealedKey}
use Rattle.key_rows.specs.declared.rows.KeyRow.{KeyRow}
use Rattle.key_rows.specs.Sound.{IsRow}
use Rattle.key_rows.specs.Table.{find_birth, material_of, current_of}
use Rattle.kms_calls.specs.declared.calls.RawEdek.{RawEdek}
use Rattle.kms_calls.specs.declared.calls.KmsCall.{KmsCall}
use Rattle.kms_calls.specs.declared.calls.KmsReply.{KmsReply}
use Rattle.kms_calls.specs.declared.calls.KmsReply.TheVariants.{Refused}
use Rattle.kms_calls.specs.declared.calls.KmsRefusal.{KmsRefusal}
use Rattle.kms_calls.specs.declared.calls.KmsRefusal.TheVariants.{NoMemory, StoreFault}
use Rattle.key_rows.specs.declared.rows.KeyCommand.{KeyCommand}
use Rattle.hk_base.specs.Disk.{DiskState, Tells}
use Rattle.hk_base.specs.Faults.{Rose}
use Rattle.kms_store.specs.Store.{Applies, IsLeftOf, NoCommand, ReadsMaterials, settled_commands}
use Rattle.eek_queues.specs.Queues.{AllQueues, ready_in}
use Rattle.kms_core.specs.State.{KmsState, Running, ServiceState, emptied, keys_of, service_of, settled, without}
use Rattle.kms_core.specs.declared.queued.QueueChange.{QueueChange}
use Rattle.kms_core.specs.declared.queued.QueueChange.TheVariants.{Empty, Keep, Remove}
use Rattle.kms_core.specs.Service.{Changes, IsGrowing, Logs, WasWritten, commands_of, reads_older}
use Rattle.kms_core.specs.Calls.{CallActs, Deed, handed_out, done_with, causes, deed, takes_memory, birth_of, bits_of, versions_of, row_of, current_version, first_cause, sent_causes, is_malformed, edek_of, same_version}
use Rattle.kms_core.specs.Draws.{drawn_edeks, place_of_draw}
use Rattle.kms_core.specs.declared.drawing.CurrentVersion.{CurrentVersion}
use Rattle.kms_core.specs.declared.known.Known.{Known}
use Rattle.kms_core.specs.declared.known.SentParts.{SentParts}
use Rattle.kms_core.specs.declared.service.Standing.{Standing}

-- the deed is done, or memory ran out and nothing changes
abbrev pub Enacts : KmsState → Deed → KmsReply → KmsState → Type 0
Enacts s d reply s' = ((reply ≡ d.answer) × (s' ≡ done_with d.logs d.state)) ⊎ ((reply ≡ Refused NoMemory) × (s' ≡ s))

-- a call that only answers: it is refused for its first cause, or answered, or memory ran out if it allocates
abbrev pub Answers : KmsState → KmsCall → KmsReply → KmsReply → Type 0
Answers s c answer reply =
    MatchOption (first_cause (causes s c)) ((reply ≡ answer) ⊎ ((takes_memory c ≡ true) × (reply ≡ Refused NoMemory))) (λ why. reply ≡ Refused why)

-- the data of a key that exists
pub record StandsSo (s : KmsState) (name : KeyName) (key : Standing) : Type 0 where
  pub stands : is_none (row_of s name) ≡ false
  pub found : find_birth s.table.rows key.birth ≡ row_of s name
  pub birth : key.birth ≡ birth_of (row_of s name)
  pub bits : key.bits ≡ bits_of (row_of s name)
  pub versions : key.versions ≡ versions_of (row_of s name)

-- `count` words were drawn
abbrev pub Drew : (ℕ → ℕ) → (ℕ → ℕ) → ℕ → Type 0
Drew words words' count = (k : ℕ) → words' k ≡ words (count + k)

-- data encryption keys were drawn, and added to others
pub record DrewKeys (current : CurrentVersion) (words words' : ℕ → ℕ) (count : ℕ) (others keys : List Edek) : Type 0 where
  pub drawn : keys ≡ others ++ drawn_edeks current.version current.material words count
  pub rest : Drew words words' (place_of_draw (length current.material) count)

-- memory ran out, after at most the words of `count` data encryption keys
pub record DrewSome (current : CurrentVersion) (words words' : ℕ → ℕ) (count : ℕ) : Type 0 where
  pub drawn : ℕ
  pub few : drawn ≤ place_of_draw (length current.material) count
  pub rest : Drew words words' drawn

-- the current version of a key that exists, with its material
pub record IsCurrent (s : KmsState) (name : KeyName) (current : CurrentVersion) : Type 0 where
  pub stands : is_none (row_of s name) ≡ false
  pub birth : current.birth ≡ birth_of (row_of s name)
  pub found : find_birth s.table.rows current.birth ≡ row_of s name
  pub version : current.version ≡ current_version (row_of s name)
  pub material : material_of s.table.rows current.version ≡ Some current.material

-- the current version of a key, with its material
pub record IsNewest (row : KeyRow) (current : CurrentVersion) : Type 0 where
  pub birth : current.birth ≡ row.birth
  pub version : current.version ≡ current_of row
  pub material : slice_get row.materials (length row.materials - 1) ≡ Some current.material
  pub long : length current.material ≡ row.bits / 8

-- the sent key is well formed, with these parts
pub record HasSentParts (bits : ℕ) (sent : RawEdek) (vector key : List ℕ) : Type 0 where
  pub formed : is_malformed bits sent ≡ false
  pub iv : vector ≡ sent.iv
  pub sealed : key ≡ sent.sealed
  pub long : length key ≡ bits / 8

-- the sent key has no cause of a refusal at its key
abbrev pub Allowed : KeyRow → RawEdek → Type 0
Allowed row sent = first_cause (sent_causes (Some row) row.name sent) ≡ None

-- the sent key has no cause of a refusal at its key; these are its parts
pub record ChecksSent (row : KeyRow) (sent : RawEdek) (parts : SentParts) : Type 0 where
  pub allowed : Allowed row sent
  pub same : bytes_eq sent.version.key row.name ≡ true
  pub below : sent.version.number < length row.materials
  pub iv : parts.iv ≡ sent.iv
  pub sealed : parts.sealed ≡ sent.sealed
  pub as_long : length parts.sealed ≡ row.bits / 8

-- the sent key, opened under the material of its version
abbrev pub opened_in : KeyRow → RawEdek → Dek
opened_in row sent = unseal (unwrap_or (slice_get row.materials sent.version.number) []) sent.iv sent.sealed

-- the sent key, under the current version
abbrev pub resealed_in : KeyRow → RawEdek → Edek
resealed_in row sent =
    if same_version sent.version (current_of row) then edek_of sent
    else record {
      version = current_of row;
      iv = sent.iv;
      sealed = seal (unwrap_or (slice_get row.materials (length row.materials - 1)) []) sent.iv (opened_in row sent);
    }

-- what a call that reads materials knows of a key
pub record IsKnown (key : KeyRow) (known : Known) : Type 0 where
  pub name : known.name ≡ key.name
  pub birth : known.birth ≡ key.birth
  pub bits : known.bits ≡ key.bits
  pub versions : known.versions ≡ length key.materials
  pub current : slice_get key.materials (known.versions - 1) ≡ Some known.current

-- that is known of the key with the name
pub record HasKey (s : KmsState) (name : KeyName) (known : Known) : Type 0 where
  pub key : KeyRow
  pub found : row_of s name ≡ Some key
  pub knows : IsKnown key known
  pub rules : IsRow key
  pub born : find_birth s.table.rows key.birth ≡ Some key

-- Materials were read, and only what is kept of them in memory may have changed. The pending command still applies.
pub record ReadsOnly (old new : DiskState) (r r' : Running) : Type 0 where
  pub store : ReadsMaterials old new r.store r'.store
  pub rest : r' ≡ record r { store = r'.store }
  pub fits : Applies r.store.table.keys r.store.pending

-- What a call that reads materials gives: its answer, which is known unless it rests on an older material and the disk does not
-- tell its content; or the first cause of its refusal; or, if it has none, there was no memory or the disk failed.
abbrev pub GivesAnswer : {X : Type 0} → DiskState → DiskState → KmsState → KmsCall → X → Result X KmsRefusal → Type 0
GivesAnswer old new s c answer (Ok x) = (first_cause (causes s c) ≡ None) × ((IsTrue (reads_older s c) → Tells old) → x ≡ answer)
GivesAnswer old new s c answer (Err why) =
    (first_cause (causes s c) ≡ Some why)
    ⊎ ((first_cause (causes s c) ≡ None) × (((takes_memory c ≡ true) × (why ≡ NoMemory)) ⊎ (IsTrue (reads_older s c) × Rose old.faults new.faults × (why ≡ StoreFault))))

-- A generate took the oldest ready keys of the current version, and drew the rest.
pub record HandsOut (all all' : AllQueues) (current : CurrentVersion) (words words' : ℕ → ℕ) (count : ℕ) (keys : List Edek) : Type 0 where
  pub drew : DrewKeys current words words' (count - length (ready_in all.queues current.birth)) (take count (ready_in all.queues current.birth)) keys
  pub queues : all' ≡ handed_out all current.birth count

-- a call on the queues of ready keys
pub record WorksOnQueues (r : Running) (words : ℕ → ℕ) (now : ℕ) (c : KmsCall) (reply : KmsReply) (r' : Running) (words' : ℕ → ℕ) : Type 0 where
  pub store : r'.store ≡ r.store
  pub acts : CallActs (keys_of r) words now c reply (keys_of r') words'

-- a sealed key is of the newest version of the key of its birth
pub record IsOfNewest (s : KmsState) (x : SealedKey) : Type 0 where
  pub row : KeyRow
  pub found : find_birth s.table.rows x.birth ≡ Some row
  pub version : x.version ≡ current_of row

-- what a command does to the queues of ready keys
abbrev pub changed : QueueChange → AllQueues → AllQueues
changed Keep all = all
changed (Empty birth) all = emptied all birth
changed (Remove birth) all = without all birth

-- Calls over a disk.

-- A deed while nothing is pending: it is written and done; or memory ran out, and nothing changes; or the disk failed while
-- its command was written, which is then pending.
abbrev pub EndsSo : KmsState → Deed → Type 0 → KmsReply → List KeyCommand → ServiceState → Type 0
EndsSo s d fault reply logged s' =
    ((reply ≡ d.answer) × (logged ≡ commands_of d.logs) × (s' ≡ record { keys = done_with d.logs d.state; pending = None }))
    ⊎ ((reply ≡ Refused NoMemory) × (logged ≡ []) × (s' ≡ record { keys = s; pending = None }))
    ⊎ (fault × (reply ≡ Refused StoreFault) × (logged ≡ []) × (s' ≡ record { keys = d.state; pending = d.logs }))

-- the command that a deed with this answer and this state after it may write
pub record OwnDeed (d : Deed) (reply : KmsReply) (s' : ServiceState) (command : KeyCommand) : Type 0 where
  pub is : d.logs ≡ Some command
  pub was_written : WasWritten reply s' command

pub record Commits (old new : DiskState) (r : Running) (d : Deed) (reply : KmsReply) (r' : Running) : Type 0 where
  pub logged : List KeyCommand
  pub ends : EndsSo (keys_of r) d (Rose old.faults new.faults) reply logged (service_of r')
  pub disk : Logs old new r.store r'.store (IsGrowing r.store.table.keys (OwnDeed d reply (service_of r'))) logged

-- the pending command was settled: kept or dropped
pub record Settling (old new : DiskState) (r r' : Running) : Type 0 where
  pub kept : Bool
  pub service : service_of r' ≡ record { keys = settled kept (service_of r); pending = None }
  pub disk : Logs old new r.store r'.store (IsLeftOf r.store.table.keys r.store.pending NoCommand) (settled_commands kept r.store.pending)

-- the disk failed, and the command is still pending
pub record IsUnsettled (old new : DiskState) (r r' : Running) : Type 0 where
  pub waits : is_some r.store.pending ≡ true
  pub failed : Rose old.faults new.faults
  pub same : r' ≡ r
  pub disk : Logs old new r.store r'.store (IsLeftOf r.store.table.keys r.store.pending NoCommand) []

-- the command that a change with this answer and this state after it may write, while nothing is pending
pub record OwnChange (s : KmsState) (words : ℕ → ℕ) (now : ℕ) (c : KmsCall) (reply : KmsReply) (s' : ServiceState) (command : KeyCommand) : Type 0 where
  pub free : first_cause (causes s c) ≡ None
  pub is : (deed s words now c).logs ≡ Some command
  pub was_written : WasWritten reply s' command

-- a change of keys while nothing is pending
pub record ActsSettled (old new : DiskState) (r : Running) (words : ℕ → ℕ) (now : ℕ) (c : KmsCall) (reply : KmsReply) (r' : Running) (words' : ℕ → ℕ) : Type 0 where
  pub drawn : ℕ
  pub logged : List KeyCommand
  pub changes : Changes (keys_of r) [] words now c (Rose old.faults new.faults) reply drawn logged (service_of r')
  pub rest : Drew words words' drawn
  pub disk : Logs old new r.store r'.store (IsGrowing r.store.table.keys (OwnChange (keys_of r) words now c reply (service_of r'))) logged
