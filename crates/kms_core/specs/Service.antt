-- The calls of the key management service over a store and its disk.
use Rattle.std.specs.Prelude.{◌≡◌, ◌⊎◌, ℕ, ◌+◌, Bool, true, false, nat_lt, List, [], ◌∷◌, ◌++◌, Option, None, Some, is_some, IfSome, IsTrue, map}
use Rattle.std.specs.List.{list_any}
use Rattle.hk_base.specs.declared.names.Edek.{Edek}
use Rattle.hk_base.specs.declared.names.KeyName.{KeyName}
use Rattle.hk_base.specs.Disk.{DiskState, Tells, RunOn, LeavesOnly}
use Rattle.hk_base.specs.Faults.{Rose}
use Rattle.key_rows.specs.declared.rows.KeyCommand.{KeyCommand}
use Rattle.kms_calls.specs.declared.calls.KmsCall.{KmsCall}
use Rattle.kms_calls.specs.declared.calls.KmsCall.TheVariants as call
use Rattle.kms_calls.specs.declared.calls.KmsReply.{KmsReply}
use Rattle.kms_calls.specs.declared.calls.RawEdek.{RawEdek}
use Rattle.kms_calls.specs.declared.calls.KmsReply.TheVariants as reply
use Rattle.kms_calls.specs.declared.calls.KmsRefusal.{KmsRefusal}
use Rattle.kms_calls.specs.declared.calls.KmsRefusal.TheVariants as refusal
use Rattle.key_rows.specs.Records.{HasSpelling}
use Rattle.key_rows.specs.Table.{Table}
use Rattle.kms_store.specs.Store.{Applies, IsKeyLog, IsLeftOf, IsLogOf, IsKeyStoreOf, StoreState, is_older, next_opening, settled_commands}
use Rattle.kms_core.specs.State.{KmsState, Running, ServiceState, service_after_opening, service_of, settled}
use Rattle.kms_core.specs.Calls.{KmsActs, causes, deed, first_cause, resealed, row_of, versions_of}

-- What a call may do: only read; or work on the queues of ready keys, and write nothing; or change keys, and write to the log.
-- A call that commits settles the pending command first. The others answer from the table without it.
pub data Kind : Type 0 where
  Reading : Kind
  Working : Kind
  Committing : Kind

abbrev pub kind : KmsCall → Kind
kind (call.Create name bits material description) = Committing
kind (call.Roll name material) = Committing
kind (call.Delete name) = Committing
kind (call.Invalidate name) = Working
kind (call.Metadata name) = Reading
kind (call.Metadatas names) = Reading
kind call.Names = Reading
kind (call.Current name) = Reading
kind (call.Versions name) = Reading
kind (call.Version version) = Reading
kind (call.Generate name count) = Working
kind (call.Decrypt name sent) = Reading
kind (call.Reencrypt name sent) = Reading
kind (call.Batch name sent) = Reading

abbrev pub commands_of : Option KeyCommand → List KeyCommand
commands_of None = []
commands_of (Some command) = command ∷ []

-- a command is acknowledged by an answer that is not a refusal
abbrev pub acknowledged : KmsReply → Option KeyCommand → List KeyCommand
acknowledged (reply.Refused why) logs = []
acknowledged _ logs = commands_of logs

-- Whether a call reads the material of a version that is not the current one of its key. It may be on the disk alone.
abbrev pub reads_older : KmsState → KmsCall → Bool
reads_older s (call.Create name bits material description) = false
reads_older s (call.Roll name material) = false
reads_older s (call.Delete name) = false
reads_older s (call.Invalidate name) = false
reads_older s (call.Metadata name) = false
reads_older s (call.Metadatas names) = false
reads_older s call.Names = false
reads_older s (call.Current name) = false
reads_older s (call.Versions name) = nat_lt 1 (versions_of (row_of s name))
reads_older s (call.Version version) = is_older s.table version
reads_older s (call.Generate name count) = false
reads_older s (call.Decrypt name sent) = is_older s.table sent.version
reads_older s (call.Reencrypt name sent) = is_older s.table sent.version
reads_older s (call.Batch name sent) = list_any (λ (edek : RawEdek). is_older s.table edek.version) sent

-- a call that is not refused reads such a material
pub record ReadsOlder (s : KmsState) (c : KmsCall) : Type 0 where
  pub free : first_cause (causes s c) ≡ None
  pub older : IsTrue (reads_older s c)

-- the disk failed while such a material was read
pub record ReadFails (s : KmsState) (c : KmsCall) (fault : Type 0) (result : KmsReply) : Type 0 where
  pub reads : ReadsOlder s c
  pub failed : fault
  pub reply_is : result ≡ reply.Refused refusal.StoreFault

-- a refusal of a call that changes nothing is its first cause, or memory ran out, or the disk failed
abbrev pub RefusesFor : KmsState → KmsCall → Type 0 → KmsRefusal → Type 0
RefusesFor s c fault why = (first_cause (causes s c) ≡ Some why) ⊎ ((why ≡ refusal.NoMemory) ⊎ ((why ≡ refusal.StoreFault) × fault))

-- the encrypted keys that answer a batch are of the versions that they must be of
abbrev pub OfVersions : KmsState → KmsCall → KmsReply → Type 0
OfVersions s c result =
    (name : KeyName) (sent : List RawEdek) (edeks : List Edek) → c ≡ call.Batch name sent → result ≡ reply.Ready edeks
    → map (λ (edek : Edek). edek.version) edeks ≡ map (λ (edek : RawEdek). (resealed s name edek).version) sent

-- A call that changes nothing. What it answers of a material that it reads from the disk is known if the disk tells its content;
-- why it is refused, and the versions of keys that it returns, are known in any case.
pub record OnlyReads (s : ServiceState) (words : ℕ → ℕ) (now : ℕ) (c : KmsCall) (fault tells : Type 0) (result : KmsReply) (drawn : ℕ) (logged : List KeyCommand) (s' : ServiceState) : Type 0 where
  pub acts : (ReadsOlder s.keys c → tells) → KmsActs s.keys words now c result drawn s.keys ⊎ ReadFails s.keys c fault result
  pub fails : result ≡ reply.Refused refusal.StoreFault → fault
  pub refuses : (why : KmsRefusal) → result ≡ reply.Refused why → RefusesFor s.keys c fault why
  pub versions : OfVersions s.keys c result
  pub none_drawn : drawn ≡ 0
  pub none_logged : logged ≡ []
  pub same : s' ≡ s

-- a call that may change the queues, and writes nothing
pub record OnlyWorks (s : ServiceState) (words : ℕ → ℕ) (now : ℕ) (c : KmsCall) (result : KmsReply) (drawn : ℕ) (logged : List KeyCommand) (s' : ServiceState) : Type 0 where
  pub changed : KmsState
  pub acts : KmsActs s.keys words now c result drawn changed
  pub none_logged : logged ≡ []
  pub left : s' ≡ record s { keys = changed }

-- The pending command could not be settled: it is still pending, and nothing changed.
pub record Unsettled (s : ServiceState) (fault : Type 0) (result : KmsReply) (drawn : ℕ) (logged : List KeyCommand) (s' : ServiceState) : Type 0 where
  pub waits : is_some s.pending ≡ true
  pub failed : fault
  pub reply_is : result ≡ reply.Refused refusal.StoreFault
  pub none_drawn : drawn ≡ 0
  pub none_logged : logged ≡ []
  pub same : s' ≡ s

-- A change of keys while nothing is pending, after the commands that were settled. Its command, if it has one, was written
-- to the log.
pub record Written (keys : KmsState) (before : List KeyCommand) (words : ℕ → ℕ) (now : ℕ) (c : KmsCall) (result : KmsReply) (drawn : ℕ) (logged : List KeyCommand) (s' : ServiceState) : Type 0 where
  pub changed : KmsState
  pub acts : KmsActs keys words now c result drawn changed
  pub logged_is : logged ≡ before ++ acknowledged result (deed keys words now c).logs
  pub left : s' ≡ record { keys = changed; pending = None }

-- The disk failed while the change was written: its command is pending, its birth is used, and nothing else changed.
pub record Unwritten (keys : KmsState) (before : List KeyCommand) (words : ℕ → ℕ) (now : ℕ) (c : KmsCall) (fault : Type 0) (result : KmsReply) (drawn : ℕ) (logged : List KeyCommand) (s' : ServiceState) : Type 0 where
  pub failed : fault
  pub free : first_cause (causes keys c) ≡ None
  pub reply_is : result ≡ reply.Refused refusal.StoreFault
  pub drawn_is : drawn ≡ (deed keys words now c).words
  pub logged_is : logged ≡ before
  pub left : s' ≡ record { keys = (deed keys words now c).state; pending = (deed keys words now c).logs }

abbrev pub Changes : KmsState → List KeyCommand → (ℕ → ℕ) → ℕ → KmsCall → Type 0 → KmsReply → ℕ → List KeyCommand → ServiceState → Type 0
Changes keys before words now c fault result drawn logged s' =
    Written keys before words now c result drawn logged s' ⊎ Unwritten keys before words now c fault result drawn logged s'

-- From s and these words to come, a call may get this reply, draw this number of words, acknowledge these commands and
-- leave s'. A store fault comes only if `fault` holds. A pending command is acknowledged if it is found in the log. `tells` says
-- whether the disk tells its content.
abbrev pub ServesBy : Kind → ServiceState → (ℕ → ℕ) → ℕ → KmsCall → Type 0 → Type 0 → KmsReply → ℕ → List KeyCommand → ServiceState → Type 0
ServesBy Reading s words now c fault tells result drawn logged s' = OnlyReads s words now c fault tells result drawn logged s'
ServesBy Working s words now c fault tells result drawn logged s' = OnlyWorks s words now c result drawn logged s'
ServesBy Committing s words now c fault tells result drawn logged s' =
    Unsettled s fault result drawn logged s' ⊎ ((kept : Bool) × Changes (settled kept s) (settled_commands kept s.pending) words now c fault result drawn logged s')

abbrev pub KmsServes : ServiceState → (ℕ → ℕ) → ℕ → KmsCall → Type 0 → Type 0 → KmsReply → ℕ → List KeyCommand → ServiceState → Type 0
KmsServes s words now c fault tells result drawn logged s' = ServesBy (kind c) s words now c fault tells result drawn logged s'

-- What a crash leaves of a log of these commands while nothing is pending: the log with or without one more command, which
-- is the call's own and applies to the table.
pub record IsGrowing (table : Table) (own : KeyCommand → Type 0) (commands : List KeyCommand) (bytes : List ℕ) : Type 0 where
  pub more : Option KeyCommand
  pub more_is : IfSome more own
  pub fits : Applies table more
  pub spelled : IfSome more HasSpelling
  pub log : IsLogOf commands more bytes

-- What a call of the service does to its disk: the acknowledged commands are in the log after the earlier ones, and a crash
-- at any moment of the call leaves what P allows for the earlier ones.
pub record Logs (old new : DiskState) (store store' : StoreState) (P : List KeyCommand → List ℕ → Type 0) (logged : List KeyCommand) : Type 0 where
  pub stands : Tells old → (commands : List KeyCommand) → IsKeyStoreOf old store commands → IsKeyStoreOf new store' (commands ++ logged)
  pub moments : Tells old → (commands : List KeyCommand) → IsKeyStoreOf old store commands → LeavesOnly 0 old new (P commands)
  pub run : RunOn 0 old new

-- the answer acknowledges the command, or it is pending afterwards
abbrev pub WasWritten : KmsReply → ServiceState → KeyCommand → Type 0
WasWritten result s' command = (acknowledged result (Some command) ≡ command ∷ []) ⊎ (s'.pending ≡ Some command)

-- What a call with this answer, and this state after it, may write after the settled log: its own command, if nothing refuses
-- the call, and the answer acknowledges the command or it is pending afterwards. So a refused call writes nothing, except
-- before a store fault.
pub record OwnOf (s : ServiceState) (words : ℕ → ℕ) (now : ℕ) (c : KmsCall) (result : KmsReply) (s' : ServiceState) (kept : Bool) (command : KeyCommand) : Type 0 where
  pub free : first_cause (causes (settled kept s) c) ≡ None
  pub is : (deed (settled kept s) words now c).logs ≡ Some command
  pub was_written : WasWritten result s' command

-- A call of a running service over its disk.
pub record KmsActsOnDisk (old new : DiskState) (r : Running) (words : ℕ → ℕ) (now : ℕ) (c : KmsCall) (result : KmsReply) (r' : Running) (words' : ℕ → ℕ) : Type 0 where
  pub drawn : ℕ
  pub logged : List KeyCommand
  pub serves : KmsServes (service_of r) words now c (Rose old.faults new.faults) (Tells old) result drawn logged (service_of r')
  pub rest : (k : ℕ) → words' k ≡ words (drawn + k)
  pub disk : Logs old new r.store r'.store (IsLeftOf r.store.table.keys r.store.pending (OwnOf (service_of r) words now c result (service_of r'))) logged

-- A start found a table in the log, and added the next opening after its commands. There are no queues yet.
pub record Starts (old new : DiskState) (r : Running) : Type 0 where
  pub table : Table
  pub opens : service_of r ≡ service_after_opening r.ready table
  pub log : Tells old → (commands : List KeyCommand) × IsKeyLog (old.reads 0) commands table × IsKeyStoreOf new r.store (commands ++ next_opening table ∷ [])
