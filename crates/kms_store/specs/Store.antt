-- A store over a key log, and the commands that it holds.
use Rattle.std.specs.Prelude.{◌≡◌, ℕ, ◌-◌, Bool, List, [], ◌∷◌, ◌++◌, length, map, Option, Some, None, option_map, IfSome, slice_get}
use Rattle.std.specs.List.{AllByRecursion}
use Rattle.hk_base.specs.Disk.{DiskState, LeavesOnly, Reads, RunOn, Tells}
use Rattle.frame_log.specs.Opens.{OpensLog}
use Rattle.frame_log.specs.Stands.{Stands}
use Rattle.frame_log.specs.declared.fault.StartFault.{StartFault}
use Rattle.frame_log.specs.declared.log.Log.{Log}
use Rattle.key_rows.specs.Sound.{IsRow}
use Rattle.key_rows.specs.Table.{Table, KeptTable, find_birth, find_name, no_keys}
use Rattle.key_rows.specs.Records.{HasSpelling, spelling}
use Rattle.key_rows.specs.declared.rows.KeyCommand.{KeyCommand}
use Rattle.key_rows.specs.declared.rows.KeyRow.{KeyRow}
use Rattle.hk_base.specs.declared.names.Dek.{Dek}
use Rattle.hk_base.specs.declared.names.VersionName.{VersionName}
use Rattle.key_index.specs.declared.cache.MaterialKey.{MaterialKey}
use Rattle.key_index.specs.declared.rows.IndexRow.{IndexRow}
use Rattle.key_index.specs.Cache.{AreCached}
use Rattle.key_index.specs.Held.{AreHeld, InLog, has_older}
use Rattle.key_index.specs.Index.{Index, Materials, table_of}
use Rattle.key_index.specs.Sound.{AllSized}
use Rattle.log_kinds.specs.Kinds.{AnOpening, IsLog, IsNoLog, Nothing, settled_ops}
use Rattle.log_kinds.specs.Kinds as kinds
pub use Rattle.log_kinds.specs.Kinds.{Not_a_log, Not_of_its_kind, Opening, Recovered}
use Rattle.kms_store.specs.Kind.{key_kind}
pub use Rattle.kms_store.specs.Kind.{is_key_opening, next_opening, settled_table}
use Rattle.kms_store.specs.Replay.{key_replay}

-- Its log, the table of keys with its reserved capacity, and the command that waits to be settled. Memory has the table
-- without its older materials, in an index, and some of these in a cache.
pub record StoreState : Type 0 where
  pub log : Log
  pub table : KeptTable
  pub index : Index
  pub cache : List (MaterialKey × Dek)
  pub pending : Option KeyCommand

-- an index stands for the table, beside these older materials, which have the lengths of their keys
pub record StandsFor (older : Materials) (index : Index) (table : Table) : Type 0 where
  pub table_is : table_of older index ≡ table
  pub sized : AllSized older index

-- the older materials of the index are at their places in the log of these commands, and those in the cache are theirs
pub record HoldsMaterials (store : StoreState) (commands : List KeyCommand) : Type 0 where
  pub older : Materials
  pub stands : StandsFor older store.index store.table.keys
  pub held : InLog older commands store.index
  pub cached : AreCached older store.index store.cache

-- the file of the key log holds the materials of the index, and those in the cache are theirs
pub record HasMaterials (disk : DiskState) (store : StoreState) : Type 0 where
  pub older : Materials
  pub stands : StandsFor older store.index store.table.keys
  pub held : AreHeld older (disk.reads 0) store.index
  pub cached : AreCached older store.index store.cache

-- a row of the index says of a key all but its older materials
pub record ShowsKey (row : IndexRow) (key : KeyRow) : Type 0 where
  pub name : row.name ≡ key.name
  pub birth : row.birth ≡ key.birth
  pub bits : row.bits ≡ key.bits
  pub versions : row.versions ≡ length key.materials
  pub current : slice_get key.materials (row.versions - 1) ≡ Some row.current
  pub description : row.description ≡ key.description
  pub created : row.created ≡ key.created

-- the row is that of a key of the table, which was looked up; no other key has its birth
pub record IsRowOf (t : Table) (found : Option KeyRow) (row : IndexRow) : Type 0 where
  pub key : KeyRow
  pub is : found ≡ Some key
  pub shows : ShowsKey row key
  pub rules : IsRow key
  pub born : find_birth t.rows key.birth ≡ Some key

-- whether a version is of a key of the table, and not the current one of it
abbrev pub is_older : Table → VersionName → Bool
is_older t version = has_older (find_name t.rows version.key) version.number

-- both have a pending command, or neither has
abbrev pub WaitTogether : Option KeyCommand → Option ℕ → Type 0
WaitTogether None unsettled = unsettled ≡ None
WaitTogether (Some command) None = ⊥
WaitTogether (Some command) (Some size) = Unit {0}

-- The store holds these acknowledged commands on the disk: they make its table, and they are the
-- records of its log, beside the pending one. The log has the older materials, too.
pub record IsKeyStoreOf (disk : DiskState) (store : StoreState) (commands : List KeyCommand) : Type 0 where
  pub spelled : AllByRecursion HasSpelling commands
  pub makes : key_replay no_keys commands ≡ Some store.table.keys
  pub waits : IfSome store.pending HasSpelling
  pub log : Stands disk store.log (map spelling commands) (option_map spelling store.pending)
  pub materials : HoldsMaterials store commands

-- the newly acknowledged commands, once the pending command was settled: kept or dropped
abbrev pub settled_commands : Bool → Option KeyCommand → List KeyCommand
settled_commands = settled_ops key_kind

-- The pending command was settled: kept or dropped.
pub record SettlesKeys (old new : DiskState) (store store' : StoreState) (kept : Bool) : Type 0 where
  pub none : store'.pending ≡ None
  pub table : store'.table.keys ≡ settled_table kept store.pending store.table.keys
  pub log : Tells old → (commands : List KeyCommand) → IsKeyStoreOf old store commands → IsKeyStoreOf new store' (commands ++ settled_commands kept store.pending)

-- the gate byte before the pending record reads 1, so that the record counts
abbrev pub IsGateSet : DiskState → StoreState → Type 0
IsGateSet disk store = slice_get (disk.reads 0) store.log.end ≡ Some 1

-- if that gate byte is set, the pending command is acknowledged
abbrev pub KeepsIfGateSet : DiskState → DiskState → StoreState → StoreState → Type 0
KeepsIfGateSet old new store store' =
    Tells old → (commands : List KeyCommand) (command : KeyCommand) → IsKeyStoreOf old store commands → store.pending ≡ Some command → IsGateSet old store → IsKeyStoreOf new store' (commands ++ command ∷ [])

-- if it is not set, no command is added
abbrev pub DropsUnlessGateSet : DiskState → DiskState → StoreState → StoreState → Type 0
DropsUnlessGateSet old new store store' =
    Tells old → (commands : List KeyCommand) → IsKeyStoreOf old store commands → ¬ IsGateSet old store → IsKeyStoreOf new store' commands

-- a key log of these commands, with or without one more, both now and once its end gate byte is set to 1
abbrev pub IsWithOrWithout : List KeyCommand → KeyCommand → List ℕ → Type 0
IsWithOrWithout = kinds.IsWithOrWithout key_kind

-- the same for a command that can be encoded
abbrev pub IsWritten : List KeyCommand → KeyCommand → List ℕ → Type 0
IsWritten = kinds.IsWritten key_kind

-- the file is a log of these commands, all of which apply and make this table
abbrev pub IsKeyLog : List ℕ → List KeyCommand → Table → Type 0
IsKeyLog = IsLog key_kind

-- The file is a log, and the record whose gate is at this offset is not a command that applies after
-- those before it.
abbrev pub IsNoKeyLog : List ℕ → ℕ → Type 0
IsNoKeyLog = IsNoLog key_kind

-- why a start returns Damaged with this offset
abbrev pub IsDamagedAt : List ℕ → ℕ → Type 0
IsDamagedAt = kinds.IsDamagedAt key_kind

-- the last opening is recorded
pub record SpentKeys (bytes : List ℕ) : Type 0 where
  pub commands : List KeyCommand
  pub table : Table
  pub log : IsKeyLog bytes commands table
  pub last : table.opening ≡ 4294967295

-- what a start leaves of the file found, from its sync on: what recovery leaves, or the log with or
-- without the record of the new opening
abbrev pub IsLeftByStart : List ℕ → List ℕ → Type 0
IsLeftByStart = kinds.IsLeftByStart key_kind

-- A start opens the key log, or fails.
abbrev pub OpensKeys : DiskState → DiskState → (StartFault → Type 0) → Type 0
OpensKeys = OpensLog 0 IsDamagedAt SpentKeys IsLeftByStart

-- what a crash may leave of a log: these commands, with or without one more, both now and once the end gate byte is set to 1
abbrev pub IsLogOf : List KeyCommand → Option KeyCommand → List ℕ → Type 0
IsLogOf = kinds.IsLogOf key_kind

-- Materials were read, and at most the cache has changed. A crash at any moment of it leaves the log as it is. `held`, `reads` and
-- `leaves` say the same where the log that stands is another instance's.
pub record ReadsMaterials (old new : DiskState) (store store' : StoreState) : Type 0 where
  pub same : store' ≡ record store { cache = store'.cache }
  pub kept : Tells old → (commands : List KeyCommand) → IsKeyStoreOf old store commands → IsKeyStoreOf new store' commands
  pub moments : Tells old → (commands : List KeyCommand) → IsKeyStoreOf old store commands → LeavesOnly 0 old new (IsLogOf commands store.pending)
  pub run : RunOn 0 old new
  pub held : Tells old → HasMaterials old store → HasMaterials new store'
  pub reads : Reads 0 old new
  pub leaves : LeavesOnly 0 old new (old.leaves 0)

abbrev pub Applies : Table → Option KeyCommand → Type 0
Applies = kinds.Applies key_kind

-- A key log that a run may start from: its commands make a table, and it may have one more, which applies.
abbrev pub IsSoundLog : List ℕ → List KeyCommand → Option KeyCommand → Table → Type 0
IsSoundLog = kinds.IsSoundLog key_kind

-- What a crash may leave of the log of these commands, which make a table, while one is pending, beside what `own` says may be
-- written after the settled log.
abbrev pub IsLeftOf : Table → Option KeyCommand → (Bool → KeyCommand → Type 0) → List KeyCommand → List ℕ → Type 0
IsLeftOf = kinds.IsLeftOf key_kind

-- what may be written: nothing, or the record of an opening

abbrev pub NoCommand : Bool → KeyCommand → Type 0
NoCommand = Nothing key_kind

abbrev pub AKeyOpening : Bool → KeyCommand → Type 0
AKeyOpening = AnOpening key_kind
