-- Lemmas for the layers above a store: what is true of each log of records, of the key log.
use Rattle.std.proofs.Common.{◌≡◌, ℕ, ◌+◌, Bool, List, ◌++◌, map, Option, Some, refl}
use Rattle.std.specs.Prelude.{IfSome, option_map}
use Rattle.std.specs.List.{AllByRecursion}
use Rattle.std.proofs.lemmas.Bool.Decides.{Decides-eqb}
use Rattle.hk_base.specs.Disk.{DiskState}
use Rattle.frame_log.specs.Stands.{Is, front}
use Rattle.key_rows.specs.Table.{Table, no_keys}
use Rattle.key_rows.specs.Records.{HasSpelling, spelling}
use Rattle.key_rows.specs.declared.rows.KeyCommand.{KeyCommand}
use Rattle.key_rows.proofs.RecordLemmas.{one_spelling}
use Rattle.log_kinds.proofs.Replays.{KindLaws}
use Rattle.log_kinds.proofs.Sound as kinds
use Rattle.log_kinds.proofs.Held.{HoldsOps}
use Rattle.log_kinds.proofs.Held as held
use Rattle.kms_store.specs.Kind.{key_kind}
use Rattle.kms_store.specs.Replay.{key_replay}
use Rattle.kms_store.specs.Store.{AKeyOpening, Applies, IsDamagedAt, IsKeyLog, IsLeftByStart, IsLeftOf, IsLogOf, IsSoundLog, NoCommand, IsKeyStoreOf, StoreState, settled_commands, settled_table}

pub key_laws : KindLaws key_kind
key_laws = record {
  one_spelling = one_spelling;
  settled_none = λ kept t. refl;
  settled_kept = λ command t. refl;
  settled_dropped = λ command t. refl;
  opens = λ t. (Decides-eqb (t.opening + 1) (t.opening + 1)).1 refl;
  is_opening = λ t. refl;
}

-- the file of a store is a log of its commands, with or without the pending one
pub log_of_store : (d : DiskState) (store : StoreState) (commands : List KeyCommand) → store.log.file ≡ 0 → IsKeyStoreOf d store commands
    → (bytes : List ℕ) → Is (front store.log.file (map spelling commands)) (option_map spelling store.pending) bytes → IsLogOf commands store.pending bytes
log_of_store d store commands of_file s = held.log_of_store key_kind d store.log store.pending commands of_file s.log

-- what a start finds in a sound log

abbrev pub Finds : List KeyCommand → Option KeyCommand → Table → List KeyCommand → Table → Type 0
Finds = kinds.Finds key_kind

pub finds : (bytes : List ℕ) (commands : List KeyCommand) (more : Option KeyCommand) (table : Table) (found : List KeyCommand) (made : Table) → IsSoundLog bytes commands more table → IsKeyLog bytes found made
    → Finds commands more table found made
finds = kinds.finds key_kind key_laws

-- what a start leaves of a sound log
pub left_by_start : (bytes : List ℕ) (commands : List KeyCommand) (more : Option KeyCommand) (table : Table) → IsSoundLog bytes commands more table
    → (left : List ℕ) → IsLeftByStart bytes left → IsLeftOf table more AKeyOpening commands left
left_by_start = kinds.left_by_start key_kind key_laws

-- what a crash may leave of the log of these commands is a sound log of them and the settled pending one
pub sound_left : (table : Table) (pending : Option KeyCommand) (own : Bool → KeyCommand → Type 0) (commands : List KeyCommand) (bytes : List ℕ) → AllByRecursion HasSpelling commands → IfSome pending HasSpelling
    → key_replay no_keys commands ≡ Some table → Applies table pending → (l : IsLeftOf table pending own commands bytes)
    → IsSoundLog bytes (commands ++ settled_commands l.kept pending) l.more (settled_table l.kept pending table)
sound_left = kinds.sound_left key_kind key_laws

-- a sound log is not damaged
pub not_damaged : (bytes : List ℕ) (commands : List KeyCommand) (more : Option KeyCommand) (table : Table) (at : ℕ) → IsSoundLog bytes commands more table → IsDamagedAt bytes at → ⊥
not_damaged = kinds.not_damaged key_kind key_laws

holds_ops : (d : DiskState) (store : StoreState) (commands : List KeyCommand) → store.log.file ≡ 0 → Applies store.table.keys store.pending → IsKeyStoreOf d store commands
    → HoldsOps key_kind d store.log store.pending commands store.table.keys
holds_ops d store commands of_file may s = record { of_file = of_file; spelled = s.spelled; waits = s.waits; makes = s.makes; fits = may; stands = s.log }

-- the log of a store is sound
pub sound_store : (d : DiskState) (store : StoreState) (commands : List KeyCommand) → store.log.file ≡ 0 → Applies store.table.keys store.pending → IsKeyStoreOf d store commands
    → IsSoundLog (d.reads 0) commands store.pending store.table.keys
sound_store d store commands of_file may s = held.sound_store key_kind d store.log store.pending commands store.table.keys (holds_ops d store commands of_file may s)

-- and so is the log that a crash leaves
pub left_by_store : (d : DiskState) (store : StoreState) (commands : List KeyCommand) → store.log.file ≡ 0 → Applies store.table.keys store.pending → IsKeyStoreOf d store commands
    → (bytes : List ℕ) → d.leaves 0 bytes → IsLeftOf store.table.keys store.pending NoCommand commands bytes
left_by_store d store commands of_file may s = held.left_by_store key_kind d store.log store.pending commands store.table.keys (holds_ops d store commands of_file may s) key_laws

-- a store holds exactly one list of commands
pub stands_once : (d : DiskState) (store : StoreState) (commands others found : List KeyCommand) (made : Table) → store.log.file ≡ 0 → Applies store.table.keys store.pending
    → IsKeyStoreOf d store commands → IsKeyStoreOf d store others → IsKeyLog (d.reads 0) found made → others ≡ commands
stands_once d store commands others found made of_file may s t k =
    held.stands_once key_kind key_laws d store.log store.pending commands others store.table.keys store.table.keys (holds_ops d store commands of_file may s) (holds_ops d store others of_file may t)
