-- Properties of a store's log that the layers above need: what is true of each log of records, of the edit log.
use Rattle.std.proofs.Common.{◌≡◌, ℕ, Bool, List, ◌++◌, map, Option, Some, refl, sym, ap, ◌∙◌}
use Rattle.std.specs.Prelude.{IfSome, option_map}
use Rattle.std.specs.List.{AllByRecursion}
use Rattle.hk_base.specs.Disk.{DiskState}
use Rattle.frame_log.specs.Stands.{Is, front}
use Rattle.edit_ops.specs.Records.{HasSpelling, spelling}
use Rattle.edit_ops.specs.declared.ops.EditOp.{EditOp}
use Rattle.edit_ops.proofs.RecordLemmas.{one_spelling}
use Rattle.log_kinds.proofs.Replays.{KindLaws}
use Rattle.log_kinds.proofs.Sound as kinds
use Rattle.log_kinds.proofs.Held.{HoldsOps}
use Rattle.log_kinds.proofs.Held as held
use Rattle.name_store.specs.Table.{Replayed, name_kind, nothing_logged, settled_log, settled_ops}
use Rattle.name_store.specs.Replay.{Applies, IdsOfOpening, name_replay}
use Rattle.name_store.specs.Store.{AnOpening, IsDamagedAt, IsLeftByStart, IsLeftOf, IsLogOf, IsNameLog, IsSoundLog, NothingMore, IsNameStoreOf, StoreState, made_with}
use Rattle.name_store.proofs.IdLemmas as ids
use Rattle.name_store.proofs.Starts.{opens}

pub name_laws : KindLaws name_kind
name_laws = record {
  one_spelling = one_spelling;
  settled_none = λ kept r. refl;
  settled_kept = λ op r. refl;
  settled_dropped = λ op r. refl;
  opens = opens;
  is_opening = λ r. refl;
}

-- each image of the file of a store is a log of its operations, with the pending one or without it
pub log_of_store : (d : DiskState) (store : StoreState) (used : List ℕ) (ops : List EditOp) → store.log.log.file ≡ 1 → IsNameStoreOf d store used ops
    → (bytes : List ℕ) → Is (front store.log.log.file (map spelling ops)) (option_map spelling store.log.pending) bytes → IsLogOf ops store.log.pending bytes
log_of_store d store used ops of_file s = held.log_of_store name_kind d store.log.log store.log.pending ops of_file s.log.log

-- what a start finds in a sound log

abbrev pub Finds : List EditOp → Option EditOp → Replayed → List EditOp → Replayed → Type 0
Finds = kinds.Finds name_kind

pub finds : (bytes : List ℕ) (ops : List EditOp) (more : Option EditOp) (made : Replayed) (found : List EditOp) (comes_to : Replayed) → IsSoundLog bytes ops more made → IsNameLog bytes found comes_to
    → Finds ops more made found comes_to
finds = kinds.finds name_kind name_laws

-- what a start leaves of a sound log
pub left_by_start : (bytes : List ℕ) (ops : List EditOp) (more : Option EditOp) (made : Replayed) → IsSoundLog bytes ops more made
    → (left : List ℕ) → IsLeftByStart bytes left → IsLeftOf made more AnOpening ops left
left_by_start = kinds.left_by_start name_kind name_laws

-- a crash leaves of the log of these operations a sound log, of them and of the pending one if it was kept
pub sound_left : (made : Replayed) (pending : Option EditOp) (own : Bool → EditOp → Type 0) (ops : List EditOp) (bytes : List ℕ) → AllByRecursion HasSpelling ops → IfSome pending HasSpelling
    → name_replay nothing_logged ops ≡ Some made → Applies made pending → (l : IsLeftOf made pending own ops bytes)
    → IsSoundLog bytes (ops ++ settled_ops l.kept pending) l.more (settled_log l.kept pending made)
sound_left = kinds.sound_left name_kind name_laws

-- a sound log is not damaged
pub not_damaged : (bytes : List ℕ) (ops : List EditOp) (more : Option EditOp) (made : Replayed) (at : ℕ) → IsSoundLog bytes ops more made → IsDamagedAt bytes at → ⊥
not_damaged = kinds.not_damaged name_kind name_laws

holds_ops : (d : DiskState) (store : StoreState) (used : List ℕ) (ops : List EditOp) → store.log.log.file ≡ 1 → IsNameStoreOf d store used ops → HoldsOps name_kind d store.log.log store.log.pending ops (made_with store used)
holds_ops d store used ops of_file s = record { of_file = of_file; spelled = s.log.spelled; waits = s.log.waits; makes = s.makes; fits = s.waits; stands = s.log.log }

-- the log of a store is a sound one
pub sound_store : (d : DiskState) (store : StoreState) (used : List ℕ) (ops : List EditOp) → store.log.log.file ≡ 1 → IsNameStoreOf d store used ops
    → IsSoundLog (d.reads 1) ops store.log.pending (made_with store used)
sound_store d store used ops of_file s = held.sound_store name_kind d store.log.log store.log.pending ops (made_with store used) (holds_ops d store used ops of_file s)

-- and a crash leaves such a log
pub left_by_store : (d : DiskState) (store : StoreState) (used : List ℕ) (ops : List EditOp) → store.log.log.file ≡ 1 → IsNameStoreOf d store used ops
    → (bytes : List ℕ) → d.leaves 1 bytes → IsLeftOf (made_with store used) store.log.pending NothingMore ops bytes
left_by_store d store used ops of_file s = held.left_by_store name_kind d store.log.log store.log.pending ops (made_with store used) (holds_ops d store used ops of_file s) name_laws

-- a store holds one list of operations, and these used one list of ids
pub stands_once : (d : DiskState) (store : StoreState) (used others_used : List ℕ) (ops others : List EditOp) → store.log.log.file ≡ 1 → IsNameStoreOf d store used ops → IsNameStoreOf d store others_used others
    → (others ≡ ops) × (others_used ≡ used)
stands_once d store used others_used ops others of_file s t = (same, ap used_by one)
  where
    same : others ≡ ops
    same =
        held.stands_once name_kind name_laws d store.log.log store.log.pending ops others (made_with store used) (made_with store others_used)
        (holds_ops d store used ops of_file s) (holds_ops d store others_used others of_file t)

    used_by : Replayed → List ℕ
    used_by r = r.used

    both : Some (made_with store others_used) ≡ Some (made_with store used)
    both = sym t.makes ∙ ap (name_replay nothing_logged) same ∙ s.makes

    one : made_with store others_used ≡ made_with store used
    one = cc both

-- ids used are of the openings so far
pub used_earlier : (r : Replayed) (ops : List EditOp) → name_replay nothing_logged ops ≡ Some r → IdsOfOpening r
used_earlier = ids.used_earlier
