-- The table that the records of an edit log make.
use Rattle.std.specs.Prelude.{◌≡◌, ℕ, ◌+◌, ◌*◌, ◌^◌, ◌<◌, Bool, true, false, not, ◌&&◌, ◌||◌, List, [], ◌∷◌, ◌++◌, map, Option, Some}
use Rattle.std.specs.List.{All, AllByRecursion, list_any}
use Rattle.hk_base.specs.Disk.{DiskState, Tells}
use Rattle.frame_log.specs.Format.{end_of}
use Rattle.log_kinds.specs.Kinds.{replay}
use Rattle.log_kinds.specs.Kinds as kinds
use Rattle.edit_ops.specs.Records.{HasSpelling, spelling}
use Rattle.edit_ops.specs.declared.ops.EditOp.{EditOp}
use Rattle.edit_log.specs.declared.reader.OpReader.{OpReader}
use Rattle.edit_log.specs.Reader.{OpsAhead}
use Rattle.name_store.specs.Table.{NameTable, Replayed, after_table, allows, is_among, name_kind, nothing_logged, uses}

-- the result of the operations after `r`, or None if one of them doesn't apply
abbrev pub name_replay : Replayed → List EditOp → Option Replayed
name_replay = replay name_kind

-- the record spells no operation, or one that doesn't apply
abbrev pub IsNoNext : Replayed → List ℕ → Type 0
IsNoNext = kinds.IsNoNext name_kind

abbrev pub Applies : Replayed → Option EditOp → Type 0
Applies = kinds.Applies name_kind

-- all ids are below the bound
abbrev pub AllBelow : ℕ → List ℕ → Type 0
AllBelow bound ids = AllByRecursion (λ (id : ℕ). id < bound) ids

-- the ids of rows, and the used ids, are below those of the next opening
pub record IdsOfOpening (r : Replayed) : Type 0 where
  pub rows : All (λ e. e.row.id < (r.table.opening + 1) * 2 ^ 32) r.table.rows
  pub used : AllBelow ((r.table.opening + 1) * 2 ^ 32) r.used

-- ids as a set: whether it has one
abbrev pub Ids : Type 0
Ids = ℕ → Bool

-- the operation applies to the table, if these ids were used
abbrev pub applies_beside : NameTable → Ids → EditOp → Bool
applies_beside t used op = allows t op && not (list_any used (uses op))

-- it took effect, and its ids are used too
pub record IsNext (t : NameTable) (used : Ids) (op : EditOp) (t' : NameTable) (used' : Ids) : Type 0 where
  pub may : applies_beside t used op ≡ true
  pub table : t' ≡ after_table t op
  pub ids : (id : ℕ) → used' id ≡ (is_among (uses op) id || used id)

-- whether an operation was taken: it applied, or it doesn't
abbrev pub IsTaken : NameTable → Ids → EditOp → NameTable → Ids → Bool → Type 0
IsTaken t used op t' used' true = IsNext t used op t' used'
IsTaken t used op t' used' false = applies_beside t used op ≡ false

-- the operations that a reader returned make this table, and they are all that it had to return
pub record IsMade (disk : DiskState) (reader : OpReader) (table : NameTable) : Type 0 where
  pub ops : List EditOp
  pub used : List ℕ
  pub makes : name_replay nothing_logged ops ≡ Some (record { table = table; used = used })
  pub all : Tells disk → (todo : List (List ℕ)) → OpsAhead disk reader [] todo → AllByRecursion HasSpelling ops × (todo ≡ map spelling ops)

-- these records begin with operations that apply; the one after them, whose gate is at this offset, is not one that applies
pub record IsRefusedAt (todo : List (List ℕ)) (at : ℕ) : Type 0 where
  pub ops : List EditOp
  pub payload : List ℕ
  pub payloads : List (List ℕ)
  pub made : Replayed
  pub spelled : AllByRecursion HasSpelling ops
  pub split : todo ≡ map spelling ops ++ payload ∷ payloads
  pub makes : name_replay nothing_logged ops ≡ Some made
  pub not_next : IsNoNext made payload
  pub place : at ≡ end_of (map spelling ops)
