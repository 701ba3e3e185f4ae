-- What is true of a key, and lasts from run to run while the key exists.
use Rattle.std.specs.Prelude.{◌≡◌, ℕ, Bool, List, Option, Some, slice_get}
use Rattle.hk_base.specs.Disk.{DiskState, Image, IsImage}
use Rattle.hk_base.specs.declared.names.Dek.{Dek}
use Rattle.hk_base.specs.declared.names.Edek.{Edek}
use Rattle.hk_base.specs.declared.names.VersionName.{VersionName}
use Rattle.key_rows.specs.declared.rows.KeyCommand.{KeyCommand}
use Rattle.key_rows.specs.declared.rows.KeyRow.{KeyRow}
use Rattle.key_rows.specs.Table.{Table}
use Rattle.kms_core.specs.State.{settled}
use Rattle.kms_store.specs.Store.{IsSoundLog, settled_table}
use Rattle.world_run.specs.Ledger.{Draw}
use Rattle.world_run.specs.Linked.{IsRecordedBirth, OpensTo}
use Rattle.world_run.specs.Promise.{In}
use Rattle.world_run.specs.World.{WorldState}

-- The key of this birth has this material as this version; or the key of the draw's birth opens this encrypted key to the draw's data
-- key.
pub data KeyFact : Type 0 where
  HasMaterial : (birth : ℕ) (version : VersionName) (material : Dek) → KeyFact
  OpensKey : (draw : Draw) (edek : Edek) → KeyFact

-- the birth of the key
abbrev pub birth_in : KeyFact → ℕ
birth_in (HasMaterial birth version material) = birth
birth_in (OpensKey draw edek) = draw.birth

-- it is true among these keys, while the key exists
abbrev pub IsFact : List KeyRow → KeyFact → Type 0
IsFact rows (HasMaterial birth version material) = (row : KeyRow) → In row rows → row.birth ≡ birth → (row.name ≡ version.key) × (slice_get row.materials version.number ≡ Some material)
IsFact rows (OpensKey draw edek) = OpensTo rows draw edek

-- It is true in a table that was found in a key log, and the birth is of an opening that the log records. So no later key gets it.
pub record FactOfTable (fact : KeyFact) (t : Table) : Type 0 where
  pub born : IsRecordedBirth t (birth_in fact)
  pub holds : IsFact t.rows fact

-- it is true in a key log that a crash leaves, with its last record and without it
pub record FactOfLog (fact : KeyFact) (bytes : List ℕ) : Type 0 where
  pub commands : List KeyCommand
  pub more : Option KeyCommand
  pub table : Table
  pub log : IsSoundLog bytes commands more table
  pub holds : (found : Bool) → FactOfTable fact (settled_table found more table)

-- in each key log that a crash leaves at this moment
abbrev pub FactOfDisk : DiskState → KeyFact → Type 0
FactOfDisk d fact = (c : Image) → IsImage d c → FactOfLog fact (c 0)

-- in a world, with the pending command and without it
abbrev pub FactOfWorld : WorldState → KeyFact → Type 0
FactOfWorld w fact = (kept : Bool) → IsFact (settled kept w.keys).table.rows fact

-- in each key log that a crash leaves at any moment since, and in the end
pub record LastsOnDisk (old new : DiskState) (fact : KeyFact) : Type 0 where
  pub images : (c : Image) → new.left_since old.moment c → FactOfLog fact (c 0)
  pub last : FactOfDisk new fact
