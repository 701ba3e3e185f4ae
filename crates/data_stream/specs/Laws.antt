-- What was put is read back.
use Rattle.std.specs.Prelude.{◌≡◌, ℕ, List, Option, None, Some}
use Rattle.std.specs.Io.KnownBytes.{Appends}
use Rattle.hk_base.specs.Disk.{piece}
use Rattle.hk_base.specs.declared.names.Edek.{Edek}
use Rattle.inode_tree.specs.declared.rows.Row.{Row}
use Rattle.key_rows.specs.declared.rows.KeyRow.{KeyRow}
use Rattle.body_stream.specs.Vaults.{VaultState}
use Rattle.world_run.specs.Kept.{IsKnownLater}
use Rattle.world_run.specs.Ledger.{Draw, Past}
use Rattle.world_run.specs.Promise.{In, edek_of}
use Rattle.world_run.specs.World.{WorldState}
use Rattle.data_stream.specs.Bodies.{HasReadBody, HasStored, IsDrawOf}

-- the file still has an encrypted key, and the key exists under which this draw was made; a file without a draw still has no encrypted key
abbrev pub StillStands : List KeyRow → Row → Option Draw → Type 0
StillStands keys file None = edek_of file.kind ≡ None
StillStands keys file (Some draw) = (edek : Edek) × (edek_of file.kind ≡ Some edek) × (row : KeyRow) × In row keys × (row.birth ≡ draw.birth)

-- A file was put, and a range was read in a later run, at any path that then names the same file, with the same body. Whatever happened in
-- between, as long as what was known stays known and the key of the draw exists, the range is that of the bytes that were put.
abbrev pub PutFilesAreReadBack : Type 0
PutFilesAreReadBack =
    (known later : Past) (w v : WorldState) (path at : List ℕ) (count from wanted : ℕ) (left left' : Option (List ℕ)) (old new vault : VaultState) (written now : Option (List ℕ)) (draw : Option Draw)
    → (put : HasStored known w path count left left' old new) → IsDrawOf known w.keys.keys.table.rows put.file draw
    → IsKnownLater known later → (read : HasReadBody later v at from wanted vault written now)
    → read.file.id ≡ put.file.id → vault.bodies put.file.id ≡ new.bodies put.file.id → StillStands v.keys.keys.table.rows read.file draw
    → Appends written now (piece from wanted put.bytes)
