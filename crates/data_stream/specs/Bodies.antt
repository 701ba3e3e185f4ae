-- What is known of the bodies of files: they are stored under the keys that were drawn for the files.
use Rattle.std.specs.Prelude.{◌≡◌, ℕ, List, Option, None, Some, length}
use Rattle.std.specs.Io.KnownBytes.{Appends, Consumes, IsAtEnd}
use Rattle.aes_ctr.specs.Ctr.{ctr}
use Rattle.hk_base.specs.Disk.{piece}
use Rattle.hk_base.specs.declared.names.Edek.{Edek}
use Rattle.inode_tree.specs.Rows.{row_at}
use Rattle.inode_tree.specs.declared.rows.Row.{Row}
use Rattle.key_rows.specs.declared.rows.KeyRow.{KeyRow}
use Rattle.name_calls.specs.declared.read_paths.ReadPath.{ReadPath}
use Rattle.name_calls.specs.ReadPaths.{read_any_path}
use Rattle.name_core.specs.Reads.{path_read, rows_read}
use Rattle.body_stream.specs.Vaults.{OtherBodiesStay, VaultState}
use Rattle.world_run.specs.Ledger.{Draw, Past}
use Rattle.world_run.specs.Promise.{In, edek_of}
use Rattle.world_run.specs.World.{WorldState}

-- the stored form of the bytes of a file: in counter mode under the data key drawn for it, from the initialization vector drawn with it;
-- the bytes themselves if none was drawn
abbrev pub stored_of : Option Draw → List ℕ → List ℕ
stored_of None bytes = bytes
stored_of (Some draw) bytes = ctr draw.dek draw.iv 0 bytes

-- The draw of a file, with what is known of the draws and these rows of keys: a file with an encrypted key has the draw that was entered
-- for its id, as long as the key exists under which it was drawn; a file without one has none.
abbrev pub IsDrawOf : Past → List KeyRow → Row → Option Draw → Type 0
IsDrawOf known keys file None = edek_of file.kind ≡ None
IsDrawOf known keys file (Some draw) =
    (edek : Edek) × (edek_of file.kind ≡ Some edek) × In (file.id, draw) known.ledger × (row : KeyRow) × In row keys × (row.birth ≡ draw.birth)

-- the file that a path names, live or in a snapshot
pub record IsFileAt (w : WorldState) (path : List ℕ) (file : Row) : Type 0 where
  pub place : ReadPath
  pub is_place : read_any_path path ≡ Some place
  pub at : row_at (rows_read w.names.names.table place) (path_read place) ≡ Some file

-- The input was read to its end, and what was read of it is stored as the body of the file at the path, under its draw. Every other body
-- is as it was.
pub record HasStored (known : Past) (w : WorldState) (path : List ℕ) (count : ℕ) (left left' : Option (List ℕ)) (old new : VaultState) : Type 0 where
  pub file : Row
  pub at : IsFileAt w path file
  pub bytes : List ℕ
  pub consumed : Consumes left left' bytes
  pub end : IsAtEnd left'
  pub long : count ≡ length bytes
  pub stored : (draw : Option Draw) → IsDrawOf known w.keys.keys.table.rows file draw → new.bodies file.id ≡ stored_of draw bytes
  pub others : OtherBodiesStay file.id old.bodies new.bodies

-- The range of the file at the path was written: if these bytes are stored as its body under its draw, it is that range of them, cut at
-- their end.
pub record HasReadBody (known : Past) (w : WorldState) (path : List ℕ) (from count : ℕ) (vault : VaultState) (written now : Option (List ℕ)) : Type 0 where
  pub file : Row
  pub at : IsFileAt w path file
  pub range : (draw : Option Draw) → IsDrawOf known w.keys.keys.table.rows file draw → (bytes : List ℕ) → vault.bodies file.id ≡ stored_of draw bytes → Appends written now (piece from count bytes)
