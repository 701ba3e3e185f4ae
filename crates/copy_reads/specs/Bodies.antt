-- What is known of the bytes that are read of a copy.
use Rattle.std.specs.Prelude.{◌≡◌, ℕ, List, Option, None, Some}
use Rattle.std.specs.Io.KnownBytes.{Appends}
use Rattle.hk_base.specs.Disk.{piece}
use Rattle.hk_base.specs.declared.names.Edek.{Edek}
use Rattle.key_rows.specs.declared.rows.KeyRow.{KeyRow}
use Rattle.kms_core.specs.Opening.{unseals}
use Rattle.inode_tree.specs.Rows.{Entry}
use Rattle.body_stream.specs.Vaults.{VaultState}
use Rattle.file_orders.specs.declared.open.ShownFile.{ShownFile}
use Rattle.world_run.specs.Ledger.{Draw}
use Rattle.world_run.specs.Promise.{In}
use Rattle.data_stream.specs.Bodies.{stored_of}
use Rattle.copy_reads.specs.Copies.{IsCopyAt}

-- the encrypted key has the initialization vector of the draw, and opens to its data key as long as the key exists under which it was drawn
pub record OpensAs (keys : List KeyRow) (edek : Edek) (draw : Draw) : Type 0 where
  pub carries : edek.iv ≡ draw.iv
  pub opens : (row : KeyRow) → In row keys → row.birth ≡ draw.birth → unseals keys edek ≡ Some draw.dek

-- The draw of a copy, with these rows of keys: one that its encrypted key opens to, as long as the key exists under which it was drawn; a
-- file without an encrypted key has none.
abbrev pub IsDrawOfCopy : List KeyRow → ShownFile → Option Draw → Type 0
IsDrawOfCopy keys file None = file.edek ≡ None
IsDrawOfCopy keys file (Some draw) = (edek : Edek) × (file.edek ≡ Some edek) × OpensAs keys edek draw × (row : KeyRow) × In row keys × (row.birth ≡ draw.birth)

-- The range of the copy at the path was written: if these bytes are stored as its body under its draw, it is that range of them, cut at
-- their end.
pub record HasReadCopy (keys : List KeyRow) (rows : List Entry) (path : List ℕ) (from count : ℕ) (copies : VaultState) (written now : Option (List ℕ)) : Type 0 where
  pub file : ShownFile
  pub at : IsCopyAt rows path file
  pub range : (draw : Option Draw) → IsDrawOfCopy keys file draw → (bytes : List ℕ) → copies.bodies file.id ≡ stored_of draw bytes → Appends written now (piece from count bytes)
