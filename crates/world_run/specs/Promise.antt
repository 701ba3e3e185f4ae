-- The promise on files in encryption zones, live and in snapshots.
use Rattle.std.specs.Prelude.{◌≡◌, ◌⊎◌, ◌+◌, ◌/◌, ◌≤◌, ℕ, ⊤, Bool, true, false, List, length, Option, None, Some}
use Rattle.hk_base.specs.declared.names.Edek.{Edek}
use Rattle.hk_base.specs.declared.names.KeyName.{KeyName}
use Rattle.inode_tree.specs.declared.rows.Kind.{Kind}
use Rattle.inode_tree.specs.declared.rows.Kind.TheVariants.{Dir, File}
use Rattle.inode_tree.specs.declared.rows.Row.{Row}
use Rattle.inode_tree.specs.Rows.{Entry}
pub use Rattle.inode_tree.specs.ZoneFiles.{edek_of}
use Rattle.key_rows.specs.declared.rows.KeyRow.{KeyRow}
use Rattle.kms_core.specs.Draws.{words_of_draw}
pub use Rattle.reenc_update.specs.Laws.{In}
use Rattle.kms_core.specs.Opening.{unseals}
use Rattle.kms_core.specs.State.{settled}
use Rattle.name_store.specs.Table.{NameTable, kept_rows, key_of_zone}
use Rattle.name_core.specs.State.{settled as settled_names}
use Rattle.zone_table.specs.declared.statuses.StatusRow.{StatusRow}
use Rattle.world_run.specs.World.{WorldState}
use Rattle.world_run.specs.Ledger.{Draw, FilesAtSubmission, Hidden, Ledger, Past, past_of}

-- the words of one draw end before those of the other begin
abbrev pub EndsBefore : Draw → Draw → Type 0
EndsBefore d f = d.place + words_of_draw (length d.dek) ≤ f.place

abbrev pub Apart : Draw → Draw → Type 0
Apart d f = EndsBefore d f ⊎ EndsBefore f d

-- a file in a zone has an encrypted key of the zone's key, and a file outside has none
abbrev pub FitsZone : Option KeyName → Kind → Type 0
FitsZone _ (Dir _) = ⊤
FitsZone None (File edek) = edek ≡ None
FitsZone (Some key) (File None) = ⊥
FitsZone (Some key) (File (Some edek)) = edek.version.key ≡ key

-- The encrypted key of a file is of the key of a draw in the ledger, has the draw's initialization vector, and opens to its data key, as
-- long as the key exists under which that was drawn: the row with the draw's birth has the name of that key. It has the lengths that a
-- decryption asks for.
pub record OpensToItsDraw (ledger : Ledger) (rows : List KeyRow) (id : ℕ) (edek : Edek) : Type 0 where
  pub draw : Draw
  pub entered : In (id, draw) ledger
  pub of_key : edek.version.key ≡ draw.version.key
  pub carries : edek.iv ≡ draw.iv
  pub opens : (row : KeyRow) → In row rows → row.birth ≡ draw.birth → (row.name ≡ draw.version.key) × (unseals rows edek ≡ Some draw.dek)
  pub long : (row : KeyRow) → In row rows → row.birth ≡ draw.birth → (length draw.dek ≡ row.bits / 8) × (length edek.iv ≡ 16)

-- the file with this id lay in the zone of the re-encryption when that was submitted
abbrev pub WasThere : FilesAtSubmission → ℕ → ℕ → Type 0
WasThere starts session id = (ids : List ℕ) × In (session, ids) starts × In id ids

-- the re-encryption was not cancelled, and the key of the version that it noted still exists: a row with the birth of its draw
pub record IsInForce (ledger : Ledger) (keys : List KeyRow) (s : StatusRow) : Type 0 where
  pub uncancelled : s.cancelled ≡ false
  pub draw : Draw
  pub entered : In (s.session, draw) ledger
  pub row : KeyRow
  pub stands : In row keys
  pub born : row.birth ≡ draw.birth

-- the file has an encrypted key of the noted key, on a version not below the noted one
abbrev pub IsReencrypted : StatusRow → Entry → Type 0
IsReencrypted s x = (e : Edek) × (edek_of x.row.kind ≡ Some e) × (e.version.key ≡ s.noted.key) × (s.noted.number ≤ e.version.number)

-- The promise on zone files, for a table of the namesystem and rows of keys.
pub record FilesOpen (past : Past) (keys : List KeyRow) (names : NameTable) : Type 0 where
  -- the encrypted key of each file that the table keeps opens to the data key drawn for it
  pub open_up : (file : Row) (edek : Edek) → In file (kept_rows names) → edek_of file.kind ≡ Some edek → OpensToItsDraw past.ledger keys file.id edek
  -- the ledger has one draw for an id
  pub one_draw : (id : ℕ) (d f : Draw) → In (id, d) past.ledger → In (id, f) past.ledger → d ≡ f
  -- a live file has an encrypted key exactly if it is in a zone, and then of that zone's key
  pub of_zone : (file : Entry) → In file names.rows → FitsZone (key_of_zone names.rows file.path) file.row.kind
  -- A completed re-encryption without a failure left no file behind: each that lay in the zone at its submission, and still exists, is
  -- re-encrypted, if the key still exists.
  pub completed :
      (s : StatusRow) (file : Entry) → In s names.statuses → IsInForce past.ledger keys s → s.completed ≡ true → s.failed ≡ 0 → In file names.rows → WasThere past.starts s.session file.row.id → IsReencrypted s file

-- The draws of two files have no word in common.
pub record FilesApart (ledger : Ledger) : Type 0 where
  pub apart : (i j : ℕ) (d f : Draw) → In (i, d) ledger → In (j, f) ledger → (i ≡ j → ⊥) → Apart d f

-- with and without the pending command, and with and without the pending operation
abbrev pub ZoneFilesOpen : WorldState → Hidden → Type 0
ZoneFilesOpen w h = (kept_keys kept_names : Bool) → FilesOpen (past_of h) (settled kept_keys w.keys).table.rows (settled_names kept_names w.names).table
