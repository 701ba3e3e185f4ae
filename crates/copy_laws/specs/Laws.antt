-- What was put is read back of a copy.
use Rattle.std.specs.Prelude.{◌≡◌, ℕ, ⊤, List, ◌++◌, Option, None, Some}
use Rattle.std.specs.Io.KnownBytes.{Appends}
use Rattle.hk_base.specs.Disk.{DiskState, Tells, piece}
use Rattle.hk_base.specs.declared.names.Edek.{Edek}
use Rattle.key_rows.specs.declared.rows.KeyRow.{KeyRow}
use Rattle.key_rows.specs.Sound.{NamesOnce}
use Rattle.name_calls.specs.Paths.{read_path}
use Rattle.name_calls.specs.declared.paths.NPath.{NPath}
use Rattle.name_calls.specs.declared.read_paths.ReadPath.{ReadPath}
use Rattle.inode_tree.specs.Rows.{Entry, row_at}
use Rattle.inode_tree.specs.declared.rows.Row.{Row}
use Rattle.body_stream.specs.Vaults.{TellsBodies, VaultState}
use Rattle.prop_text.specs.declared.props.Props.{Props}
use Rattle.world_run.specs.Ledger.{Draw, Past}
use Rattle.world_run.specs.Promise.{In, edek_of}
use Rattle.world_run.specs.World.{WorldState}
use Rattle.hk_runs.specs.Headline.{Headline}
use Rattle.hk_runs.specs.KeyFacts.{FactOfDisk, IsFact, KeyFact, OpensKey}
use Rattle.hk_runs.specs.Laws.{RunFrom}
use Rattle.data_stream.specs.Bodies.{HasStored, IsDrawOf}
use Rattle.data_stream.specs.Runs.{Worked, last_world, world_before}
use Rattle.row_copies.specs.declared.walk.Copied.{Copied}
use Rattle.world_rows.specs.Rows.{place_rows}
use Rattle.raw_copy.specs.Copies.{CopiesPlace, Copying}
use Rattle.copy_reads.specs.Bodies.{HasReadCopy, OpensAs}

-- The encrypted key that a file had when it was copied opens to its draw's data key among these keys, and the key exists under which that
-- was drawn. A file without a draw had no encrypted key.
abbrev pub StillOpens : List KeyRow → Row → Option Draw → Type 0
StillOpens keys file None = edek_of file.kind ≡ None
StillOpens keys file (Some draw) = (edek : Edek) × (edek_of file.kind ≡ Some edek) × OpensAs keys edek draw × (row : KeyRow) × In row keys × (row.birth ≡ draw.birth)

-- A file was put. In a later run a place was copied to a path, where this file was at a path down from the place, live or in a snapshot, with the
-- body that was put.
pub record WasCopied (put : Row) (stored : VaultState) (place : ReadPath) (target : NPath) (below : List (List ℕ)) (file : Row) (before after : Copying) : Type 0 where
  pub counts : Copied
  pub copies : CopiesPlace place target counts before after
  pub at : row_at (place_rows before.table place) below ≡ Some file
  pub same : file.id ≡ put.id
  pub tells : TellsBodies before.vault
  pub copies_tell : TellsBodies before.copies
  pub body : before.vault.bodies file.id ≡ stored.bodies put.id

-- The copy is still at its path, among these rows, with its body in this vault.
pub record StillThere (at : List (List ℕ)) (after : Copying) (rows : List Entry) (copies : VaultState) : Type 0 where
  pub row : row_at rows at ≡ row_at after.names.store.table.rows at
  pub body : (copy : Row) → row_at rows at ≡ Some copy → copies.bodies copy.id ≡ after.copies.bodies copy.id

-- A file was put and copied, and a range of the copy was read in a run after that. Whatever happened to the file and to the first cluster in
-- between, as long as the key of the draw exists, the range is that of the bytes that were put.
abbrev pub CopiesAreReadBack : Type 0
CopiesAreReadBack =
    (known : Past) (w : WorldState) (path text : List ℕ) (count from wanted : ℕ) (left left' : Option (List ℕ)) (old new copies : VaultState) (draw : Option Draw) (place : ReadPath) (target : NPath) (below : List (List ℕ)) (file : Row)
    (before after : Copying) (keys : List KeyRow) (rows : List Entry) (written now : Option (List ℕ))
    → (put : HasStored known w path count left left' old new) → IsDrawOf known w.keys.keys.table.rows put.file draw
    → WasCopied put.file new place target below file before after → StillThere (target ++ below) after rows copies → StillOpens keys file draw
    → read_path text ≡ Some (target ++ below) → HasReadCopy keys rows text from wanted copies written now
    → Appends written now (piece from wanted put.bytes)

-- Among keys of which no two have one name, the fact that an encrypted key opens to a draw's data key says that a copy with it opens so.
abbrev pub KeptFactsOpenCopies : Type 0
KeptFactsOpenCopies = (keys : List KeyRow) (edek : Edek) (draw : Draw) → NamesOnce keys → edek.iv ≡ draw.iv → IsFact keys (OpensKey draw edek) → OpensAs keys edek draw

-- ---- from run to run

-- In a run of the first cluster that keeps the promise on files, take an encrypted key that opened to a draw's data key before: in each key
-- log that a crash might have left then, as long as the key existed. It opens so among the keys in the end.
abbrev pub RunsOpenCopies : DiskState → DiskState → Type 0
RunsOpenCopies old new =
    (past : Past) (props : Props) (words words' : ℕ → ℕ) (worked : Worked props old new words words') (edek : Edek) (draw : Draw)
    → Tells old → Headline past props.lines old new words (world_before worked) worked.history → edek.iv ≡ draw.iv → FactOfDisk old (OpensKey draw edek)
    → OpensAs (last_world worked).keys.keys.table.rows edek draw

-- the encrypted key of a file opened so to the data key of its draw; a file without a draw had no encrypted key
abbrev pub OpenedBefore : DiskState → Row → Option Draw → Type 0
OpenedBefore disk file None = edek_of file.kind ≡ None
OpenedBefore disk file (Some draw) = (edek : Edek) × (edek_of file.kind ≡ Some edek) × (edek.iv ≡ draw.iv) × FactOfDisk disk (OpensKey draw edek)

-- what was a fact of a key on the one disk is one on the other, as after any runs that keep the promise on files
abbrev pub FactsGoOn : DiskState → DiskState → Type 0
FactsGoOn old new = (fact : KeyFact) → FactOfDisk old fact → FactOfDisk new fact

-- the key of the draw exists
abbrev pub KeyStands : List KeyRow → Option Draw → Type 0
KeyStands keys None = ⊤
KeyStands keys (Some draw) = (row : KeyRow) × In row keys × (row.birth ≡ draw.birth)

-- A file was put. One run of the first cluster copied it, and another one read a range of the copy. Whatever runs came in between, the range is
-- that of the bytes that were put, as long as the copy is still there and the key of its draw exists.
abbrev pub LaterRunsReadCopies : (at_copy copied at_read done : DiskState) → Type 0
LaterRunsReadCopies at_copy copied at_read done =
    (known past : Past) (w : WorldState) (props : Props) (path text : List ℕ) (count from wanted : ℕ) (left left' : Option (List ℕ)) (old new copies : VaultState) (draw : Option Draw) (place : ReadPath) (target : NPath) (below : List (List ℕ)) (file : Row)
    (before after : Copying) (words words' : ℕ → ℕ) (worked : Worked props at_read done words words') (rows : List Entry) (written now : Option (List ℕ))
    → (put : HasStored known w path count left left' old new) → IsDrawOf known w.keys.keys.table.rows put.file draw
    → WasCopied put.file new place target below file before after → OpenedBefore at_copy file draw → RunFrom at_copy copied → FactsGoOn copied at_read
    → Tells at_read → Headline past props.lines at_read done words (world_before worked) worked.history
    → StillThere (target ++ below) after rows copies → KeyStands (last_world worked).keys.keys.table.rows draw
    → read_path text ≡ Some (target ++ below) → HasReadCopy (last_world worked).keys.keys.table.rows rows text from wanted copies written now
    → Appends written now (piece from wanted put.bytes)
