-- Properties of the keys of zone files, and of ready keys, in a world with the promise or linked with what is hidden.
use Rattle.std.specs.Prelude.{◌≡◌, ◌⊎◌, ℕ, Bool, List, Ok, Option, Some, slice_get, IsTrue}
use Rattle.hk_base.specs.Faults.{Rose}
use Rattle.hk_base.specs.declared.names.Edek.{Edek}
use Rattle.hk_base.specs.declared.texts.Text.{Text}
use Rattle.eek_queues.specs.Queues.{ready_in}
use Rattle.inode_tree.specs.declared.rows.Row.{Row}
use Rattle.inode_tree.specs.ZoneFiles.{edek_of}
use Rattle.key_rows.specs.declared.rows.KeyCommand.{KeyCommand}
use Rattle.key_rows.specs.declared.rows.KeyRow.{KeyRow}
use Rattle.key_rows.specs.Table.{current_of, find_birth}
use Rattle.kms_acls.specs.declared.answers.Shown.{Shown}
use Rattle.kms_acls.specs.Verdict.{verdict}
use Rattle.kms_calls.specs.declared.calls.KmsCall.TheVariants as call
use Rattle.kms_calls.specs.declared.calls.KmsReply.{KmsReply}
use Rattle.kms_calls.specs.declared.calls.KmsReply.TheVariants as reply
use Rattle.kms_core.specs.Laws.{sent_of}
use Rattle.kms_core.specs.Service.{ReadFails}
use Rattle.kms_core.specs.State.{IsService, ServiceState}
use Rattle.kms_store.specs.Store.{is_older}
use Rattle.kms_core.specs.Users.{ServesUser}
use Rattle.name_calls.specs.declared.calls.NameCall.TheVariants as name_call
use Rattle.name_calls.specs.declared.calls.NameReply.TheVariants as name_reply
use Rattle.name_calls.specs.declared.paths.NPath.{NPath}
use Rattle.name_calls.specs.declared.read_paths.ReadPath.{ReadPath}
use Rattle.name_core.specs.Calls.{NameActs}
use Rattle.name_core.specs.State.{NameState}
use Rattle.name_store.specs.Table.{NameTable, kept_rows}
use Rattle.prop_text.specs.declared.lines.PropLine.{PropLine}
use Rattle.world_run.specs.Ledger.{Draw, Hidden, Past}
use Rattle.world_run.specs.Linked.{LinkedWorld, OpensTo}
use Rattle.world_run.specs.Promise.{FilesOpen, In, OpensToItsDraw}
use Rattle.world_run.specs.World.{WorldState}
use Rattle.run_laws.specs.Runs.{LeadThrough}

-- A user who may decrypt opens each zone file. In a service that the promise on zone files speaks of, take a file that the table keeps,
-- live or in a snapshot, and its draw in the ledger. While the key exists under which that was drawn, the decryption of the file's
-- encrypted key answers the data key of the draw, and nothing changes. It takes no memory, and reads a disk only for an older material: if
-- that disk fails, the decryption is refused with StoreFault.
abbrev pub ZoneFilesDecrypt : Type 0
ZoneFilesDecrypt =
    (past : Past) (names : NameTable) (s : ServiceState) (file : Row) (edek : Edek) (draw : Draw) (row : KeyRow)
    (lines : List PropLine) (user : Text) (shown : Shown) (words : ℕ → ℕ) (now before later : ℕ) (tells : Bool) (result : KmsReply) (drawn : ℕ) (logged : List KeyCommand) (s' : ServiceState)
    → IsService s → FilesOpen past s.keys.table.rows names → In file (kept_rows names) → edek_of file.kind ≡ Some edek
    → In (file.id, draw) past.ledger → In row s.keys.table.rows → row.birth ≡ draw.birth
    → verdict lines user (call.Decrypt edek.version.key (sent_of edek)) ≡ Ok shown
    → ServesUser lines user s words now (call.Decrypt edek.version.key (sent_of edek)) (Rose before later) (IsTrue tells) result drawn logged s' → (IsTrue (is_older s.keys.table edek.version) → IsTrue tells)
    → ((result ≡ reply.Key draw.dek) ⊎ ReadFails s.keys (call.Decrypt edek.version.key (sent_of edek)) (Rose before later) result) × (s' ≡ s)

-- The encrypted key that the namesystem shows of a file, live or in a snapshot, is that of a row that its table keeps, so the law above
-- speaks of it.
abbrev pub ShownKeysAreKept : Type 0
ShownKeysAreKept =
    (s : NameState) (path : ReadPath) (id : ℕ) (zone : Option NPath) (edek : Edek) (s' : NameState)
    → NameActs s (name_call.Info path) (name_reply.File id zone (Some edek)) s' → (file : Row) × In file (kept_rows s.table) × (file.id ≡ id) × (edek_of file.kind ≡ Some edek)

-- The same of any encrypted key that opens to a draw's data key, as of a file's that was copied and that no row has any more.
abbrev pub OpenedKeysDecrypt : Type 0
OpenedKeysDecrypt =
    (s : ServiceState) (edek : Edek) (draw : Draw) (row : KeyRow)
    (lines : List PropLine) (user : Text) (shown : Shown) (words : ℕ → ℕ) (now before later : ℕ) (tells : Bool) (result : KmsReply) (drawn : ℕ) (logged : List KeyCommand) (s' : ServiceState)
    → IsService s → OpensTo s.keys.table.rows draw edek → In row s.keys.table.rows → row.birth ≡ draw.birth
    → verdict lines user (call.Decrypt edek.version.key (sent_of edek)) ≡ Ok shown
    → ServesUser lines user s words now (call.Decrypt edek.version.key (sent_of edek)) (Rose before later) (IsTrue tells) result drawn logged s' → (IsTrue (is_older s.keys.table edek.version) → IsTrue tells)
    → ((result ≡ reply.Key draw.dek) ⊎ ReadFails s.keys (call.Decrypt edek.version.key (sent_of edek)) (Rose before later) result) × (s' ≡ s)

-- In a run from a linked world, an encrypted key that opens to its draw's data key as the promise says does so in every later world,
-- restarts included. No row needs to have it.
abbrev pub OpenedKeysStayOpen : Type 0
OpenedKeysStayOpen =
    (w : WorldState) (h : Hidden) (id : ℕ) (edek : Edek) (between : List WorldState) (v : WorldState)
    → IsService w.keys → LinkedWorld w h → LeadThrough w between v → IsService v.keys
    → OpensToItsDraw h.ledger w.keys.keys.table.rows id edek → OpensToItsDraw h.ledger v.keys.keys.table.rows id edek

-- A ready key, and its draw: it is of the draw's version, which is the current one of the key with the queue's birth, which is the
-- draw's; it has the draw's initialization vector, and opens to the draw's data key.
pub record IsUnderCurrent (rows : List KeyRow) (birth : ℕ) (edek : Edek) (draw : Draw) : Type 0 where
  pub row : KeyRow
  pub found : find_birth rows birth ≡ Some row
  pub of_birth : draw.birth ≡ birth
  pub of_version : edek.version ≡ draw.version
  pub of_iv : edek.iv ≡ draw.iv
  pub current : edek.version ≡ current_of row
  pub opens : OpensTo rows draw edek

-- In a linked world each ready key is so, with the draw at its place.
abbrev pub ReadyKeysAreCurrent : Type 0
ReadyKeysAreCurrent =
    (w : WorldState) (h : Hidden) (birth place : ℕ) (edek : Edek)
    → LinkedWorld w h → slice_get (ready_in w.keys.keys.ready.queues birth) place ≡ Some edek
    → (draw : Draw) × (slice_get (h.queued birth) place ≡ Some draw) × IsUnderCurrent w.keys.keys.table.rows birth edek draw
