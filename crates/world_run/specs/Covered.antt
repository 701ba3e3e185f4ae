-- A completed re-encryption left no file behind: what stays true from event to event, and gives that.
use Rattle.std.specs.Prelude.{◌≡◌, ◌≢◌, ◌⊎◌, ℕ, ⊤, true, false, List, [], ◌∷◌, map, Some}
use Rattle.key_rows.specs.declared.rows.KeyRow.{KeyRow}
use Rattle.inode_tree.specs.Rows.{Entry}
use Rattle.inode_tree.specs.ZoneFiles.{edek_of, is_file_of, path_in}
use Rattle.reenc_walk.specs.declared.batches.WalkedBatch.{WalkedBatch}
use Rattle.reenc_walk.specs.declared.sent.Sent.{Sent}
use Rattle.reenc_walk.specs.Files.{is_after}
use Rattle.reenc_walk.specs.Walks.{WalkState}
use Rattle.zone_table.specs.declared.statuses.StatusRow.{StatusRow}
use Rattle.name_store.specs.Table.{NameTable}
use Rattle.name_core.specs.Walks.{walk_of}
use Rattle.world_run.specs.Ledger.{Draw, Ledger, Past}
use Rattle.world_run.specs.Promise.{In, IsInForce, IsReencrypted, WasThere}

-- the file is re-encrypted, or the re-encryption counts a failure
abbrev pub IsFileDone : StatusRow → Entry → Type 0
IsFileDone s x = IsReencrypted s x ⊎ (s.failed ≢ 0)

abbrev pub ids_sent : List Sent → List ℕ
ids_sent sent = map (λ (y : Sent). y.id) sent

-- an outstanding batch of the walk has sent the file
abbrev pub IsAwaited : WalkState → Entry → Type 0
IsAwaited w x = (b : WalkedBatch) × In b w.batches × (b.outstanding ≡ true) × In x.row.id (ids_sent b.sent)

-- the file comes after the cursor of the walk
abbrev pub IsAhead : List Entry → ℕ → WalkState → Entry → Type 0
IsAhead rows zone w x = is_after w.cursor (path_in rows zone x.path) ≡ true

-- what the batches have sent of the files that lie in the zone comes after the path
abbrev pub AreSentAfter : List Entry → ℕ → List (List ℕ) → List WalkedBatch → Type 0
AreSentAfter rows zone last bs =
    (b : WalkedBatch) (x : Entry) → In b bs → In x rows → is_file_of rows zone x ≡ true → In x.row.id (ids_sent b.sent) → is_after (Some last) (path_in rows zone x.path) ≡ true

-- the files of each batch come after the last path of each batch before it
abbrev pub AreInWalkOrder : List Entry → ℕ → List WalkedBatch → Type 0
AreInWalkOrder rows zone [] = ⊤
AreInWalkOrder rows zone (b ∷ bs) = AreSentAfter rows zone b.last bs × AreInWalkOrder rows zone bs

-- the two batches have sent no file in common
abbrev pub AreBatchesApart : WalkedBatch → WalkedBatch → Type 0
AreBatchesApart b c = (id : ℕ) → In id (ids_sent b.sent) → In id (ids_sent c.sent) → ⊥

-- no file was sent in two batches
abbrev pub NoneShared : List WalkedBatch → Type 0
NoneShared [] = ⊤
NoneShared (b ∷ bs) = ((c : WalkedBatch) → In c bs → AreBatchesApart b c) × NoneShared bs

-- the walk of a re-encryption that goes on
pub record WalkCovered (ledger : Ledger) (rows : List Entry) (s : StatusRow) (w : WalkState) : Type 0 where
  -- what comes after the cursor comes after the mark, and so do the files of an outstanding batch
  pub not_before_mark : (p : List (List ℕ)) → is_after w.cursor p ≡ true → is_after s.mark p ≡ true
  pub after_mark :
      (b : WalkedBatch) (x : Entry) → In b w.batches → b.outstanding ≡ true → In x rows → is_file_of rows s.zone x ≡ true → In x.row.id (ids_sent b.sent)
      → is_after s.mark (path_in rows s.zone x.path) ≡ true
  -- what comes after the cursor comes after the last path of each batch
  pub up_to_cursor : (b : WalkedBatch) (p : List (List ℕ)) → In b w.batches → is_after w.cursor p ≡ true → is_after (Some b.last) p ≡ true
  -- a batch has a file, and each of its files has a draw
  pub some_file : (b : WalkedBatch) → In b w.batches → b.sent ≢ []
  pub entered : (b : WalkedBatch) (y : Sent) → In b w.batches → In y b.sent → (d : Draw) × In (y.id, d) ledger
  pub in_order : AreInWalkOrder rows s.zone w.batches
  -- a batch's own files that lie in the zone do not come after its last path, so no file was sent twice
  pub up_to_last :
      (b : WalkedBatch) (x : Entry) → In b w.batches → In x rows → is_file_of rows s.zone x ≡ true → In x.row.id (ids_sent b.sent)
      → is_after (Some b.last) (path_in rows s.zone x.path) ≡ false
  pub none_shared : NoneShared w.batches

-- The re-encryptions of a table, with these walks. Of those that count, each file that was there at the submission and still exists is
-- done, or, while the re-encryption goes on, it was sent in an outstanding batch or comes after the cursor.
pub record CoveredBy (past : Past) (keys : List KeyRow) (names : NameTable) (walks : List WalkState) : Type 0 where
  pub going_on :
      (s : StatusRow) (x : Entry) → In s names.statuses → IsInForce past.ledger keys s → s.completed ≡ false → In x names.rows → WasThere past.starts s.session x.row.id
      → IsFileDone s x ⊎ (IsAwaited (walk_of walks s) x ⊎ IsAhead names.rows s.zone (walk_of walks s) x)
  pub completed : (s : StatusRow) (x : Entry) → In s names.statuses → IsInForce past.ledger keys s → s.completed ≡ true → In x names.rows → WasThere past.starts s.session x.row.id → IsFileDone s x
  -- a file of an outstanding batch that lies in the zone has the encrypted key that was sent, or is re-encrypted
  pub still_sent :
      (s : StatusRow) (x : Entry) (b : WalkedBatch) (y : Sent) → In s names.statuses → IsInForce past.ledger keys s → s.completed ≡ false → In b (walk_of walks s).batches → b.outstanding ≡ true → In y b.sent
      → In x names.rows → is_file_of names.rows s.zone x ≡ true → x.row.id ≡ y.id → (edek_of x.row.kind ≡ Some y.edek) ⊎ IsReencrypted s x
  pub walks_fit : (s : StatusRow) → In s names.statuses → s.completed ≡ false → WalkCovered past.ledger names.rows s (walk_of walks s)
  -- what was there is still a file of the zone, if it still exists
  pub in_zone : (s : StatusRow) (x : Entry) → In s names.statuses → In x names.rows → WasThere past.starts s.session x.row.id → is_file_of names.rows s.zone x ≡ true
  pub uncancelled : (s : StatusRow) → In s names.statuses → s.completed ≡ false → s.cancelled ≡ false
  -- each re-encryption that began, each file that was there, and the session of each walk has a draw
  pub sessions : (session : ℕ) (ids : List ℕ) → In (session, ids) past.starts → (d : Draw) × In (session, d) past.ledger
  pub files : (session : ℕ) (ids : List ℕ) (id : ℕ) → In (session, ids) past.starts → In id ids → (d : Draw) × In (id, d) past.ledger
  pub begun : (w : WalkState) → In w walks → (d : Draw) × In (w.session, d) past.ledger
