-- What a table covers stays covered by each operation of the edit log that is no step of a re-encryption.
use Rattle.std.proofs.Common.{◌≡◌, inl, inr, ℕ, true, false, not, List, [], ◌∷◌, ◌++◌, Option, None, Some, refl, sym, ap, subst, ◌∙◌}
use Rattle.std.specs.Prelude.{⊤}
use Rattle.hk_base.specs.declared.names.Edek.{Edek}
use Rattle.hk_base.specs.declared.names.KeyName.{KeyName}
use Rattle.key_rows.specs.declared.rows.KeyRow.{KeyRow}
use Rattle.name_calls.specs.declared.calls.NameRefusal.TheVariants as refusal
use Rattle.name_calls.specs.declared.paths.NPath.{NPath}
use Rattle.inode_tree.specs.Rows.{Entry, entry_of, is_marked, move_allowed, put}
use Rattle.inode_tree.specs.ZoneFiles.{is_file_of, path_in}
use Rattle.edit_ops.specs.declared.ops.EditOp.{EditOp}
use Rattle.edit_ops.specs.declared.ops.EditOp.TheVariants.{Opened, Mkdir, File, Remove, Rename, Zone, Allow, Disallow, Snap, Unsnap, Submit, Update, Cancel, Complete}
use Rattle.reenc_walk.specs.declared.batches.WalkedBatch.{WalkedBatch}
use Rattle.reenc_walk.specs.declared.sent.Sent.{Sent}
use Rattle.reenc_walk.specs.Files.{is_after}
use Rattle.reenc_walk.specs.Walks.{WalkState}
use Rattle.snap_store.specs.Snapshots.{SnapTable}
use Rattle.zone_table.specs.declared.statuses.StatusRow.{StatusRow}
use Rattle.name_store.specs.Causes.{first_cause, id_at, is_under_reencryption, kept_causes, move_causes, nests_allowed, rename_causes}
use Rattle.name_store.specs.Table.{NameTable, after_table, allows, new_directory, new_file}
use Rattle.name_store.proofs.CauseLemmas.{allowed, clear, id-may-be-used, none-of-both, renamable}
use Rattle.name_core.specs.Walks.{walk_of}
use Rattle.world_run.specs.Covered.{AreInWalkOrder, CoveredBy, IsFileDone, WalkCovered, ids_sent}
use Rattle.world_run.specs.Ledger.{Draw, Ledger, Past}
use Rattle.world_run.specs.Linked.{AreDistinct}
use Rattle.world_run.specs.Promise.{In, WasThere}
use Rattle.world_run.proofs.CoveredRows.{KeepsFiles, Was, marked-keeps, put-keeps, removed-keeps, renamed-keeps, status-stays}
use Rattle.world_run.proofs.Members.{in-map}
use Rattle.world_run.proofs.RowLemmas.{InPlace}
use Rattle.zone_table.specs.Statuses.{StatusesFit}
use Rattle.world_run.proofs.RowsAfter.{to-be-marked}

-- rows that change

abbrev HasEntry : Ledger → ℕ → Type 0
HasEntry ledger id = (d : Draw) × In (id, d) ledger

-- a file that was sent has a draw
sent-drawn : (ledger : Ledger) (b : WalkedBatch) (id : ℕ) → ((y : Sent) → In y b.sent → HasEntry ledger y.id) → In id (ids_sent b.sent) → HasEntry ledger id
sent-drawn ledger b id entered i =
    let y = in-map (λ (z : Sent). z.id) id b.sent i in
    let e = entered y.0 y.1 in
    (e.0, subst (λ (n : ℕ). In (n, e.0) ledger) (sym y.2) e.1)

module _ (ledger : Ledger) (olds news : List Entry) (statuses : List StatusRow) (keeps : KeepsFiles ledger olds news statuses) (s : StatusRow) (member : In s statuses) (going : s.completed ≡ false) where
  -- a file of the zone that was sent was one before, at the same path in the zone
  sent-was : (b : WalkedBatch) → ((y : Sent) → In y b.sent → HasEntry ledger y.id) → (x : Entry) → In x news → is_file_of news s.zone x ≡ true → In x.row.id (ids_sent b.sent)
      → (y : Entry) × In y olds × (is_file_of olds s.zone y ≡ true) × In y.row.id (ids_sent b.sent) × (path_in news s.zone x.path ≡ path_in olds s.zone y.path)
  sent-was b entered x i file sent =
      let drawn = sent-drawn ledger b x.row.id entered sent in
      let was = keeps x drawn.0 i drawn.1 in
      let before : is_file_of olds s.zone was.old ≡ true = sym (was.file s member) ∙ file in
      (was.old, was.member, before, subst (λ (n : ℕ). In n (ids_sent b.sent)) was.id sent, was.place s member going before)

  order-kept : (bs : List WalkedBatch) → ((b : WalkedBatch) (y : Sent) → In b bs → In y b.sent → HasEntry ledger y.id) → AreInWalkOrder olds s.zone bs → AreInWalkOrder news s.zone bs
  order-kept [] entered o = tt
  order-kept (b ∷ bs) entered o = (
    λ c x i j file sent.
        let q = sent-was c (λ y k. entered c y (inr i) k) x j file sent in
        ap (is_after (Some b.last)) q.4 ∙ o.0 c q.0 i q.1 q.2 q.3,
    order-kept bs (λ c y i k. entered c y (inr i) k) o.1,
  )

  walk-kept : (w : WalkState) → WalkCovered ledger olds s w → WalkCovered ledger news s w
  walk-kept w c = record {
    not_before_mark = c.not_before_mark;
    after_mark = λ b x i out j file sent.
        let q = sent-was b (λ y k. c.entered b y i k) x j file sent in
        ap (is_after s.mark) q.4 ∙ c.after_mark b q.0 i out q.1 q.2 q.3;
    up_to_cursor = c.up_to_cursor;
    some_file = c.some_file;
    entered = c.entered;
    in_order = order-kept w.batches c.entered c.in_order;
    up_to_last = λ b x i j file sent.
        let q = sent-was b (λ y k. c.entered b y i k) x j file sent in
        ap (is_after (Some b.last)) q.4 ∙ c.up_to_last b q.0 i q.1 q.2 q.3;
    none_shared = c.none_shared;
  }

module _ (past : Past) (keys : List KeyRow) (t u : NameTable) (walks : List WalkState) (keeps : KeepsFiles past.ledger t.rows u.rows u.statuses) (stays : (s : StatusRow) → In s u.statuses → In s t.statuses)
    (c : CoveredBy past keys t walks) where
  -- a file that was there at a submission
  there-was : (s : StatusRow) (x : Entry) → In x u.rows → WasThere past.starts s.session x.row.id → Was t.rows u.rows u.statuses x
  there-was s x i there = let drawn = c.files s.session there.0 x.row.id there.1 there.2 in keeps x drawn.0 i drawn.1

  before : (s : StatusRow) (x : Entry) (was : Was t.rows u.rows u.statuses x) → WasThere past.starts s.session x.row.id → WasThere past.starts s.session was.old.row.id
  before s x was there = subst (WasThere past.starts s.session) was.id there

  done : (s : StatusRow) (x : Entry) (was : Was t.rows u.rows u.statuses x) → IsFileDone s was.old → IsFileDone s x
  done s x was (inl r) = inl (r.0, was.edek ∙ r.1, r.2, r.3)
  done s x was (inr failed) = inr failed

  -- other rows, and no more statuses
  pub covered-rows : CoveredBy past keys u walks
  covered-rows = record {
    going_on = λ s x i counts going j there.
        let was = there-was s x j there in
        let there_before = before s x was there in
        elim (c.going_on s was.old (stays s i) counts going was.member there_before) [
          | inl d ↦ inl (done s x was d)
          | inr (inl a) ↦ inr (inl (a.0, a.1, a.2, subst (λ (n : ℕ). In n (ids_sent a.0.sent)) (sym was.id) a.3))
          | inr (inr ahead) ↦ inr (inr (ap (is_after (walk_of walks s).cursor) (was.place s i going (c.in_zone s was.old (stays s i) was.member there_before)) ∙ ahead))
        ];
    completed = λ s x i counts over j there. let was = there-was s x j there in done s x was (c.completed s was.old (stays s i) counts over was.member (before s x was there));
    still_sent = λ s x b y i counts going j out sent k file same.
        let drawn = (c.walks_fit s (stays s i) going).entered b y j sent in
        let was = keeps x drawn.0 k (subst (λ (n : ℕ). In (n, drawn.0) past.ledger) (sym same) drawn.1) in
        elim (c.still_sent s was.old b y (stays s i) counts going j out sent was.member (sym (was.file s i) ∙ file) (sym was.id ∙ same)) [ inl e ↦ inl (was.edek ∙ e) | inr r ↦ inr (r.0, was.edek ∙ r.1, r.2, r.3) ];
    walks_fit = λ s i going. walk-kept past.ledger t.rows u.rows u.statuses keeps s i going (walk_of walks s) (c.walks_fit s (stays s i) going);
    in_zone = λ s x i j there. let was = there-was s x j there in was.file s i ∙ c.in_zone s was.old (stays s i) was.member (before s x was there);
    uncancelled = λ s i going. c.uncancelled s (stays s i) going;
    sessions = c.sessions;
    files = c.files;
    begun = c.begun;
  }

-- operations

-- another opening or other snapshots
pub covered-same : (past : Past) (keys : List KeyRow) (t : NameTable) (walks : List WalkState) (opening : ℕ) (snaps : SnapTable) → CoveredBy past keys t walks → CoveredBy past keys (record t { opening = opening; snaps = snaps }) walks
covered-same past keys t walks opening snaps c = record {
  going_on = c.going_on;
  completed = c.completed;
  still_sent = c.still_sent;
  walks_fit = c.walks_fit;
  in_zone = c.in_zone;
  uncancelled = c.uncancelled;
  sessions = c.sessions;
  files = c.files;
  begun = c.begun;
}

-- the ledger has no entry of the id
abbrev pub IsUnentered : Ledger → ℕ → Type 0
IsUnentered ledger id = (d : Draw) → In (id, d) ledger → ⊥

-- an operation that is no step of a re-encryption, and makes no row of an id with an entry
abbrev pub IsNoStep : Ledger → EditOp → Type 0
IsNoStep ledger (Mkdir id p) = IsUnentered ledger id
IsNoStep ledger (File id p edek) = IsUnentered ledger id
IsNoStep ledger (Submit session p noted) = ⊥
IsNoStep ledger (Update session failed mark files) = ⊥
IsNoStep ledger (Cancel session) = ⊥
IsNoStep ledger (Complete session) = ⊥
IsNoStep ledger _ = ⊤

module _ (past : Past) (keys : List KeyRow) (t : NameTable) (walks : List WalkState) (good : InPlace t.rows) (fit : StatusesFit t.rows t.statuses) where
  -- a row without a mark is put in
  put-covered : (e : Entry) → is_marked e.row ≡ false → entry_of t.rows e.row.id ≡ None → IsUnentered past.ledger e.row.id → CoveredBy past keys t walks
      → CoveredBy past keys (record t { rows = put e t.rows }) walks
  put-covered e plain fresh new c = covered-rows past keys t (record t { rows = put e t.rows }) walks (put-keeps past.ledger t.rows e t.statuses plain fresh new fit) (λ s i. i) c

  pub covered-mkdir : (id : ℕ) (p : NPath) → allows t (Mkdir id p) ≡ true → IsUnentered past.ledger id → CoveredBy past keys t walks → CoveredBy past keys (after_table t (Mkdir id p)) walks
  covered-mkdir id p may new c = put-covered (new_directory id p) refl (id-may-be-used t id (allowed t (Mkdir id p) refl may).ids).free new c

  pub covered-file : (id : ℕ) (p : NPath) (edek : Option Edek) → allows t (File id p edek) ≡ true → IsUnentered past.ledger id → CoveredBy past keys t walks → CoveredBy past keys (after_table t (File id p edek)) walks
  covered-file id p edek may new c = put-covered (new_file id p edek) refl (id-may-be-used t id (allowed t (File id p edek) refl may).ids).free new c

  pub covered-remove : (p : NPath) → CoveredBy past keys t walks → CoveredBy past keys (after_table t (Remove p)) walks
  covered-remove p c = covered-rows past keys t (after_table t (Remove p)) walks (removed-keeps past.ledger t.rows p t.statuses) (status-stays t.rows p t.statuses) c

  pub covered-zone : (p : NPath) (key : KeyName) → allows t (Zone p key) ≡ true → CoveredBy past keys t walks → CoveredBy past keys (after_table t (Zone p key)) walks
  covered-zone p key may c =
      covered-rows past keys t (after_table t (Zone p key)) walks
      (marked-keeps t.rows p (id_at t.rows p) key good (to-be-marked t.rows p (allowed t (Zone p key) refl may).free) past.ledger t.statuses) (λ s i. i) c

  -- nothing moves within a zone that is being re-encrypted
  unmoved : (p q : NPath) → first_cause (rename_causes t.rows t.snaps t.statuses p q) ≡ None → is_under_reencryption t.rows t.statuses p ≡ false
  unmoved p q free =
      let last = (nests_allowed t.rows t.snaps p q, refusal.NestedSnapshottable) ∷ (not (move_allowed t.rows p q), refusal.CrossZone) ∷ (is_under_reencryption t.rows t.statuses p, refusal.UnderReencryption) ∷ [] in
      let parts = none-of-both (move_causes t.rows p q) (kept_causes t.rows t.snaps p ++ last) free in
      let more = none-of-both (kept_causes t.rows t.snaps p) last parts.1 in
      let a = clear (nests_allowed t.rows t.snaps p q) refusal.NestedSnapshottable _ more.1 in
      let b = clear (not (move_allowed t.rows p q)) refusal.CrossZone _ a.1 in
      (clear (is_under_reencryption t.rows t.statuses p) refusal.UnderReencryption _ b.1).0

  pub covered-rename : (p q : NPath) → AreDistinct t.statuses → allows t (Rename p q) ≡ true → CoveredBy past keys t walks → CoveredBy past keys (after_table t (Rename p q)) walks
  covered-rename p q distinct may c =
      let free = (allowed t (Rename p q) refl may).free in
      let r = renamable t.rows t.snaps t.statuses p q free in
      covered-rows past keys t (after_table t (Rename p q)) walks (renamed-keeps t.rows p q good r.can r.zone past.ledger t.statuses distinct (unmoved p q free)) (λ s i. i) c

  pub covered-after : (o : EditOp) → AreDistinct t.statuses → allows t o ≡ true → IsNoStep past.ledger o → CoveredBy past keys t walks → CoveredBy past keys (after_table t o) walks
  covered-after (Opened opening) distinct may is c = covered-same past keys t walks opening t.snaps c
  covered-after (Mkdir id p) distinct may is c = covered-mkdir id p may is c
  covered-after (File id p edek) distinct may is c = covered-file id p edek may is c
  covered-after (Remove p) distinct may is c = covered-remove p c
  covered-after (Rename p q) distinct may is c = covered-rename p q distinct may c
  covered-after (Zone p key) distinct may is c = covered-zone p key may c
  covered-after (Allow p) distinct may is c = covered-same past keys t walks t.opening (after_table t (Allow p)).snaps c
  covered-after (Disallow p) distinct may is c = covered-same past keys t walks t.opening (after_table t (Disallow p)).snaps c
  covered-after (Snap p name) distinct may is c = covered-same past keys t walks t.opening (after_table t (Snap p name)).snaps c
  covered-after (Unsnap p name) distinct may is c = covered-same past keys t walks t.opening (after_table t (Unsnap p name)).snaps c
  covered-after (Submit session p noted) distinct may is c = absurd is
  covered-after (Update session failed mark files) distinct may is c = absurd is
  covered-after (Cancel session) distinct may is c = absurd is
  covered-after (Complete session) distinct may is c = absurd is
