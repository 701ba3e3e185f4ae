-- A walk of a zone keeps the world linked.
use Rattle.std.proofs.Common.{◌≡◌, inl, inr, ℕ, ◌==◌, Bool, true, false, cond, ◌&&◌, List, [], ◌∷◌, Option, Some, None, Ok, Err, refl, sym, ap, subst, ◌∙◌, arith}
use Rattle.std.proofs.lemmas.Bool.Decides.{nat_tests}
use Rattle.std.specs.declared.result.Result.{Result}
use Rattle.std.proofs.lemmas.Bool.{and_parts}
use Rattle.hk_base.specs.declared.names.VersionName.{VersionName}
use Rattle.key_rows.specs.declared.rows.KeyRow.{KeyRow}
use Rattle.kms_core.proofs.KeyLemmas.{found_passes}
use Rattle.inode_tree.specs.Rows.{Entry}
use Rattle.name_calls.specs.declared.calls.NameRefusal.{NameRefusal}
use Rattle.name_calls.specs.declared.calls.NameRefusal.TheVariants as refusal
use Rattle.name_calls.specs.declared.paths.NPath.{NPath}
use Rattle.reenc_walk.specs.declared.sent.BatchNote.{BatchNote}
use Rattle.reenc_walk.specs.declared.sent.Sent.{Sent}
use Rattle.reenc_walk.specs.Files.{is_after, is_file_of, path_in, sent_of, walk_list}
use Rattle.reenc_walk.specs.Walks.{WalkState, next_files, note_of, outstanding, walked}
use Rattle.edit_ops.specs.declared.ops.EditOp.{EditOp}
use Rattle.edit_ops.specs.declared.ops.EditOp.TheVariants as op
use Rattle.name_store.specs.Causes.{id_at}
use Rattle.name_store.specs.Table.{NameTable, after_table, rows_of_entries, snapped_rows}
use Rattle.name_core.specs.declared.walks.Walked.{Walked}
use Rattle.name_core.specs.declared.walks.Walked.TheVariants as walk
use Rattle.name_core.specs.Calls.{NoRoom, Plain, done_with, first_cause, path_causes}
use Rattle.name_core.specs.State.{IsNames, NameService, NameState, settled, took}
use Rattle.name_core.specs.Walks.{WalkDeed, deed_by_files, deed_by_status, going_on, is_walk_of, or_new_walk, status_at, walk_causes, walk_deed, walk_of, walk_under, with_walk}
use Rattle.name_core.specs.Walking.{NameWalks, WalkOutcome, WalkServes, WalkServesUnless, unless_not_walked}
use Rattle.zone_table.specs.declared.statuses.StatusRow.{StatusRow}
use Rattle.zone_table.specs.Statuses.{StatusesFit, is_of}
use Rattle.hk_events.specs.declared.event.Line.{Line}
use Rattle.world_run.specs.Acknowledged.{Acknowledged}
use Rattle.world_run.specs.Batches.{after_walk}
use Rattle.world_run.specs.Ledger.{Hidden, Ledger}
use Rattle.world_run.specs.Linked.{FilesLinked, HasDraw, LinkedDraws, OfSession}
use Rattle.world_run.specs.Promise.{In, edek_of}
use Rattle.world_run.specs.Step.{WalkAt}
use Rattle.world_run.specs.World.{WorldState, with_batch}
use Rattle.world_run.proofs.CoveredWalks.{row-in, sent-is}
use Rattle.world_run.proofs.Members.{found-in, in-filter, in-filter-map, in-left, in-more, in-take, some-is}
use Rattle.world_run.proofs.NameKeeps.{KeepsNames, logs-keeps, settled-keeps}
use Rattle.world_run.proofs.RowLemmas.{InPlace}
use Rattle.world_run.proofs.RowsAfter.{files-after}
use Rattle.world_run.proofs.SessionLemmas.{file-noted}
use Rattle.world_run.proofs.WorldLemmas.{StillLinked, linked-still, rows-settled, statuses-settled}

-- the files of a batch

-- a file of the zone that is sent
record IsSent (rows : List Entry) (zone : ℕ) (x : Sent) : Type 0 where
  entry : Entry
  live : In entry rows
  of_zone : is_file_of rows zone entry ≡ true
  id_is : entry.row.id ≡ x.id
  edek_is : edek_of entry.row.kind ≡ Some x.edek

-- each is one
sent-live : (rows : List Entry) (zone size : ℕ) (w : WalkState) (x : Sent) → In x (note_of rows zone size w).sent → IsSent rows zone x
sent-live rows zone size w x i =
    let from = in-filter-map sent_of x (next_files rows zone size w) i in
    let test = λ (y : Entry). is_file_of rows zone y && is_after w.cursor (path_in rows zone y.path) in
    let walked = in-filter test from.0 rows (in-take size from.0 (walk_list rows zone w.cursor) from.1) in
    let is = sent-is from.0 x from.2 in
    record { entry = from.0; live = walked.0; of_zone = (and_parts (is_file_of rows zone from.0) (is_after w.cursor (path_in rows zone from.0.path)) walked.1).0; id_is = is.0; edek_is = is.1 }

-- and has a draw
pub sent-drawn : (ledger : Ledger) (keys : List KeyRow) (t : NameTable) (zone size : ℕ) (w : WalkState) (x : Sent) → FilesLinked ledger keys t → In x (note_of t.rows zone size w).sent → HasDraw ledger keys x.id x.edek
sent-drawn ledger keys t zone size w x f i =
    let s = sent-live t.rows zone size w x i in
    subst (λ (id : ℕ). HasDraw ledger keys id x.edek) s.id_is (f.files s.entry.row x.edek (in-left s.entry.row (rows_of_entries t.rows) (snapped_rows t.snaps.taken) (row-in s.entry t.rows s.live)) s.edek_is)

-- and is of the key of the draw of the re-encryption
sent-session : (ledger : Ledger) (keys : List KeyRow) (t : NameTable) (st : StatusRow) (size : ℕ) (w : WalkState) (x : Sent) → InPlace t.rows → StatusesFit t.rows t.statuses → FilesLinked ledger keys t → In st t.statuses → w.session ≡ st.session
    → In x (note_of t.rows st.zone size w).sent → OfSession ledger w.session x.edek.version.key
sent-session ledger keys t st size w x good fit f member session i =
    let s = sent-live t.rows st.zone size w x i in
    let has = f.statuses st member in
    let noted : x.edek.version.key ≡ st.noted.key = file-noted t.rows t.statuses st s.entry x.edek good fit member (f.zones s.entry s.live) s.of_zone s.edek_is in
    record { draw = has.draw; entered = subst (λ (id : ℕ). In (id, has.draw) ledger) (sym session) has.entered; of_key = sym (noted ∙ ap (λ (v : VersionName). v.key) has.noted_is) }

-- a batch that is kept

linked-batch : (w : WorldState) (h : Hidden) (batch : BatchNote) → ((x : Sent) → In x batch.sent → HasDraw h.ledger w.keys.keys.table.rows x.id x.edek)
    → ((x : Sent) → In x batch.sent → OfSession h.ledger batch.session x.edek.version.key) → LinkedDraws w h → LinkedDraws (with_batch batch w) h
linked-batch w h batch drawn of_session l = record {
  files = l.files;
  replies = l.replies;
  draws = l.draws;
  ledger = l.ledger;
  queues = l.queues;
  tickets = l.tickets;
  batches = record {
    sent = λ b x i j. elim (in-more b batch w.kept.batches i) [ inl old ↦ l.batches.sent b x old j | inr is ↦ drawn x (subst (λ (c : BatchNote). In x c.sent) is j) ];
    sessions = λ b x i j. elim (in-more b batch w.kept.batches i) [
      | inl old ↦ l.batches.sessions b x old j
      | inr is ↦ subst (λ (c : BatchNote). OfSession h.ledger c.session x.edek.version.key) (sym is) (of_session x (subst (λ (c : BatchNote). In x c.sent) is j))
    ];
    back = l.batches.back;
  };
  versions = l.versions;
}

-- other walks
linked-walks : (w : WorldState) (h : Hidden) (s : NameState) (walks : List WalkState) → KeepsNames w h (record { names = s; pending = None }) → KeepsNames w h (record { names = record s { walks = walks }; pending = None })
linked-walks w h s walks l = record { files = l.files; replies = l.replies; draws = l.draws; ledger = l.ledger; queues = l.queues; tickets = l.tickets; batches = l.batches; versions = l.versions }

-- what a walk does if no file is left

abbrev pub deed_left : NameState → ℕ → ℕ → Bool → WalkDeed
deed_left s session n none = cond none (record { answer = walk.Completed; logs = Some (op.Complete session); state = s }) (record { answer = walk.NoneLeft n; logs = None; state = s })

-- its operation completes a session

abbrev pub IsCompletion : EditOp → Type 0
IsCompletion o = (session : ℕ) × (o ≡ op.Complete session)

pub walk-completes : (s : NameState) (p : NPath) (o : EditOp) → (walk_deed s p).logs ≡ Some o → IsCompletion o
walk-completes s p o is = by-status (status_at s.table p) is
  where
    zone : ℕ
    zone = id_at s.table.rows p

    by-number : (session n : ℕ) (b : Bool) → (deed_left s session n b).logs ≡ Some o → IsCompletion o
    by-number session n true is = (session, sym (some-is (op.Complete session) o is))
    by-number session n false is = absurd cc

    by-files : (st : StatusRow) (files : List Entry) → (deed_by_files s zone st files).logs ≡ Some o → IsCompletion o
    by-files st [] is = by-number st.session (outstanding (walk_of s.walks st).batches) (outstanding (walk_of s.walks st).batches == 0) is
    by-files st (e ∷ es) is = absurd cc

    by-status : (st : Option StatusRow) → (deed_by_status s zone st).logs ≡ Some o → IsCompletion o
    by-status None is = absurd cc
    by-status (Some st) is = by-files st (walk_list s.table.rows zone (walk_of s.walks st).cursor) is

-- with the operation and without it
completion-keeps : (w : WorldState) (h : Hidden) (s : NameState) (session : ℕ) → InPlace s.table.rows → KeepsNames w h (record { names = s; pending = None })
    → KeepsNames w h (record { names = took s (op.Complete session); pending = None }) × KeepsNames w h (record { names = s; pending = Some (op.Complete session) })
completion-keeps w h s session good l = logs-keeps w h s (op.Complete session) refl tt tt tt good l

-- and it keeps the files linked
pub completion-files : (ledger : Ledger) (keys : List KeyRow) (s : NameState) (p : NPath) (o : EditOp) → InPlace s.table.rows → (walk_deed s p).logs ≡ Some o → FilesLinked ledger keys s.table → FilesLinked ledger keys (after_table s.table o)
completion-files ledger keys s p o good is f =
    let c = walk-completes s p o is in
    subst (λ (x : EditOp). FilesLinked ledger keys (after_table s.table x)) (sym c.1) (files-after ledger keys s.table (op.Complete c.0) good tt tt tt f)

-- a walk while nothing is pending

abbrev AfterWalk : WorldState → Hidden → Result Walked NameRefusal → NameState → Type 0
AfterWalk w h result names = LinkedDraws (after_walk result (record w { names = record { names = names; pending = None } })) h

-- the walk of a status has its session
walk-session : (walks : List WalkState) (st : StatusRow) → (walk_of walks st).session ≡ st.session
walk-session walks st = go (walk_under walks st.session) refl
  where
    is-id : (a b : ℕ) → (a == b) ≡ true → a ≡ b
    is-id a b h = grind (arith, nat_tests)

    go : (o : Option WalkState) → walk_under walks st.session ≡ o → (or_new_walk o st).session ≡ st.session
    go None is = refl
    go (Some w) is = is-id w.session st.session (found_passes (is_walk_of st.session) walks w is)

deed-keeps : (w : WorldState) (h : Hidden) (s : NameState) (p : NPath) → InPlace s.table.rows → StatusesFit s.table.rows s.table.statuses → KeepsNames w h (record { names = s; pending = None }) → AfterWalk w h (Ok (walk_deed s p).answer) (done_with (walk_deed s p).logs (walk_deed s p).state)
deed-keeps w h s p good fit l = by-status (status_at s.table p) refl
  where
    zone : ℕ
    zone = id_at s.table.rows p

    by-number : (session n : ℕ) (b : Bool) → AfterWalk w h (Ok (deed_left s session n b).answer) (done_with (deed_left s session n b).logs (deed_left s session n b).state)
    by-number session n true = (completion-keeps w h s session good l).0
    by-number session n false = l

    is-zone : (st : StatusRow) → (st.zone == zone) ≡ true → st.zone ≡ zone
    is-zone st h = grind (arith, nat_tests)

    by-files : (st : StatusRow) (files : List Entry) → In st s.table.statuses → st.zone ≡ zone → AfterWalk w h (Ok (deed_by_files s zone st files).answer) (done_with (deed_by_files s zone st files).logs (deed_by_files s zone st files).state)
    by-files st [] member same = by-number st.session (outstanding (walk_of s.walks st).batches) (outstanding (walk_of s.walks st).batches == 0)
    by-files st (e ∷ es) member same =
        let wk : WalkState = walk_of s.walks st in
        linked-batch _ h (note_of s.table.rows zone s.batch wk) (λ x i. sent-drawn h.ledger w.keys.keys.table.rows s.table zone s.batch wk x (l.files true) i)
        (λ x i. sent-session h.ledger w.keys.keys.table.rows s.table st s.batch wk x good fit (l.files true) member (walk-session s.walks st) (subst (λ (z : ℕ). In x (note_of s.table.rows z s.batch wk).sent) (sym same) i))
        (linked-walks w h s (going_on s.table.statuses (with_walk (walked s.table.rows zone s.batch wk) s.walks)) l)

    by-status : (st : Option StatusRow) → status_at s.table p ≡ st → AfterWalk w h (Ok (deed_by_status s zone st).answer) (done_with (deed_by_status s zone st).logs (deed_by_status s zone st).state)
    by-status None is = l
    by-status (Some st) is =
        by-files st (walk_list s.table.rows zone (walk_of s.walks st).cursor) (found-in (is_of zone) s.table.statuses st is) (is-zone st (found_passes (is_of zone) s.table.statuses st is))

walks-keeps : (w : WorldState) (h : Hidden) (s : NameState) (p : NPath) (result : Result Walked NameRefusal) (changed : NameState) → InPlace s.table.rows → StatusesFit s.table.rows s.table.statuses → KeepsNames w h (record { names = s; pending = None })
    → NameWalks s p result changed → AfterWalk w h result changed
walks-keeps w h s p result changed good fit l (NoRoom, may, is) = subst (λ (o : WalkOutcome). AfterWalk w h o.reply o.state) (sym is) l
walks-keeps w h s p result changed good fit l (Plain, may, is) = subst (λ (o : WalkOutcome). AfterWalk w h o.reply o.state) (sym is) (go (first_cause (walk_causes s p)))
  where
    go : (o : Option NameRefusal) → AfterWalk w h (unless_not_walked o s (walk_deed s p)).reply (unless_not_walked o s (walk_deed s p)).state
    go (Some why) = l
    go None = deed-keeps w h s p good fit l

-- a walk

-- a refusal leaves the world as it is
refused-keeps : (w : WorldState) (h : Hidden) (why : NameRefusal) (result : Result Walked NameRefusal) (names : NameService) → result ≡ Err why → KeepsNames w h names → LinkedDraws (after_walk result (record w { names = names })) h
refused-keeps w h why result names is l = subst (λ (r : Result Walked NameRefusal). LinkedDraws (after_walk r (record w { names = names })) h) (sym is) l

walk-keeps : (w : WorldState) (h : Hidden) (p : NPath) (fault : Type 0) (result : Result Walked NameRefusal) (ops : List EditOp) (names : NameService) → IsNames w.names → LinkedDraws w h
    → WalkServes w.names p fault result ops names → LinkedDraws (after_walk result (record w { names = names })) h
walk-keeps w h p fault result ops names fit l serves = go (first_cause (path_causes p)) serves
  where
    go : (o : Option NameRefusal) → WalkServesUnless o w.names p fault result ops names → LinkedDraws (after_walk result (record w { names = names })) h
    go (Some why) r = refused-keeps w h why result names r.reply_is (subst (KeepsNames w h) (sym r.same) l)
    go None (inl u) = refused-keeps w h refusal.StoreFault result names u.ends.reply_is (subst (KeepsNames w h) (sym u.ends.same) l)
    go None (inr (k, inl d)) =
        subst (λ (n : NameService). LinkedDraws (after_walk result (record w { names = n })) h) (sym d.left)
        (walks-keeps w h (settled k w.names) p result d.changed (rows-settled k w.names fit) (statuses-settled k w.names fit) (settled-keeps w h k fit l) d.walks)
    go None (inr (k, inr u)) =
        let c = walk-completes (settled k w.names) p u.op u.writes in
        refused-keeps w h refusal.StoreFault result names u.reply_is
        (subst (KeepsNames w h) (sym u.left)
        (subst (λ (o : EditOp). KeepsNames w h (record { names = settled k w.names; pending = Some o })) (sym c.1)
        (completion-keeps w h (settled k w.names) c.0 (rows-settled k w.names fit) (settled-keeps w h k fit l)).1))

pub walk-at-keeps : (w : WorldState) (h : Hidden) (o : Option NPath) (fault : Type 0) (outcome : Line) (drawn : ℕ) (logged : Acknowledged) (w' : WorldState) → IsNames w.names → LinkedDraws w h
    → WalkAt w o fault outcome drawn logged w' → StillLinked w h drawn w'
walk-at-keeps w h None fault outcome drawn logged w' fit l r = subst (StillLinked w h drawn) (sym r.1.same) (linked-still w h drawn l)
walk-at-keeps w h (Some p) fault outcome drawn logged w' fit l (inl a) =
    subst (StillLinked w h drawn) (sym a.left) (answered a.result (walk-keeps w h p fault a.result a.ops a.names fit l a.walks))
  where
    answered : (result : Result Walked NameRefusal) → LinkedDraws (after_walk result (record w { names = a.names })) h → StillLinked w h drawn (after_walk result (record w { names = a.names }))
    answered (Ok (walk.Batch batch)) m = linked-still (with_batch batch (record w { names = a.names })) h drawn m
    answered (Ok (walk.NoneLeft outstanding)) m = linked-still (record w { names = a.names }) h drawn m
    answered (Ok walk.Completed) m = linked-still (record w { names = a.names }) h drawn m
    answered (Err why) m = linked-still (record w { names = a.names }) h drawn m
walk-at-keeps w h (Some p) fault outcome drawn logged w' fit l (inr r) = subst (StillLinked w h drawn) (sym r.1.same) (linked-still w h drawn l)
