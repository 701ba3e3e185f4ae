-- Calls of the namesystem and asks keep the world linked.
use Rattle.std.proofs.Common.{◌≡◌, inl, inr, ℕ, ◌+◌, Bool, true, false, List, Option, Some, None, Ok, Err, refl, sym, ap, subst, arith}
use Rattle.std.specs.declared.result.Result.{Result}
use Rattle.hk_base.specs.declared.texts.Text.{Text}
use Rattle.key_rows.specs.declared.rows.KeyRow.{KeyRow}
use Rattle.name_calls.specs.declared.paths.NPath.{NPath}
use Rattle.edit_ops.specs.declared.ops.EditOp.{EditOp}
use Rattle.edit_ops.specs.declared.ops.EditOp.TheVariants as op
use Rattle.name_store.specs.Store.{is_opening}
use Rattle.name_store.specs.Table.{NameTable, after_table, settled_table}
use Rattle.name_store.proofs.CauseLemmas.{renamable}
use Rattle.name_calls.specs.declared.calls.Ask.{Ask}
use Rattle.name_calls.specs.declared.calls.AskNote.{AskNote}
use Rattle.name_calls.specs.declared.calls.NameCall.{NameCall}
use Rattle.name_calls.specs.declared.calls.NameCall.TheVariants as call
use Rattle.name_calls.specs.declared.calls.NameRefusal.{NameRefusal}
use Rattle.name_calls.specs.declared.calls.NameReply.{NameReply}
use Rattle.name_core.specs.Asks.{AskOutcome, Asks, ask_causes, asked, ask_opened, unless_not_asked}
use Rattle.name_core.specs.Calls.{NameActs, NoRoom, Plain, causes, deed, done_with, early_causes, first_cause, unless_refused}
use Rattle.name_core.specs.Service.{NameServes, ServesBy, ServesUnless, is_change}
use Rattle.name_core.specs.Walks.{session_at}
use Rattle.name_core.specs.State.{IsNames, NameService, NameState, next_id, settled, took}
use Rattle.hk_events.specs.declared.event.Line.{Line}
use Rattle.world_run.specs.Acknowledged.{Acknowledged}
use Rattle.world_run.specs.World.{WorldState, with_names}
use Rattle.world_run.specs.Step.{AskAt, PathActs, after_ask}
use Rattle.world_run.specs.Ledger.{Hidden, Ledger}
use Rattle.world_run.specs.Linked.{FilesLinked, LedgerFits, LinkedDraws}
use Rattle.world_run.proofs.RowLemmas.{InPlace}
use Rattle.world_run.proofs.RowsAfter.{OpFits, OpHasDraw, OpIsNew, files-after}
use Rattle.world_run.proofs.WorldLemmas.{StillLinked, ledger-more, linked-ask, linked-names, linked-still, next-after, next-settled, rows-settled}

-- calls of the namesystem

abbrev pub KeepsNames : WorldState → Hidden → NameService → Type 0
KeepsNames w h names = LinkedDraws (record w { names = names }) h

-- files that are linked with an operation and without it
pub with-pending : (ledger : Ledger) (keys : List KeyRow) (t : NameTable) (logs : EditOp) → FilesLinked ledger keys t → FilesLinked ledger keys (after_table t logs)
    → (kept : Bool) → FilesLinked ledger keys (settled_table kept (Some logs) t)
with-pending ledger keys t logs without with_it true = with_it
with-pending ledger keys t logs without with_it false = without

-- the pending operation was settled
pub settled-keeps : (w : WorldState) (h : Hidden) (k : Bool) → IsNames w.names → LinkedDraws w h → KeepsNames w h (record { names = settled k w.names; pending = None })
settled-keeps w h k fit l =
    linked-names w h (record { names = settled k w.names; pending = None }) (λ kept. l.files k)
    (subst (λ (n : ℕ). LedgerFits h.ledger w.kept.replies h.replied w.names.names.asks n) (sym (next-settled k w.names fit)) l.ledger) l

-- the operation of a call was written, or is pending
abbrev DoneAndPending : WorldState → Hidden → NameState → NameCall → Type 0
DoneAndPending w h s c =
    KeepsNames w h (record { names = done_with (deed s c).logs (deed s c).state; pending = None }) × KeepsNames w h (record { names = (deed s c).state; pending = (deed s c).logs })

-- a change that uses no id
pub logs-keeps : (w : WorldState) (h : Hidden) (s : NameState) (o : EditOp) → is_opening o ≡ false → OpFits s.table.rows o → OpHasDraw h.ledger w.keys.keys.table.rows o → OpIsNew s.table.statuses o → InPlace s.table.rows
    → KeepsNames w h (record { names = s; pending = None }) → KeepsNames w h (record { names = took s o; pending = None }) × KeepsNames w h (record { names = s; pending = Some o })
logs-keeps w h s o changes fits has new good l =
    let made : FilesLinked h.ledger w.keys.keys.table.rows (after_table s.table o) = files-after h.ledger w.keys.keys.table.rows s.table o good fits has new (l.files true) in (
      record {
        files = λ kept. made;
        replies = l.replies;
        draws = l.draws;
        ledger = subst (λ (n : ℕ). LedgerFits h.ledger w.kept.replies h.replied s.asks n) (sym (next-after s o changes)) l.ledger;
        queues = l.queues;
        tickets = l.tickets;
        batches = l.batches;
        versions = l.versions;
      },
      record { files = with-pending h.ledger w.keys.keys.table.rows s.table o (l.files true) made; replies = l.replies; draws = l.draws; ledger = l.ledger; queues = l.queues; tickets = l.tickets; batches = l.batches; versions = l.versions },
    )

deed-keeps : (w : WorldState) (h : Hidden) (s : NameState) (c : NameCall) → InPlace s.table.rows → first_cause (causes s c) ≡ None → KeepsNames w h (record { names = s; pending = None }) → DoneAndPending w h s c
deed-keeps w h s (call.Mkdir p) good free l =
    logs-keeps w h (record s { next = s.next + 1 }) (op.Mkdir (next_id s) p) refl tt tt tt good
    (record { files = l.files; replies = l.replies; draws = l.draws; ledger = ledger-more h.ledger w.kept.replies h.replied s.asks (next_id s) (next_id (record s { next = s.next + 1 })) (omega arith) l.ledger; queues = l.queues; tickets = l.tickets; batches = l.batches; versions = l.versions })
deed-keeps w h s (call.Delete p recursive) good free l = logs-keeps w h s (op.Remove p) refl tt tt tt good l
deed-keeps w h s (call.Rename p q) good free l = let m = renamable s.table.rows s.table.snaps s.table.statuses p q free in logs-keeps w h s (op.Rename p q) refl (m.can, m.zone) tt tt good l
deed-keeps w h s (call.Info r) good free l = (l, l)
deed-keeps w h s (call.List r) good free l = (l, l)
deed-keeps w h s (call.Allow p) good free l = logs-keeps w h s (op.Allow p) refl tt tt tt good l
deed-keeps w h s (call.Disallow p) good free l = logs-keeps w h s (op.Disallow p) refl tt tt tt good l
deed-keeps w h s (call.Snap p name) good free l = logs-keeps w h s (op.Snap p name) refl tt tt tt good l
deed-keeps w h s (call.Unsnap p name) good free l = logs-keeps w h s (op.Unsnap p name) refl tt tt tt good l
deed-keeps w h s (call.Cancel p) good free l = logs-keeps w h s (op.Cancel (session_at s.table p)) refl tt tt tt good l
deed-keeps w h s (call.Status p) good free l = (l, l)
deed-keeps w h s call.Zones good free l = (l, l)

acts-keeps : (w : WorldState) (h : Hidden) (s : NameState) (c : NameCall) (outcome : NameReply) (changed : NameState) → InPlace s.table.rows → KeepsNames w h (record { names = s; pending = None })
    → NameActs s c outcome changed → KeepsNames w h (record { names = changed; pending = None })
acts-keeps w h s c outcome changed good l (NoRoom, may, is) = subst (λ (x : NameState). KeepsNames w h (record { names = x; pending = None })) (sym (ap (λ o. o.state) is)) l
acts-keeps w h s c outcome changed good l (Plain, may, is) =
    subst (λ (x : NameState). KeepsNames w h (record { names = x; pending = None })) (sym (ap (λ o. o.state) is)) (go (first_cause (causes s c)) refl)
  where
    go : (o : Option NameRefusal) → first_cause (causes s c) ≡ o → KeepsNames w h (record { names = (unless_refused o s (deed s c)).state; pending = None })
    go (Some why) refused = l
    go None free = (deed-keeps w h s c good free l).0

serves-keeps : (w : WorldState) (h : Hidden) (c : NameCall) (fault : Type 0) (outcome : NameReply) (ops : List EditOp) (names : NameService) (b : Bool) → IsNames w.names → LinkedDraws w h
    → ServesBy b w.names c fault outcome ops names → KeepsNames w h names
serves-keeps w h c fault outcome ops names false fit l r = subst (KeepsNames w h) (sym r.same) l
serves-keeps w h c fault outcome ops names true fit l (inl u) = subst (KeepsNames w h) (sym u.same) l
serves-keeps w h c fault outcome ops names true fit l (inr (k, inl d)) =
    subst (KeepsNames w h) (sym d.left) (acts-keeps w h (settled k w.names) c outcome d.changed (rows-settled k w.names fit) (settled-keeps w h k fit l) d.acts)
serves-keeps w h c fault outcome ops names true fit l (inr (k, inr u)) =
    subst (KeepsNames w h) (sym u.left) (deed-keeps w h (settled k w.names) c (rows-settled k w.names fit) u.free (settled-keeps w h k fit l)).1

pub call-keeps : (w : WorldState) (h : Hidden) (user : Text) (c : NameCall) (fault : Type 0) (outcome : NameReply) (ops : List EditOp) (names : NameService) → IsNames w.names → LinkedDraws w h
    → NameServes w.names user c fault outcome ops names → KeepsNames w h names
call-keeps w h user c fault outcome ops names fit l serves = go (first_cause (early_causes user c)) serves
  where
    go : (o : Option NameRefusal) → ServesUnless o w.names c fault outcome ops names → KeepsNames w h names
    go (Some why) r = subst (KeepsNames w h) (sym r.same) l
    go None s = serves-keeps w h c fault outcome ops names (is_change c) fit l s

pub path-keeps : {X : Type 0} (w : WorldState) (h : Hidden) (user : Text) (c : X → NameCall) (o : Option X) (fault : Type 0) (outcome : Line) (drawn : ℕ) (logged : Acknowledged) (w' : WorldState) → IsNames w.names → LinkedDraws w h
    → PathActs w user c o fault outcome drawn logged w' → StillLinked w h drawn w'
path-keeps w h user c None fault outcome drawn logged w' fit l u = subst (StillLinked w h drawn) (sym u.same) (linked-still w h drawn l)
path-keeps w h user c (Some read) fault outcome drawn logged w' fit l (inl a) =
    subst (StillLinked w h drawn) (sym a.left) (linked-still (record w { names = a.names }) h drawn (call-keeps w h user (c read) fault a.reply a.ops a.names fit l a.serves))
path-keeps w h user c (Some read) fault outcome drawn logged w' fit l (inr u) = subst (StillLinked w h drawn) (sym u.same) (linked-still w h drawn l)

-- asks

ask-keeps : (w : WorldState) (h : Hidden) (user : Text) (a : Ask) (result : Result AskNote NameRefusal) (names : NameState) → LinkedDraws w h → Asks w.names.names user a result names
    → LinkedDraws (after_ask result (with_names names w)) h
ask-keeps w h user a result names l (NoRoom, may, is) = subst (λ (o : AskOutcome). LinkedDraws (after_ask o.reply (with_names o.state w)) h) (sym is) l
ask-keeps w h user a result names l (Plain, may, is) = subst (λ (o : AskOutcome). LinkedDraws (after_ask o.reply (with_names o.state w)) h) (sym is) (go (first_cause (ask_causes w.names.names user a)))
  where
    go : (o : Option NameRefusal) → LinkedDraws (after_ask (unless_not_asked o w.names.names a).reply (with_names (unless_not_asked o w.names.names a).state w)) h
    go (Some why) = l
    go None = linked-ask w h (ask_opened w.names.names a) (asked w.names.names a) refl refl (omega arith) refl l

pub ask-at-keeps : (w : WorldState) (h : Hidden) (user : Text) (a : NPath → Ask) (o : Option NPath) (outcome : Line) (drawn : ℕ) (w' : WorldState) → LinkedDraws w h → AskAt w user a o outcome w' → StillLinked w h drawn w'
ask-at-keeps w h user a None outcome drawn w' l r = subst (StillLinked w h drawn) (sym r.same) (linked-still w h drawn l)
ask-at-keeps w h user a (Some p) outcome drawn w' l (inl acts) =
    subst (StillLinked w h drawn) (sym acts.left) (answered acts.result (ask-keeps w h user (a p) acts.result acts.names l acts.asks))
  where
    answered : (result : Result AskNote NameRefusal) → LinkedDraws (after_ask result (with_names acts.names w)) h → StillLinked w h drawn (after_ask result (with_names acts.names w))
    answered (Ok note) m = linked-still (after_ask (Ok note) (with_names acts.names w)) h drawn m
    answered (Err why) m = linked-still (after_ask (Err why) (with_names acts.names w)) h drawn m
ask-at-keeps w h user a (Some p) outcome drawn w' l (inr r) = subst (StillLinked w h drawn) (sym r.same) (linked-still w h drawn l)
