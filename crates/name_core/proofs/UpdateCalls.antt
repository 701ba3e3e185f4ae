-- Deliveries, and batches given up, over a disk, from their steps.
use Rattle.std.proofs.Common.{◌≡◌, inl, inr, Bool, true, false, cond, List, [], ◌∷◌, ◌++◌, None, Some, is_some, refl, ap, sym, ◌∙◌, subst}
use Rattle.std.specs.Prelude.{Result, Ok, Err}
use Rattle.std.proofs.lemmas.List.{append-nil}
use Rattle.hk_base.specs.Disk.{DiskState}
use Rattle.hk_base.specs.Faults.{Rose}
use Rattle.frame_log.specs.declared.fault.StoreRefusal.{StoreRefusal}
use Rattle.frame_log.specs.declared.fault.StoreRefusal.TheVariants as store
use Rattle.edit_ops.specs.declared.ops.EditOp.{EditOp}
use Rattle.name_calls.specs.declared.calls.NameRefusal.{NameRefusal}
use Rattle.name_calls.specs.declared.calls.NameRefusal.TheVariants as refusal
use Rattle.name_calls.specs.declared.status.Delivered.{Delivered}
use Rattle.name_store.specs.Store.{NothingMore}
use Rattle.name_store.specs.Table.{settled_ops}
use Rattle.inode_tree.specs.Rows.{Entry}
use Rattle.reenc_update.specs.declared.changes.Changes.{Changes}
use Rattle.reenc_update.specs.Changes.{changes_of}
use Rattle.reenc_update.specs.Replies.{FitsSent, ReplyState}
use Rattle.reenc_walk.specs.declared.sent.BatchNote.{BatchNote}
use Rattle.name_core.specs.State.{NameService, NameState, RunningNames, WalksOnce, names_of, service_of, settled}
use Rattle.name_core.specs.Calls.{NoRoom, Plain, done_with}
use Rattle.name_core.specs.Steps.{Growing, IsUnsettled, MayUpdate, OwnUpdate, Settling, UpdatesSettled, Writes, delivered_answer}
use Rattle.name_core.specs.Updates.{UpdateDeed, applied, applied_answer, deliver_deed, ignored, is_outstanding, update_deed, update_op}
use Rattle.name_core.specs.Updating.{NameUpdates, OwnOfUpdate, UpdateActs, UpdateGoes, update_logs}
use Rattle.name_core.proofs.LoggingLemmas.{behind-settling, logging-growing, logging-leaving, rose_since, unchanged}
use Rattle.name_core.proofs.UpdateLemmas.{may-deliver, with_update}
use Rattle.name_core.proofs.WalkCalls.{logs-of}

-- one whose pending operation could not be settled
pub update-unsettled : (old new : DiskState) (r t : RunningNames) (d : NameState → UpdateDeed) → IsUnsettled old new r t → UpdateActs old new r d (Err refusal.StoreFault) t
update-unsettled old new r t d u = record {
  logged = [];
  serves = inl (record { waits = u.waits; failed = u.failed; ends = record { reply_is = refl; none_logged = refl; same = ap service_of u.same } });
  disk = logs-of old new r t (OwnOfUpdate (service_of r) d (Err refusal.StoreFault) (service_of t)) []
      (logging-leaving old new r t NothingMore (OwnOfUpdate (service_of r) d (Err refusal.StoreFault) (service_of t)) [] (λ kept o never. absurd never) u.disk);
}

-- one whose pending operation was settled first
pub update-behind : (old mid new : DiskState) (r s t : RunningNames) (d : NameState → UpdateDeed) (outcome : Result Delivered NameRefusal) → Settling old mid r s → UpdatesSettled mid new s d outcome t
    → UpdateActs old new r d outcome t
update-behind old mid new r s t d outcome a b = record {
  logged = before ++ b.logged;
  serves = inr (a.kept, behind b.goes);
  disk = logs-of old new r t (OwnOfUpdate (service_of r) d outcome (service_of t)) (before ++ b.logged)
      (behind-settling old mid new r s t a.kept (OwnOfUpdate (service_of r) d outcome (service_of t)) (OwnUpdate (names_of s) d outcome (service_of t)) b.logged own a.disk b.disk);
}
  where
    before : List EditOp
    before = settled_ops a.kept r.store.log.pending

    names_are : names_of s ≡ settled a.kept (service_of r)
    names_are = ap (λ (x : NameService). x.names) a.service

    own : (o : EditOp) → OwnUpdate (names_of s) d outcome (service_of t) o → OwnOfUpdate (service_of r) d outcome (service_of t) a.kept o
    own o h = record { is = ap (λ (n : NameState). (d n).logs) (sym names_are) ∙ h.0; was_written = h.1 }

    behind : UpdateGoes (names_of s) [] d (Rose mid.faults new.faults) outcome b.logged (service_of t)
        → UpdateGoes (settled a.kept (service_of r)) before d (Rose old.faults new.faults) outcome (before ++ b.logged) (service_of t)
    behind (inl w) = inl (record {
      changed = w.changed;
      updates = subst (λ (n : NameState). NameUpdates n d outcome w.changed) names_are w.updates;
      logged_is = ap (λ (l : List EditOp). before ++ l) (w.logged_is ∙ ap (λ (n : NameState). update_logs outcome (d n).logs) names_are);
      left = w.left;
    })
    behind (inr u) = inr (record {
      failed = rose_since old.faults mid.faults new.faults a.disk.run.faults u.failed;
      op = u.op;
      writes = ap (λ (n : NameState). (d n).logs) (sym names_are) ∙ u.writes;
      reply_is = u.reply_is;
      logged_is = ap (λ (l : List EditOp). before ++ l) u.logged_is ∙ append-nil before;
      left = u.left ∙ ap (λ (n : NameState). record { names = (d n).state; pending = Some u.op }) names_are;
    })

-- what an update does, by whether its batch is outstanding

pub deed-applied : (s : NameState) (note : BatchNote) (changes : Changes) → is_outstanding s note ≡ true → update_deed s note changes ≡ applied s note changes
deed-applied s note changes h = ap (λ (b : Bool). cond b (applied s note changes) (ignored s note)) h

pub deed-ignored : (s : NameState) (note : BatchNote) (changes : Changes) → is_outstanding s note ≡ false → update_deed s note changes ≡ ignored s note
deed-ignored s note changes h = ap (λ (b : Bool). cond b (applied s note changes) (ignored s note)) h

-- while nothing is pending

-- its batch is not outstanding
pub update-ignored : (disk : DiskState) (r : RunningNames) (d : NameState → UpdateDeed) (note : BatchNote) (answer : Delivered) → r.store.log.pending ≡ None → d (names_of r) ≡ ignored (names_of r) note
    → answer ≡ (ignored (names_of r) note).answer → UpdatesSettled disk disk r d (Ok answer) r
update-ignored disk r d note answer none is answer_is = record {
  logged = [];
  goes = inl (record {
    changed = names_of r;
    updates = (
      Plain,
      tt,
      (λ i. record { reply = Ok (answer_is i); state = names_of r }) ∙ ap (λ (x : UpdateDeed). record { reply = Ok x.answer; state = done_with x.logs x.state }) (sym is),
    );
    logged_is = ap (λ (x : UpdateDeed). update_logs (Ok answer) x.logs) (sym is);
    left = λ i. record { names = names_of r; pending = none i };
  });
  disk = unchanged disk r (Growing r (OwnUpdate (names_of r) d (Ok answer) (service_of r)));
}

-- memory ran out
pub update-wanting : (disk : DiskState) (r : RunningNames) (d : NameState → UpdateDeed) (note : BatchNote) (changes : Changes) → r.store.log.pending ≡ None → d (names_of r) ≡ applied (names_of r) note changes
    → UpdatesSettled disk disk r d (Err refusal.NoMemory) r
update-wanting disk r d note changes none is = record {
  logged = [];
  goes = inl (record {
    changed = names_of r;
    updates = (NoRoom, ap (λ (x : UpdateDeed). is_some x.logs) is, refl);
    logged_is = refl;
    left = λ i. record { names = names_of r; pending = none i };
  });
  disk = unchanged disk r (Growing r (OwnUpdate (names_of r) d (Err refusal.NoMemory) (service_of r)));
}

-- its operation was written, or could not be
pub update-written : (old new : DiskState) (r t : RunningNames) (d : NameState → UpdateDeed) (note : BatchNote) (changes : Changes) (written : Result (Unit {0}) StoreRefusal)
    → d (names_of r) ≡ applied (names_of r) note changes → Writes old new r (with_update (names_of r) note.sent) (update_op (names_of r) note changes) written t
    → UpdatesSettled old new r d (delivered_answer (applied_answer changes) written) t
update-written old new r t d note changes written is w = go written w
  where
    s : NameState
    s = names_of r

    o : EditOp
    o = update_op s note changes

    logs : (x : EditOp) → x ≡ o → (d s).logs ≡ Some x
    logs x same = ap (λ (y : UpdateDeed). y.logs) is ∙ ap Some (sym same)

    go : (written : Result (Unit {0}) StoreRefusal) → Writes old new r (with_update s note.sent) o written t → UpdatesSettled old new r d (delivered_answer (applied_answer changes) written) t
    go (Ok done) w = record {
      logged = o ∷ [];
      goes = inl (record {
        changed = done_with (Some o) (with_update s note.sent);
        updates = (Plain, tt, ap (λ (x : UpdateDeed). record { reply = Ok x.answer; state = done_with x.logs x.state }) (sym is));
        logged_is = ap (λ (x : UpdateDeed). update_logs (Ok (applied_answer changes)) x.logs) (sym is);
        left = w.service;
      });
      disk = logging-growing old new r t (λ x. x ≡ o) (OwnUpdate s d (Ok (applied_answer changes)) (service_of t)) (o ∷ []) (λ x same. (logs x same, inl (applied_answer changes, refl))) w.disk;
    }
    go (Err store.NoMemory) w = record {
      logged = [];
      goes = inl (record { changed = s; updates = (NoRoom, ap (λ (x : UpdateDeed). is_some x.logs) is, refl); logged_is = refl; left = w.service });
      disk = logging-growing old new r t (λ x. ⊥) (OwnUpdate s d (Err refusal.NoMemory) (service_of t)) [] (λ x never. absurd never) w.disk;
    }
    go (Err store.StoreFault) w = record {
      logged = [];
      goes = inr (record {
        failed = w.failed;
        op = o;
        writes = logs o refl;
        reply_is = refl;
        logged_is = refl;
        left = w.service ∙ ap (λ (x : UpdateDeed). record { names = x.state; pending = Some o }) (sym is);
      });
      disk = logging-growing old new r t (λ x. x ≡ o) (OwnUpdate s d (Err refusal.StoreFault) (service_of t)) []
          (λ x same. (logs x same, inr (ap (λ (y : NameService). y.pending) w.service ∙ ap Some (sym same)))) w.disk;
    }

-- a delivery, by the note and the tree that it reads

pub delivery-ignored : (disk : DiskState) (r : RunningNames) (reply : ReplyState) (note : BatchNote) (answer : Delivered) → r.store.log.pending ≡ None → note ≡ reply.note → is_outstanding (names_of r) note ≡ false
    → answer ≡ (ignored (names_of r) note).answer → UpdatesSettled disk disk r (deliver_deed reply) (Ok answer) r
delivery-ignored disk r reply note answer none same not_there answer_is =
    let s = names_of r in
    update-ignored disk r (deliver_deed reply) reply.note answer none
    (deed-ignored s reply.note (changes_of s.table.rows reply.note.zone reply.note.sent reply.result) (ap (is_outstanding s) (sym same) ∙ not_there)) (answer_is ∙ ap (λ (n : BatchNote). (ignored s n).answer) same)

pub delivery-deed : (s : NameState) (reply : ReplyState) (note : BatchNote) (rows : List Entry) (changes : Changes) → note ≡ reply.note → rows ≡ s.table.rows → is_outstanding s note ≡ true
    → changes ≡ changes_of rows reply.note.zone reply.note.sent reply.result → deliver_deed reply s ≡ applied s note changes
delivery-deed s reply note rows changes same rows_are there is =
    deed-applied s reply.note (changes_of s.table.rows reply.note.zone reply.note.sent reply.result) (ap (is_outstanding s) (sym same) ∙ there)
    ∙ (λ i. applied s (sym same i) (sym (is ∙ ap (λ (es : List Entry). changes_of es reply.note.zone reply.note.sent reply.result) rows_are) i))

pub delivery-wanting : (disk : DiskState) (r : RunningNames) (reply : ReplyState) (note : BatchNote) → r.store.log.pending ≡ None → note ≡ reply.note → is_outstanding (names_of r) note ≡ true
    → UpdatesSettled disk disk r (deliver_deed reply) (Err refusal.NoMemory) r
delivery-wanting disk r reply note none same there =
    let s = names_of r in
    let changes = changes_of s.table.rows reply.note.zone reply.note.sent reply.result in
    update-wanting disk r (deliver_deed reply) note changes none (delivery-deed s reply note s.table.rows changes same refl there refl)

pub delivery-may : (s : NameState) (reply : ReplyState) (note : BatchNote) (rows : List Entry) (changes : Changes) → note ≡ reply.note → rows ≡ s.table.rows → is_outstanding s note ≡ true
    → changes ≡ changes_of rows reply.note.zone reply.note.sent reply.result → WalksOnce s.walks → FitsSent reply.note.sent reply.result → MayUpdate s note changes
delivery-may s reply note rows changes same rows_are there is once fits =
    subst (λ (x : BatchNote × Changes). MayUpdate s x.0 x.1) (λ i. (sym same i, sym (is ∙ ap (λ (es : List Entry). changes_of es reply.note.zone reply.note.sent reply.result) rows_are) i))
    (may-deliver s reply.note reply.result once fits (ap (is_outstanding s) (sym same) ∙ there))
