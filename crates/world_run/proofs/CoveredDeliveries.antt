-- Deliveries, and batches that are given up, keep re-encryptions covered.
use Rattle.std.proofs.Common.{◌≡◌, inl, inr, Bool, true, false, cond, List, [], Some, None, refl, sym, ap, subst}
use Rattle.std.specs.declared.result.Result.{Result}
use Rattle.key_rows.specs.declared.rows.KeyRow.{KeyRow}
use Rattle.edit_ops.specs.declared.ops.EditOp.{EditOp}
use Rattle.name_calls.specs.declared.calls.NameRefusal.{NameRefusal}
use Rattle.name_calls.specs.declared.status.Delivered.{Delivered}
use Rattle.reenc_update.specs.Changes.{all_failed, changes_of}
use Rattle.reenc_update.specs.Replies.{ReplyState}
use Rattle.reenc_update.specs.declared.changes.Changes.{Changes}
use Rattle.reenc_walk.specs.declared.sent.BatchNote.{BatchNote}
use Rattle.name_store.specs.Table.{after_table}
use Rattle.name_core.specs.Calls.{NoRoom, Plain, done_with}
use Rattle.name_core.specs.State.{IsNames, NameService, NameState, settled, walks_after}
use Rattle.name_core.specs.Updates.{UpdateDeed, applied, deliver_deed, give_up_deed, ignored, is_outstanding, update_deed, update_op}
use Rattle.name_core.specs.Updating.{NameUpdates, UpdateOutcome, UpdateServes}
use Rattle.world_run.specs.declared.kept.KeptReply.TheVariants.{ToBatch}
use Rattle.world_run.specs.Covered.{CoveredBy}
use Rattle.world_run.specs.Ledger.{Hidden, Past, past_of}
use Rattle.world_run.specs.Linked.{LinkedWorld, ReplyCameBack}
use Rattle.world_run.specs.Promise.{In}
use Rattle.world_run.specs.World.{WorldState}
use Rattle.world_run.proofs.CoveredCalls.{CoversNames, op-covers}
use Rattle.world_run.proofs.CoveredEnds.{covered-forget}
use Rattle.world_run.proofs.CoveredUpdates.{covered-delivered, covered-given-up}
use Rattle.world_run.proofs.Members.{some-is}
use Rattle.world_run.proofs.SettledLemmas.{IsSettled, is-settled}

-- what an update does while nothing is pending, written or pending, and its operation in a log
pub record DeedCovers (past : Past) (keys : List KeyRow) (s : NameState) (d : UpdateDeed) : Type 0 where
  pub done : CoversNames past keys (record { names = done_with d.logs d.state; pending = None })
  pub pending : (o : EditOp) → d.logs ≡ Some o → CoversNames past keys (record { names = d.state; pending = Some o })
  pub written : (o : EditOp) → d.logs ≡ Some o → CoveredBy past keys (after_table s.table o) []

module _ (past : Past) (keys : List KeyRow) (s : NameState) (is : IsSettled past keys s) where
  deed-covers : (note : BatchNote) (changes : Changes)
      → (is_outstanding s note ≡ true → CoveredBy past keys (after_table s.table (update_op s note changes)) (walks_after (Some note.sent) (update_op s note changes) s.walks)) → DeedCovers past keys s (update_deed s note changes)
  deed-covers note changes covers = go (is_outstanding s note) refl
    where
      o : EditOp
      o = update_op s note changes

      go : (b : Bool) → is_outstanding s note ≡ b → DeedCovers past keys s (cond b (applied s note changes) (ignored s note))
      go true out =
          let both = op-covers past keys (record s { updating = Some note.sent }) o is.covered (covers out) in
          record {
            done = both.0;
            pending = λ x logs. subst (λ (y : EditOp). CoversNames past keys (record { names = record s { updating = Some note.sent }; pending = Some y })) (some-is o x logs) both.1;
            written = λ x logs. subst (λ (y : EditOp). CoveredBy past keys (after_table s.table y) []) (some-is o x logs)
                (covered-forget past keys (after_table s.table o) (walks_after (Some note.sent) o s.walks) (covers out));
          }
      go false out = record { done = λ kept. is.covered; pending = λ x logs. absurd cc; written = λ x logs. absurd cc }

  pub delivery-covers : (reply : ReplyState) → ReplyCameBack past.ledger keys (ToBatch reply) → DeedCovers past keys s (deliver_deed reply s)
  delivery-covers reply back =
      deed-covers reply.note (changes_of s.table.rows reply.note.zone reply.note.sent reply.result) (λ out. covered-delivered past keys s reply is.rows is.one_draw is.files out back.0 back.1 is.covered)

  pub giving-up-covers : (batch : BatchNote) → DeedCovers past keys s (give_up_deed batch s)
  giving-up-covers batch = deed-covers batch (all_failed batch.sent) (λ out. covered-given-up past keys s batch is.files.distinct out is.covered)

  updates-cover : (d : NameState → UpdateDeed) (result : Result Delivered NameRefusal) (changed : NameState) → DeedCovers past keys s (d s) → NameUpdates s d result changed → CoversNames past keys (record { names = changed; pending = None })
  updates-cover d result changed covers (NoRoom, may, same) = subst (λ (x : NameState). CoversNames past keys (record { names = x; pending = None })) (sym (ap (λ (o : UpdateOutcome). o.state) same)) (λ kept. is.covered)
  updates-cover d result changed covers (Plain, may, same) = subst (λ (x : NameState). CoversNames past keys (record { names = x; pending = None })) (sym (ap (λ (o : UpdateOutcome). o.state) same)) covers.done

-- an update, whatever it does after the pending operation was settled
pub update-serves-covers : (w : WorldState) (h : Hidden) (d : NameState → UpdateDeed) (fault : Type 0) (result : Result Delivered NameRefusal) (ops : List EditOp) (names : NameService) → IsNames w.names → LinkedWorld w h
    → ((k : Bool) → DeedCovers (past_of h) w.keys.keys.table.rows (settled k w.names) (d (settled k w.names))) → UpdateServes w.names d fault result ops names → CoversNames (past_of h) w.keys.keys.table.rows names
update-serves-covers w h d fault result ops names fit l covers (inl u) = subst (CoversNames (past_of h) w.keys.keys.table.rows) (sym u.ends.same) l.covered
update-serves-covers w h d fault result ops names fit l covers (inr (k, inl g)) =
    subst (CoversNames (past_of h) w.keys.keys.table.rows) (sym g.left) (updates-cover (past_of h) w.keys.keys.table.rows (settled k w.names) (is-settled w h k fit l) d result g.changed (covers k) g.updates)
update-serves-covers w h d fault result ops names fit l covers (inr (k, inr u)) = subst (CoversNames (past_of h) w.keys.keys.table.rows) (sym u.left) ((covers k).pending u.op u.writes)

pub delivered-covers : (w : WorldState) (h : Hidden) (reply : ReplyState) (k : Bool) → IsNames w.names → LinkedWorld w h → In (ToBatch reply) w.kept.replies
    → DeedCovers (past_of h) w.keys.keys.table.rows (settled k w.names) (deliver_deed reply (settled k w.names))
delivered-covers w h reply k fit l member =
    delivery-covers (past_of h) w.keys.keys.table.rows (settled k w.names) (is-settled w h k fit l) reply (l.draws.batches.back (ToBatch reply) member)

pub given-up-covers : (w : WorldState) (h : Hidden) (batch : BatchNote) (k : Bool) → IsNames w.names → LinkedWorld w h → DeedCovers (past_of h) w.keys.keys.table.rows (settled k w.names) (give_up_deed batch (settled k w.names))
given-up-covers w h batch k fit l = giving-up-covers (past_of h) w.keys.keys.table.rows (settled k w.names) (is-settled w h k fit l) batch
