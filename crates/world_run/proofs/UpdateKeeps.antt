-- Deliveries, and batches that are given up, keep the world linked.
use Rattle.std.proofs.Common.{◌≡◌, inl, inr, ℕ, suc, ◌==◌, Bool, true, false, cond, not, ◌&&◌, List, [], ◌∷◌, Option, Some, None, slice_get, refl, sym, ap, subst, ◌∙◌}
use Rattle.std.specs.Option.{option_map_or}
use Rattle.std.specs.Str.{bytes_eq}
use Rattle.std.specs.declared.result.Result.{Result}
use Rattle.std.proofs.lemmas.Slice.Eq.{bytes_eq-Decides}
use Rattle.std.proofs.lemmas.Bool.{and_parts}
use Rattle.hk_base.specs.declared.names.Edek.{Edek}
use Rattle.key_rows.specs.declared.rows.KeyRow.{KeyRow}
use Rattle.inode_tree.specs.declared.rows.Kind.{Kind}
use Rattle.inode_tree.specs.declared.rows.Kind.TheVariants.{Dir, File}
use Rattle.inode_tree.specs.Rows.{Entry, entry_of}
use Rattle.inode_tree.specs.ZoneFiles.{edek_of, is_file_of}
use Rattle.edit_ops.specs.declared.files.FileKey.{FileKey}
use Rattle.edit_ops.specs.declared.ops.EditOp.{EditOp}
use Rattle.name_calls.specs.declared.calls.NameRefusal.{NameRefusal}
use Rattle.name_calls.specs.declared.status.Delivered.{Delivered}
use Rattle.reenc_update.specs.declared.changes.Changes.{Changes}
use Rattle.reenc_update.specs.Changes.{all_failed, changed, changes_of, has_edek, is_changed}
use Rattle.reenc_update.specs.Replies.{ReplyState}
use Rattle.reenc_update.specs.declared.reply.BatchResult.{BatchResult}
use Rattle.reenc_update.specs.declared.reply.BatchResult.TheVariants as batch_result
use Rattle.reenc_walk.specs.declared.sent.BatchNote.{BatchNote}
use Rattle.reenc_walk.specs.declared.sent.Sent.{Sent}
use Rattle.reenc_walk.specs.Files.{same_edek}
use Rattle.name_store.specs.Table.{after_table}
use Rattle.name_core.specs.Calls.{NoRoom, Plain, done_with}
use Rattle.name_core.specs.State.{IsNames, NameService, NameState, settled, took}
use Rattle.name_core.specs.Updates.{UpdateDeed, applied, deliver_deed, give_up_deed, ignored, is_outstanding, update_deed, update_op}
use Rattle.name_core.specs.Updating.{NameUpdates, UpdateOutcome, UpdateServes}
use Rattle.hk_events.specs.declared.event.Line.{Line}
use Rattle.world_run.specs.declared.kept.KeptReply.{KeptReply}
use Rattle.world_run.specs.declared.kept.KeptReply.TheVariants.{ToAsk, ToBatch}
use Rattle.world_run.specs.Acknowledged.{Acknowledged}
use Rattle.world_run.specs.Ledger.{Hidden, Ledger}
use Rattle.world_run.specs.Linked.{FilesLinked, HasDraw, KeysCameBack, LinkedDraws}
use Rattle.world_run.specs.Promise.{In}
use Rattle.world_run.specs.Step.{DeliverReply, GiveUpBatch, Updates}
use Rattle.world_run.specs.World.{WorldState, numbered}
use Rattle.world_run.proofs.EdekRows.{AllReplace, Replaces}
use Rattle.world_run.proofs.Members.{numbered-in, some-is}
use Rattle.world_run.proofs.NameKeeps.{KeepsNames, logs-keeps, settled-keeps}
use Rattle.world_run.proofs.RowLemmas.{InPlace}
use Rattle.world_run.proofs.RowsAfter.{files-after}
use Rattle.world_run.proofs.WorldLemmas.{StillLinked, linked-still, rows-settled}

-- the files that change

-- a file at its place in the batch, whose key that came back replaces the one that was sent
pub record IsChangedTo (rows : List Entry) (zone : ℕ) (sent : List Sent) (edeks : List Edek) (f : FileKey) : Type 0 where
  pub place : ℕ
  pub file : Sent
  pub sent_at : slice_get sent place ≡ Some file
  pub came_at : slice_get edeks place ≡ Some f.edek
  pub id_is : file.id ≡ f.id
  pub tested : is_changed rows zone file f.edek ≡ true

later-in : (rows : List Entry) (zone : ℕ) (x : Sent) (e : Edek) (sent : List Sent) (edeks : List Edek) (f : FileKey) → IsChangedTo rows zone sent edeks f → IsChangedTo rows zone (x ∷ sent) (e ∷ edeks) f
later-in rows zone x e sent edeks f c = record { place = suc c.place; file = c.file; sent_at = c.sent_at; came_at = c.came_at; id_is = c.id_is; tested = c.tested }

pub changed-to : (rows : List Entry) (zone : ℕ) (sent : List Sent) (edeks : List Edek) (f : FileKey) → In f (changed rows zone sent edeks) → IsChangedTo rows zone sent edeks f
changed-to rows zone [] edeks f i = absurd i
changed-to rows zone (x ∷ xs) [] f i = absurd i
changed-to rows zone (x ∷ xs) (e ∷ es) f i = go (is_changed rows zone x e) refl i (changed-to rows zone xs es f)
  where
    go : (b : Bool) → is_changed rows zone x e ≡ b → In f (cond b (record { id = x.id; edek = e } ∷ changed rows zone xs es) (changed rows zone xs es))
        → (In f (changed rows zone xs es) → IsChangedTo rows zone xs es f) → IsChangedTo rows zone (x ∷ xs) (e ∷ es) f
    go true tested (inl is) ih = record {
      place = 0;
      file = x;
      sent_at = refl;
      came_at = ap (λ (g : FileKey). Some g.edek) (sym is);
      id_is = ap (λ (g : FileKey). g.id) (sym is);
      tested = ap (λ (g : FileKey). is_changed rows zone x g.edek) is ∙ tested;
    }
    go true tested (inr j) ih = later-in rows zone x e xs es f (ih j)
    go false tested j ih = later-in rows zone x e xs es f (ih j)

-- encrypted keys that are the same are of the same key
same-key : (a b : Edek) → same_edek a b ≡ true → a.version.key ≡ b.version.key
same-key a b h =
    let c = and_parts (bytes_eq a.version.key b.version.key && a.version.number == b.version.number && bytes_eq a.iv b.iv) (bytes_eq a.sealed b.sealed) h in
    let d = and_parts (bytes_eq a.version.key b.version.key && a.version.number == b.version.number) (bytes_eq a.iv b.iv) c.0 in
    (bytes_eq-Decides a.version.key b.version.key).0 (and_parts (bytes_eq a.version.key b.version.key) (a.version.number == b.version.number) d.0).0

-- a file with the key that was sent gets one of the same key
replaces-by : (rows : List Entry) (zone : ℕ) (x : Sent) (f : FileKey) → x.id ≡ f.id → is_changed rows zone x f.edek ≡ true → f.edek.version.key ≡ x.edek.version.key → Replaces rows f
replaces-by rows zone x f id_is tested of_key =
    of-entry (entry_of rows x.id) refl (and_parts (option_map_or (has_edek rows zone x.edek) (entry_of rows x.id) false) (not (same_edek x.edek f.edek)) tested).0
  where
    of-kind : (y : Entry) (k : Kind) → entry_of rows x.id ≡ Some y → y.row.kind ≡ k → option_map_or (same_edek x.edek) (edek_of k) false ≡ true → Replaces rows f
    of-kind y (Dir key) at is same = absurd cc
    of-kind y (File None) at is same = absurd cc
    of-kind y (File (Some old)) at is same = record { file = y; edek = old; stands = ap (entry_of rows) (sym id_is) ∙ at; has = is; of_key = of_key ∙ same-key x.edek old same }

    of-entry : (o : Option Entry) → entry_of rows x.id ≡ o → option_map_or (has_edek rows zone x.edek) o false ≡ true → Replaces rows f
    of-entry None at has = absurd cc
    of-entry (Some y) at has = of-kind y y.row.kind at refl (and_parts (is_file_of rows zone y) (option_map_or (same_edek x.edek) (edek_of y.row.kind) false) has).1

-- what came back for a batch replaces keys, and each has a draw
pub record ChangesFit (ledger : Ledger) (keys : List KeyRow) (rows : List Entry) (files : List FileKey) : Type 0 where
  pub replace : AllReplace rows files
  pub drawn : (f : FileKey) → In f files → HasDraw ledger keys f.id f.edek

none-fit : (ledger : Ledger) (keys : List KeyRow) (rows : List Entry) → ChangesFit ledger keys rows []
none-fit ledger keys rows = record { replace = λ f i. absurd i; drawn = λ f i. absurd i }

changes-fit : (ledger : Ledger) (keys : List KeyRow) (rows : List Entry) (note : BatchNote) (result : BatchResult) → KeysCameBack ledger keys note result → ChangesFit ledger keys rows (changes_of rows note.zone note.sent result).files
changes-fit ledger keys rows note batch_result.Refused back = none-fit ledger keys rows
changes-fit ledger keys rows note (batch_result.Ready edeks) back = record {
  replace = λ f i. let c = changed-to rows note.zone note.sent edeks f i in replaces-by rows note.zone c.file f c.id_is c.tested (back c.place c.file f.edek c.sent_at c.came_at).came.of_key;
  drawn = λ f i. let c = changed-to rows note.zone note.sent edeks f i in subst (λ (id : ℕ). HasDraw ledger keys id f.edek) c.id_is (back c.place c.file f.edek c.sent_at c.came_at).came.has;
}

-- what an update does while nothing is pending

-- its operation, written or pending, keeps the world linked, and the files alone
pub record DeedKeeps (w : WorldState) (h : Hidden) (s : NameState) (d : UpdateDeed) : Type 0 where
  pub done : KeepsNames w h (record { names = done_with d.logs d.state; pending = None })
  pub pending : (op : EditOp) → d.logs ≡ Some op → KeepsNames w h (record { names = d.state; pending = Some op })
  pub files : (op : EditOp) → d.logs ≡ Some op → FilesLinked h.ledger w.keys.keys.table.rows (after_table s.table op)

module _ (w : WorldState) (h : Hidden) (s : NameState) (note : BatchNote) (changes : Changes) (fits : ChangesFit h.ledger w.keys.keys.table.rows s.table.rows changes.files) (good : InPlace s.table.rows)
    (l : KeepsNames w h (record { names = s; pending = None })) where
  -- the batch that is updated is noted
  noted : KeepsNames w h (record { names = record s { updating = Some note.sent }; pending = None })
  noted = record { files = l.files; replies = l.replies; draws = l.draws; ledger = l.ledger; queues = l.queues; tickets = l.tickets; batches = l.batches; versions = l.versions }

  applied-keeps : KeepsNames w h (record { names = took (record s { updating = Some note.sent }) (update_op s note changes); pending = None })
      × KeepsNames w h (record { names = record s { updating = Some note.sent }; pending = Some (update_op s note changes) })
  applied-keeps = logs-keeps w h (record s { updating = Some note.sent }) (update_op s note changes) refl fits.replace fits.drawn tt good noted

  pub update-keeps : DeedKeeps w h s (update_deed s note changes)
  update-keeps = go (is_outstanding s note)
    where
      go : (b : Bool) → DeedKeeps w h s (cond b (applied s note changes) (ignored s note))
      go true = record {
        done = applied-keeps.0;
        pending = λ op is. subst (λ (o : EditOp). KeepsNames w h (record { names = record s { updating = Some note.sent }; pending = Some o })) (some-is (update_op s note changes) op is) applied-keeps.1;
        files = λ op is. subst (λ (o : EditOp). FilesLinked h.ledger w.keys.keys.table.rows (after_table s.table o)) (some-is (update_op s note changes) op is)
            (files-after h.ledger w.keys.keys.table.rows s.table (update_op s note changes) good fits.replace fits.drawn tt (l.files true));
      }
      go false = record { done = l; pending = λ op is. absurd cc; files = λ op is. absurd cc }

-- after the pending operation was settled

pub deliver-settled : (w : WorldState) (h : Hidden) (reply : ReplyState) (k : Bool) → IsNames w.names → LinkedDraws w h → In (ToBatch reply) w.kept.replies → DeedKeeps w h (settled k w.names) (deliver_deed reply (settled k w.names))
deliver-settled w h reply k fit l member =
    update-keeps w h (settled k w.names) reply.note (changes_of (settled k w.names).table.rows reply.note.zone reply.note.sent reply.result)
    (changes-fit h.ledger w.keys.keys.table.rows (settled k w.names).table.rows reply.note reply.result (l.batches.back (ToBatch reply) member).1) (rows-settled k w.names fit) (settled-keeps w h k fit l)

pub give-up-settled : (w : WorldState) (h : Hidden) (batch : BatchNote) (k : Bool) → IsNames w.names → LinkedDraws w h → DeedKeeps w h (settled k w.names) (give_up_deed batch (settled k w.names))
give-up-settled w h batch k fit l =
    update-keeps w h (settled k w.names) batch (all_failed batch.sent) (none-fit h.ledger w.keys.keys.table.rows (settled k w.names).table.rows) (rows-settled k w.names fit) (settled-keeps w h k fit l)

-- an update

updates-keeps : (w : WorldState) (h : Hidden) (s : NameState) (d : NameState → UpdateDeed) (result : Result Delivered NameRefusal) (changed : NameState) → KeepsNames w h (record { names = s; pending = None }) → DeedKeeps w h s (d s)
    → NameUpdates s d result changed → KeepsNames w h (record { names = changed; pending = None })
updates-keeps w h s d result changed l keeps (NoRoom, may, is) = subst (λ (x : NameState). KeepsNames w h (record { names = x; pending = None })) (sym (ap (λ (o : UpdateOutcome). o.state) is)) l
updates-keeps w h s d result changed l keeps (Plain, may, is) = subst (λ (x : NameState). KeepsNames w h (record { names = x; pending = None })) (sym (ap (λ (o : UpdateOutcome). o.state) is)) keeps.done

update-serves-keeps : (w : WorldState) (h : Hidden) (d : NameState → UpdateDeed) (fault : Type 0) (result : Result Delivered NameRefusal) (ops : List EditOp) (names : NameService) → IsNames w.names → LinkedDraws w h
    → ((k : Bool) → DeedKeeps w h (settled k w.names) (d (settled k w.names))) → UpdateServes w.names d fault result ops names → KeepsNames w h names
update-serves-keeps w h d fault result ops names fit l keeps (inl u) = subst (KeepsNames w h) (sym u.ends.same) l
update-serves-keeps w h d fault result ops names fit l keeps (inr (k, inl g)) =
    subst (KeepsNames w h) (sym g.left) (updates-keeps w h (settled k w.names) d result g.changed (settled-keeps w h k fit l) (keeps k) g.updates)
update-serves-keeps w h d fault result ops names fit l keeps (inr (k, inr u)) = subst (KeepsNames w h) (sym u.left) ((keeps k).pending u.op u.writes)

update-at-keeps : (w : WorldState) (h : Hidden) (d : NameState → UpdateDeed) (fault : Type 0) (outcome : Line) (drawn : ℕ) (logged : Acknowledged) (w' : WorldState) → IsNames w.names → LinkedDraws w h
    → ((k : Bool) → DeedKeeps w h (settled k w.names) (d (settled k w.names))) → Updates w d fault outcome drawn logged w' → StillLinked w h drawn w'
update-at-keeps w h d fault outcome drawn logged w' fit l keeps u =
    subst (StillLinked w h drawn) (sym u.left) (linked-still (record w { names = u.names }) h drawn (update-serves-keeps w h d fault u.result u.ops u.names fit l keeps u.serves))

pub deliver-keeps : (w : WorldState) (h : Hidden) (number : ℕ) (o : Option KeptReply) (fault : Type 0) (outcome : Line) (drawn : ℕ) (logged : Acknowledged) (w' : WorldState) → IsNames w.names → LinkedDraws w h
    → numbered w.kept.replies number ≡ o → DeliverReply w o fault outcome drawn logged w' → StillLinked w h drawn w'
deliver-keeps w h number None fault outcome drawn logged w' fit l at u = subst (StillLinked w h drawn) (sym u.same) (linked-still w h drawn l)
deliver-keeps w h number (Some (ToAsk id answer)) fault outcome drawn logged w' fit l at u = subst (StillLinked w h drawn) (sym u.same) (linked-still w h drawn l)
deliver-keeps w h number (Some (ToBatch reply)) fault outcome drawn logged w' fit l at u =
    update-at-keeps w h (deliver_deed reply) fault outcome drawn logged w' fit l (λ k. deliver-settled w h reply k fit l (numbered-in w.kept.replies number (ToBatch reply) at)) u

pub give-up-keeps : (w : WorldState) (h : Hidden) (o : Option BatchNote) (fault : Type 0) (outcome : Line) (drawn : ℕ) (logged : Acknowledged) (w' : WorldState) → IsNames w.names → LinkedDraws w h
    → GiveUpBatch w o fault outcome drawn logged w' → StillLinked w h drawn w'
give-up-keeps w h None fault outcome drawn logged w' fit l u = subst (StillLinked w h drawn) (sym u.same) (linked-still w h drawn l)
give-up-keeps w h (Some batch) fault outcome drawn logged w' fit l u =
    update-at-keeps w h (give_up_deed batch) fault outcome drawn logged w' fit l (λ k. give-up-settled w h batch k fit l) u
