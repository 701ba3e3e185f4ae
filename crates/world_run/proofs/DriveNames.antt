-- A zone that is driven through its re-encryption, in the namesystem: what its walks take, and what the deliveries leave.
use Rattle.std.proofs.Common.{◌≡◌, ◌≢◌, ◌-◌, ◌<◌, ◌≤◌, ℕ, suc, Bool, true, false, cond, List, [], ◌∷◌, length, take, Option, Some, None, Ok, Err, refl, sym, ap, ◌∙◌, subst, arith}
use Rattle.std.specs.Prelude.{◌==◌}
use Rattle.std.specs.Option.{option_and_then, option_map_or}
use Rattle.std.proofs.lemmas.Bool.Decides.{nat_tests}
use Rattle.std.proofs.lemmas.List.{length-drop}
use Rattle.std.proofs.lemmas.Bool.{and_from}
use Rattle.hk_base.specs.Names.{Encrypted}
use Rattle.edit_ops.specs.declared.ops.EditOp.TheVariants as op
use Rattle.inode_tree.specs.Rows.{Entry, IsRows}
use Rattle.name_calls.specs.declared.calls.NameRefusal.TheVariants as refusal
use Rattle.name_calls.specs.declared.paths.NPath.{NPath}
use Rattle.name_calls.specs.declared.status.Delivered.{Delivered}
use Rattle.name_calls.specs.declared.status.Delivered.TheVariants.{Applied}
use Rattle.reenc_walk.specs.declared.batches.WalkedBatch.{WalkedBatch}
use Rattle.reenc_walk.specs.declared.sent.BatchNote.{BatchNote}
use Rattle.reenc_walk.specs.Files.{last_in, walk_list}
use Rattle.reenc_walk.specs.Walks.{WalkState, has_batch, note_of, outstanding, walked}
use Rattle.reenc_update.specs.declared.changes.Changes.{Changes}
use Rattle.reenc_update.specs.declared.reply.BatchResult.{BatchResult}
use Rattle.reenc_update.specs.declared.reply.BatchResult.TheVariants.{Ready}
use Rattle.reenc_update.specs.Changes.{changes_of}
use Rattle.reenc_update.specs.Replies.{ReplyState}
use Rattle.zone_table.specs.declared.statuses.StatusRow.{StatusRow}
use Rattle.zone_table.specs.Statuses.{goes_on}
use Rattle.name_store.specs.Causes.{first_cause, id_at}
use Rattle.name_core.specs.declared.walks.Walked.TheVariants as walk
use Rattle.name_core.specs.Calls.{NoRoom, Plain, done_with}
use Rattle.name_core.specs.State.{IsNames, NameState, walk_under, with_walk}
use Rattle.name_core.specs.Updates.{UpdateDeed, applied, deliver_deed, has_note, is_outstanding, update_op, walk_of_status}
use Rattle.name_core.specs.Updating.{NameUpdates}
use Rattle.name_core.specs.Walking.{NameWalks}
use Rattle.name_core.specs.Walks.{WalkDeed, deed_by_files, deed_by_status, going_on, or_new_walk, status_at, walk_causes, walk_of}
use Rattle.name_core.proofs.UpdateCalls.{deed-applied}
use Rattle.name_core.proofs.UpdateLemmas.{with_update}
use Rattle.name_core.proofs.WalkLaws.{WalkDid, completed_is_walked_through, walk-did}
use Rattle.name_core.proofs.WalkLemmas.{GoesOn, found-goes, of-session, zone-goes}
use Rattle.name_core.proofs.WalkOrder.{some-taken, under-going, under-with, walk-follows}
use Rattle.world_run.specs.Drives.{files_left, outstanding_in}
use Rattle.world_run.proofs.CoveredWalks.{itself}
use Rattle.world_run.proofs.DriveBatches.{has-last, outstanding-more}
use Rattle.world_run.proofs.DriveFiles.{changes-keyed, left-at, out-at, out-by, some-length}
use Rattle.world_run.proofs.DriveUpdates.{free-later, later, left-later, out-later}
use Rattle.world_run.proofs.RekeyedFiles.{AreKeyed}
use Rattle.world_run.proofs.RowLemmas.{in-place}

-- The zone is being re-encrypted, with this many files left and this many batches outstanding.
pub record Stage (s : NameState) (zone : NPath) (left out : ℕ) : Type 0 where
  pub free : first_cause (walk_causes s zone) ≡ None
  pub left_is : files_left s zone ≡ left
  pub out_is : outstanding_in s zone ≡ out

-- A walk of the zone has taken a batch that is outstanding, besides this many others.
pub record Taken (s : NameState) (zone : NPath) (note : BatchNote) (left out : ℕ) : Type 0 where
  pub rules : IsRows s.table.rows
  pub stage : Stage s zone left (suc out)
  pub of_zone : note.zone ≡ id_at s.table.rows zone
  pub has : is_outstanding s note ≡ true

-- A batch was taken, out of the files that were left.
pub record Takes (s : NameState) (zone : NPath) (note : BatchNote) (left out : ℕ) (s' : NameState) : Type 0 where
  pub some : 0 < left
  pub batch : s'.batch ≡ s.batch
  pub taken : Taken s' zone note (left - s.batch) out

-- The reply to the call for a batch was delivered. No file failed unless the call was refused.
pub record Moves (s : NameState) (zone : NPath) (left out : ℕ) (reply : ReplyState) (delivered : Delivered) (s' : NameState) : Type 0 where
  pub stage : Stage s' zone left out
  pub batch : s'.batch ≡ s.batch
  pub unfailed : (keys : List Encrypted) → reply.result ≡ Ready keys → (changed : ℕ) × (skipped : ℕ) × (delivered ≡ Applied changed skipped 0)

-- of any zone that is being re-encrypted
pub stage-of : (s : NameState) (zone : NPath) → first_cause (walk_causes s zone) ≡ None → Stage s zone (files_left s zone) (outstanding_in s zone)
stage-of s zone free = record { free = free; left_is = refl; out_is = refl }

-- A walk completes the re-encryption only if nothing is left to do.
pub walk-completes : (s : NameState) (zone : NPath) (left out : ℕ) (s' : NameState) → Stage s zone left out → NameWalks s zone (Ok walk.Completed) s' → (left ≡ 0) × (out ≡ 0)
walk-completes s zone left out s' stage walks =
    let through = (completed_is_walked_through s zone s' walks).0 in (
      sym stage.left_is ∙ left-at s zone through.status through.found ∙ ap length through.no_files,
      sym stage.out_is ∙ out-at s zone through.status through.found ∙ through.none_outstanding,
    )

-- A walk that finds no file left answers how many batches are outstanding.
pub walk-waits : (s : NameState) (zone : NPath) (left out count : ℕ) (s' : NameState) → Stage s zone left out → NameWalks s zone (Ok (walk.NoneLeft count)) s' → (left ≡ 0) × (count ≡ out) × (0 < count)
walk-waits s zone left out count s' stage walks =
    by-files (walk_list s.table.rows here (walk_of s.walks g.status).cursor) refl
    (did.answer ∙ ap (λ (o : Option StatusRow). (deed_by_status s here o).answer) g.found)
  where
    here : ℕ
    here = id_at s.table.rows zone

    did : WalkDid s zone (walk.NoneLeft count) s'
    did = walk-did s zone (walk.NoneLeft count) s' walks

    g : GoesOn s.table zone
    g = zone-goes s.table zone did.free

    waiting : ℕ
    waiting = out-by s g.status

    some : (n : ℕ) → (n == 0) ≡ false → 0 < n
    some n h = grind (arith, nat_tests, h)

    by-count : (b : Bool) → (waiting == 0) ≡ b
        → walk.NoneLeft count ≡ (cond {A = WalkDeed} b (record { answer = walk.Completed; logs = Some (op.Complete g.status.session); state = s }) (record { answer = walk.NoneLeft waiting; logs = None; state = s })).answer
        → (count ≡ waiting) × (0 < count)
    by-count true zero is = absurd cc
    by-count false more is = let same : count ≡ waiting = cc is in (same, subst (λ (n : ℕ). 0 < n) (sym same) (some waiting more))

    by-files : (files : List Entry) → walk_list s.table.rows here (walk_of s.walks g.status).cursor ≡ files → walk.NoneLeft count ≡ (deed_by_files s here g.status files).answer
        → (left ≡ 0) × (count ≡ out) × (0 < count)
    by-files [] none is =
        let c = by-count (waiting == 0) refl is in
        (sym stage.left_is ∙ left-at s zone g.status g.found ∙ ap length none, c.0 ∙ sym (out-at s zone g.status g.found) ∙ stage.out_is, c.1)
    by-files (e ∷ es) more is = absurd cc

-- a walk that takes a batch

abbrev after-batch : NameState → ℕ → StatusRow → NameState
after-batch s zone st = record s { walks = going_on s.table.statuses (with_walk (walked s.table.rows zone s.batch (walk_of s.walks st)) s.walks) }

-- what it takes, and what it leaves
record TookFiles (s : NameState) (zone : NPath) (st : StatusRow) (note : BatchNote) (s' : NameState) : Type 0 where
  some : walk_list s.table.rows (id_at s.table.rows zone) (walk_of s.walks st).cursor ≢ []
  note_is : note ≡ note_of s.table.rows (id_at s.table.rows zone) s.batch (walk_of s.walks st)
  left_is : s' ≡ after-batch s (id_at s.table.rows zone) st

took-files : (s : NameState) (zone : NPath) (note : BatchNote) (s' : NameState) (did : WalkDid s zone (walk.Batch note) s') (g : GoesOn s.table zone) → TookFiles s zone g.status note s'
took-files s zone note s' did g =
    by-files (walk_list s.table.rows here (walk_of s.walks g.status).cursor) refl
    (did.answer ∙ ap (λ (o : Option StatusRow). (deed_by_status s here o).answer) g.found)
    (did.left ∙ ap (λ (o : Option StatusRow). done_with (deed_by_status s here o).logs (deed_by_status s here o).state) g.found)
  where
    here : ℕ
    here = id_at s.table.rows zone

    never : (count : ℕ) (b : Bool)
        → walk.Batch note ≡ (cond {A = WalkDeed} b (record { answer = walk.Completed; logs = Some (op.Complete g.status.session); state = s }) (record { answer = walk.NoneLeft count; logs = None; state = s })).answer → ⊥
    never count true is = absurd cc
    never count false is = absurd cc

    by-files : (files : List Entry) → walk_list s.table.rows here (walk_of s.walks g.status).cursor ≡ files → walk.Batch note ≡ (deed_by_files s here g.status files).answer
        → s' ≡ done_with (deed_by_files s here g.status files).logs (deed_by_files s here g.status files).state → TookFiles s zone g.status note s'
    by-files [] none is left = absurd (never (out-by s g.status) (out-by s g.status == 0) is)
    by-files (e ∷ es) files is left = record {
      some = λ none. let f : [] ≡ e ∷ es = sym none ∙ files in absurd cc;
      note_is = cc is;
      left_is = left;
    }

module _ (s : NameState) (zone : NPath) (left out : ℕ) (stage : Stage s zone left out) (st : StatusRow) (found : status_at s.table zone ≡ Some st) (goes : goes_on st ≡ true)
    (rules : IsRows s.table.rows) (size : 1 ≤ s.batch) (some : walk_list s.table.rows (id_at s.table.rows zone) (walk_of s.walks st).cursor ≢ []) where
  abbrev here : ℕ
  here = id_at s.table.rows zone

  abbrev w : WalkState
  w = walk_of s.walks st

  abbrev list : List Entry
  list = walk_list s.table.rows here w.cursor

  abbrev grown : WalkState
  grown = walked s.table.rows here s.batch w

  abbrev next : NameState
  next = after-batch s here st

  abbrev note-taken : BatchNote
  note-taken = note_of s.table.rows here s.batch w

  abbrev batch-taken : WalkedBatch
  batch-taken = record { sent = note-taken.sent; last = last_in s.table.rows here (take s.batch list); outstanding = true }

  under-next : walk_under next.walks st.session ≡ Some grown
  under-next =
      under-going s.table.statuses st.session (with_walk grown s.walks) (found-goes s.table.statuses here st found goes)
      ∙ ap (walk_under (with_walk grown s.walks)) (sym (of-session s.walks st)) ∙ under-with grown s.walks

  walk-next : walk_of next.walks st ≡ grown
  walk-next = ap (λ (o : Option WalkState). or_new_walk o st) under-next

  stage-next : Stage next zone (left - s.batch) (suc out)
  stage-next = record {
    free = stage.free;
    left_is =
        left-at next zone st found ∙ ap (λ (v : WalkState). length (walk_list s.table.rows here v.cursor)) walk-next
        ∙ ap length (walk-follows s.table.rows here rules w.cursor s.batch (some-taken s.batch list size some))
        ∙ length-drop s.batch list ∙ ap (λ (n : ℕ). n - s.batch) (sym (left-at s zone st found) ∙ stage.left_is);
    out_is =
        out-at next zone st found ∙ ap (λ (v : WalkState). outstanding v.batches) walk-next
        ∙ outstanding-more w.batches batch-taken refl ∙ ap suc (sym (out-at s zone st found) ∙ stage.out_is);
  }

  has-taken : is_outstanding next note-taken ≡ true
  has-taken =
      ap (λ (o : Option StatusRow). option_map_or (has_note note-taken) (option_and_then (walk_of_status next.walks) o) false) found
      ∙ ap (λ (b : Bool). option_map_or (has_note note-taken) (cond b (walk_under next.walks st.session) None) false) goes
      ∙ ap (λ (o : Option WalkState). option_map_or (has_note note-taken) o false) under-next
      ∙ and_from (w.session == w.session) (has_batch grown.batches note-taken.sent) (itself w.session) (has-last w.batches batch-taken refl)

  takes : Takes s zone note-taken left out next
  takes = record {
    some = subst (λ (n : ℕ). 0 < n) (sym (left-at s zone st found) ∙ stage.left_is) (some-length list some);
    batch = refl;
    taken = record { rules = rules; stage = stage-next; of_zone = refl; has = has-taken };
  }

-- A walk that takes a batch leaves the files after it, and one more batch is outstanding.
pub walk-takes : (s : NameState) (zone : NPath) (left out : ℕ) (note : BatchNote) (s' : NameState) → Stage s zone left out → IsNames (record { names = s'; pending = None })
    → NameWalks s zone (Ok (walk.Batch note)) s' → Takes s zone note left out s'
walk-takes s zone left out note s' stage names walks =
    subst (λ (n : BatchNote). Takes s zone n left out s') (sym took.note_is)
    (subst (Takes s zone (note_of s.table.rows (id_at s.table.rows zone) s.batch (walk_of s.walks g.status)) left out) (sym took.left_is)
    (takes s zone left out stage g.status g.found g.goes (subst (λ (n : NameState). IsRows n.table.rows) took.left_is names.table.rules)
    (subst (λ (n : NameState). 1 ≤ n.batch) took.left_is names.size.0) took.some))
  where
    did : WalkDid s zone (walk.Batch note) s'
    did = walk-did s zone (walk.Batch note) s' walks

    g : GoesOn s.table zone
    g = zone-goes s.table zone did.free

    took : TookFiles s zone g.status note s'
    took = took-files s zone note s' did g

-- After the delivery the batch is no longer outstanding, and as many files are left.
pub deliver-moves : (s : NameState) (zone : NPath) (left out : ℕ) (note : BatchNote) (reply : ReplyState) (delivered : Delivered) (s' : NameState) → Taken s zone note left out → reply.note ≡ note
    → NameUpdates s (deliver_deed reply) (Ok delivered) s' → Moves s zone left out reply delivered s'
deliver-moves s zone left out note reply delivered s' taken same (NoRoom, may, is) = let f : Ok delivered ≡ Err refusal.NoMemory = ap (λ o. o.reply) is in absurd cc
deliver-moves s zone left out note reply delivered s' taken same (Plain, may, is) = record {
  stage = subst (λ (n : NameState). Stage n zone left out) (sym left-is) stage-later;
  batch = ap (λ (n : NameState). n.batch) left-is;
  unfailed = λ keys ready. (
    length changes.files,
    changes.skipped,
    answer-is ∙ ap (Applied (length changes.files) changes.skipped) (ap (λ (r : BatchResult). (changes_of s.table.rows reply.note.zone reply.note.sent r).failed) ready),
  );
}
  where
    changes : Changes
    changes = changes_of s.table.rows reply.note.zone reply.note.sent reply.result

    its : Taken s zone reply.note left out
    its = subst (λ (n : BatchNote). Taken s zone n left out) (sym same) taken

    deed : deliver_deed reply s ≡ applied s reply.note changes
    deed = deed-applied s reply.note changes its.has

    left-is : s' ≡ done_with (Some (update_op s reply.note changes)) (with_update s reply.note.sent)
    left-is = ap (λ o. o.state) is ∙ ap (λ (x : UpdateDeed). done_with x.logs x.state) deed

    keyed : AreKeyed s.table.rows changes.files
    keyed = changes-keyed s.table.rows reply.note.zone reply.note.sent reply.result (in-place s.table.rows taken.rules)

    one-less : (a b : ℕ) → suc a ≡ suc b → a ≡ b
    one-less a b h = omega (arith, h)

    stage-later : Stage (later s zone reply.note changes its.rules keyed its.stage.free its.of_zone its.has) zone left out
    stage-later = record {
      free = free-later s zone reply.note changes its.rules keyed its.stage.free its.of_zone its.has;
      left_is = left-later s zone reply.note changes its.rules keyed its.stage.free its.of_zone its.has ∙ its.stage.left_is;
      out_is = one-less _ out (sym (out-later s zone reply.note changes its.rules keyed its.stage.free its.of_zone its.has) ∙ its.stage.out_is);
    }

    answer-is : delivered ≡ Applied (length changes.files) changes.skipped changes.failed
    answer-is = let f : Ok delivered ≡ Ok (deliver_deed reply s).answer = ap (λ o. o.reply) is in cc f ∙ ap (λ (x : UpdateDeed). x.answer) deed
