-- Deliveries of what came back for batches, and batches that are given up: what each of them does.
use Rattle.std.specs.Prelude.{ℕ, ◌==◌, ◌&&◌, Bool, false, length, List, Option, Some, None, if◌then◌else◌}
use Rattle.std.specs.Option.{option_and_then, option_map_or}
use Rattle.edit_ops.specs.declared.ops.EditOp.{EditOp}
use Rattle.edit_ops.specs.declared.ops.EditOp.TheVariants as op
use Rattle.name_calls.specs.declared.paths.NPath.{NPath}
use Rattle.name_calls.specs.declared.status.Delivered.{Delivered}
use Rattle.name_calls.specs.declared.status.Delivered.TheVariants.{Applied, Ignored}
use Rattle.reenc_walk.specs.declared.sent.BatchNote.{BatchNote}
use Rattle.reenc_walk.specs.Walks.{WalkState, has_batch, mark_after}
use Rattle.reenc_update.specs.declared.changes.Changes.{Changes}
use Rattle.reenc_update.specs.Changes.{all_failed, changes_of}
use Rattle.reenc_update.specs.Replies.{ReplyState}
use Rattle.zone_table.specs.declared.statuses.StatusRow.{StatusRow}
use Rattle.zone_table.specs.Statuses.{goes_on, status_of}
use Rattle.name_core.specs.State.{NameState, walk_under}

abbrev pub walk_of_status : List WalkState → StatusRow → Option WalkState
walk_of_status walks st = if goes_on st then walk_under walks st.session else None

-- the walk of the zone's present re-encryption, if it goes on and has taken a batch
abbrev pub going_walk : NameState → ℕ → Option WalkState
going_walk s zone = option_and_then (walk_of_status s.walks) (status_of s.table.statuses zone)

-- the walk has an outstanding batch with the session and the files of the note
abbrev pub has_note : BatchNote → WalkState → Bool
has_note note w = w.session == note.session && has_batch w.batches note.sent

-- a batch of the zone's present re-encryption with the same session and the same files is outstanding
abbrev pub is_outstanding : NameState → BatchNote → Bool
is_outstanding s note = option_map_or (has_note note) (going_walk s note.zone) false

-- the session of the last re-encryption of the zone, 0 if there was none
abbrev pub last_session : NameState → ℕ → ℕ
last_session s zone = option_map_or (λ st. st.session) (status_of s.table.statuses zone) 0

-- what an update does: its answer, its change of the table, and the state in which the change takes effect
pub record UpdateDeed : Type 0 where
  pub answer : Delivered
  pub logs : Option EditOp
  pub state : NameState

-- the mark of the zone after the batch is retired, if that moves it

abbrev pub mark_under : List WalkState → BatchNote → Option NPath
mark_under walks note = option_and_then (λ w. mark_after w.batches note.sent) (walk_under walks note.session)

abbrev pub mark_by : NameState → BatchNote → Option NPath
mark_by s note = mark_under s.walks note

abbrev pub update_op : NameState → BatchNote → Changes → EditOp
update_op s note changes = op.Update note.session changes.failed (mark_by s note) changes.files

abbrev pub applied_answer : Changes → Delivered
applied_answer changes = Applied (length changes.files) changes.skipped changes.failed

abbrev pub applied : NameState → BatchNote → Changes → UpdateDeed
applied s note changes = record {
  answer = applied_answer changes;
  logs = Some (update_op s note changes);
  state = record s { updating = Some note.sent };
}

abbrev pub ignored : NameState → BatchNote → UpdateDeed
ignored s note = record { answer = Ignored (last_session s note.zone); logs = None; state = s }

-- only a batch that is outstanding is updated
abbrev pub update_deed : NameState → BatchNote → Changes → UpdateDeed
update_deed s note changes = if is_outstanding s note then applied s note changes else ignored s note

abbrev pub deliver_deed : ReplyState → NameState → UpdateDeed
deliver_deed reply s = update_deed s reply.note (changes_of s.table.rows reply.note.zone reply.note.sent reply.result)

-- each file of a batch that is given up counts as failed
abbrev pub give_up_deed : BatchNote → NameState → UpdateDeed
give_up_deed note s = update_deed s note (all_failed note.sent)

-- a batch that is ignored stays as it is
abbrev pub ignore_deed : BatchNote → NameState → UpdateDeed
ignore_deed note s = ignored s note
