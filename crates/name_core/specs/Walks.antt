-- Walks through the zones that are re-encrypted: why one is refused, the batch that it takes, and what is shown of a status.
use Rattle.std.specs.Prelude.{ℕ, ◌==◌, ◌&&◌, Bool, not, List, [], ◌∷◌, Option, Some, None, is_some, if◌then◌else◌}
use Rattle.std.specs.List.{filter}
use Rattle.std.specs.Option.{option_map, option_map_or}
use Rattle.edit_ops.specs.declared.ops.EditOp.{EditOp}
use Rattle.edit_ops.specs.declared.ops.EditOp.TheVariants as op
use Rattle.inode_tree.specs.Rows.{Entry}
use Rattle.name_calls.specs.declared.calls.NameRefusal.{NameRefusal}
use Rattle.name_calls.specs.declared.paths.NPath.{NPath}
use Rattle.name_calls.specs.declared.status.State.{State}
use Rattle.name_calls.specs.declared.status.State.TheVariants as state
use Rattle.name_calls.specs.declared.status.ZoneStatus.{ZoneStatus}
use Rattle.reenc_walk.specs.Files.{walk_list}
use Rattle.reenc_walk.specs.Walks.{WalkState, note_of, outstanding, walked}
use Rattle.zone_table.specs.declared.statuses.StatusRow.{StatusRow}
use Rattle.zone_table.specs.Statuses.{session_goes_on, status_of}
use Rattle.name_store.specs.Causes.{going_causes, id_at}
use Rattle.name_store.specs.Table.{NameTable}
use Rattle.name_core.specs.declared.walks.Walked.{Walked}
use Rattle.name_core.specs.declared.walks.Walked.TheVariants as result
pub use Rattle.name_core.specs.State.{is_walk_of, walk_under, with_walk}
use Rattle.name_core.specs.State.{NameState}

-- the status of the zone whose directory is at the path

abbrev pub status_at : NameTable → NPath → Option StatusRow
status_at t p = status_of t.statuses (id_at t.rows p)

-- the session of the last re-encryption of the zone, 0 if there was none
abbrev pub session_at : NameTable → NPath → ℕ
session_at t p = option_map_or (λ st. st.session) (status_at t p) 0

-- walks

-- the walk of the session of a status, before its first batch
abbrev pub new_walk : StatusRow → WalkState
new_walk st = record { session = st.session; cursor = st.mark; batches = [] }

abbrev pub or_new_walk : Option WalkState → StatusRow → WalkState
or_new_walk None st = new_walk st
or_new_walk (Some w) st = w

-- the walk of the session of a status
abbrev pub walk_of : List WalkState → StatusRow → WalkState
walk_of walks st = or_new_walk (walk_under walks st.session) st

-- the walks of the sessions that have not ended
abbrev pub going_on : List StatusRow → List WalkState → List WalkState
going_on statuses walks = filter (λ w. session_goes_on statuses w.session) walks

-- what a status shows

-- no batch was taken since the submission, and no file was done
abbrev pub is_untouched : WalkState → StatusRow → Bool
is_untouched w st = not (is_some w.cursor) && st.reencrypted == 0 && st.failed == 0

abbrev pub state_shown : WalkState → StatusRow → State
state_shown w st = if st.completed then state.Completed else if is_untouched w st then state.Submitted else state.Processing

abbrev pub status_shown : List WalkState → StatusRow → ZoneStatus
status_shown walks st = record {
  session = st.session;
  noted = st.noted;
  state = state_shown (walk_of walks st) st;
  cancelled = st.cancelled;
  reencrypted = st.reencrypted;
  failed = st.failed;
  mark = st.mark;
}

abbrev pub status_shown_at : NameTable → List WalkState → NPath → Option ZoneStatus
status_shown_at t walks p = option_map (status_shown walks) (status_at t p)

-- a walk of a zone

-- the zone must be one that is being re-encrypted
abbrev pub walk_causes : NameState → NPath → List (Bool × NameRefusal)
walk_causes s p = going_causes s.table.rows s.table.statuses p

-- what a walk that is not refused does: its answer, its change of the table, and the state in which the change takes effect
pub record WalkDeed : Type 0 where
  pub answer : Walked
  pub logs : Option EditOp
  pub state : NameState

-- The first files after the cursor are taken. The walks of sessions that have ended are forgotten.
abbrev pub taken : NameState → ℕ → WalkState → WalkDeed
taken s zone w = record {
  answer = result.Batch (note_of s.table.rows zone s.batch w);
  logs = None;
  state = record s { walks = going_on s.table.statuses (with_walk (walked s.table.rows zone s.batch w) s.walks) };
}

-- No file is left. The session has completed if no batch is outstanding.
abbrev pub none_left : NameState → ℕ → ℕ → WalkDeed
none_left s session count =
    if count == 0
    then record { answer = result.Completed; logs = Some (op.Complete session); state = s }
    else record { answer = result.NoneLeft count; logs = None; state = s }

abbrev pub deed_by_files : NameState → ℕ → StatusRow → List Entry → WalkDeed
deed_by_files s zone st [] = none_left s st.session (outstanding (walk_of s.walks st).batches)
deed_by_files s zone st (e ∷ es) = taken s zone (walk_of s.walks st)

-- the walk of a status of a zone
abbrev pub deed_by_walk : NameState → ℕ → StatusRow → WalkDeed
deed_by_walk s zone st = deed_by_files s zone st (walk_list s.table.rows zone (walk_of s.walks st).cursor)

-- the first is never used: a zone that was never submitted is not walked
abbrev pub deed_by_status : NameState → ℕ → Option StatusRow → WalkDeed
deed_by_status s zone None = record { answer = result.Completed; logs = None; state = s }
deed_by_status s zone (Some st) = deed_by_walk s zone st

abbrev pub walk_deed : NameState → NPath → WalkDeed
walk_deed s p = deed_by_status s (id_at s.table.rows p) (status_at s.table p)
