-- The calls of the namesystem: why each is refused, what it answers, and the state it leaves.
use Rattle.std.specs.Prelude.{◌≡◌, ℕ, ◌+◌, ◌&&◌, Bool, true, not, List, [], ◌∷◌, ◌++◌, Option, Some, None, is_some, bytes_eq, codes}
use Rattle.hk_base.specs.declared.texts.Text.{Text}
use Rattle.edit_ops.specs.declared.ops.EditOp.{EditOp}
use Rattle.edit_ops.specs.declared.ops.EditOp.TheVariants as op
use Rattle.name_calls.specs.declared.paths.NPath.{NPath}
use Rattle.name_calls.specs.declared.read_paths.ReadPath.{ReadPath}
use Rattle.name_calls.specs.declared.read_paths.SnapPart.{SnapPart}
use Rattle.name_calls.specs.Paths.{is_component, starts_reserved}
use Rattle.inode_tree.specs.Rows.{Entry, has_children}
use Rattle.snap_store.specs.Snapshots.{SnapTable}
use Rattle.zone_table.specs.Zones.{zone_paths}
pub use Rattle.name_store.specs.Causes.{first_cause, make_causes}
use Rattle.name_store.specs.Causes.{allow_causes, disallow_causes, going_causes, kept_causes, removal_causes, rename_causes, snap_causes, unsnap_causes, zone_root_causes}
use Rattle.name_calls.specs.declared.calls.NameCall.{NameCall}
use Rattle.name_calls.specs.declared.calls.NameCall.TheVariants as call
use Rattle.name_calls.specs.declared.calls.NameReply.{NameReply}
use Rattle.name_calls.specs.declared.calls.NameReply.TheVariants as reply
use Rattle.name_calls.specs.declared.calls.NameRefusal.{NameRefusal}
use Rattle.name_calls.specs.declared.calls.NameRefusal.TheVariants as refusal
use Rattle.name_core.specs.Reads.{info_causes, info_reply, list_causes, list_reply, zone_read}
use Rattle.name_core.specs.State.{NameState, next_id, is_full, took}
use Rattle.name_core.specs.Walks.{session_at, status_shown_at}

-- why a call is refused

abbrev pub mkdir_causes : NameState → NPath → List (Bool × NameRefusal)
mkdir_causes s p = make_causes s.table.rows p ++ (is_full s, refusal.TooManyInodes) ∷ []

-- A directory that is not empty is deleted only recursively. A directory is not deleted while there is a snapshot of it or of one below.
abbrev pub delete_causes : List Entry → SnapTable → NPath → Bool → List (Bool × NameRefusal)
delete_causes rows snaps p recursive = removal_causes rows p ++ (not recursive && has_children rows p, refusal.NotEmpty) ∷ kept_causes rows snaps p

abbrev pub causes : NameState → NameCall → List (Bool × NameRefusal)
causes s (call.Mkdir p) = mkdir_causes s p
causes s (call.Delete p recursive) = delete_causes s.table.rows s.table.snaps p recursive
causes s (call.Rename p q) = rename_causes s.table.rows s.table.snaps s.table.statuses p q
causes s (call.Info r) = info_causes s.table r
causes s (call.List r) = list_causes s.table r
causes s (call.Allow p) = allow_causes s.table.rows s.table.snaps p
causes s (call.Disallow p) = disallow_causes s.table.rows s.table.snaps p
causes s (call.Snap p name) = snap_causes s.table.rows s.table.snaps p name
causes s (call.Unsnap p name) = unsnap_causes s.table.rows s.table.snaps p name
causes s (call.Cancel p) = going_causes s.table.rows s.table.statuses p
causes s (call.Status p) = zone_root_causes s.table.rows p
causes s call.Zones = []

-- Why a call is refused before anything is settled: a path of it begins with `.reserved`, its name of a snapshot can't be a name, or only
-- the superuser may make the call.

abbrev pub superuser : List ℕ
superuser = codes "hdfs"

abbrev pub is_superuser : Text → Bool
is_superuser user = bytes_eq user superuser

abbrev pub superuser_causes : Text → List (Bool × NameRefusal)
superuser_causes user = (not (is_superuser user), refusal.NotSuperuser) ∷ []

abbrev pub path_causes : NPath → List (Bool × NameRefusal)
path_causes p = (starts_reserved p, refusal.BadPath) ∷ []

abbrev pub name_causes : List ℕ → List (Bool × NameRefusal)
name_causes name = (not (is_component name), refusal.BadPath) ∷ []

abbrev pub part_name_causes : Option SnapPart → List (Bool × NameRefusal)
part_name_causes None = []
part_name_causes (Some part) = name_causes part.name

abbrev pub read_path_causes : ReadPath → List (Bool × NameRefusal)
read_path_causes r = path_causes r.path ++ part_name_causes r.snapshot

abbrev pub early_causes : Text → NameCall → List (Bool × NameRefusal)
early_causes user (call.Mkdir p) = path_causes p
early_causes user (call.Delete p recursive) = path_causes p
early_causes user (call.Rename p q) = path_causes p ++ path_causes q
early_causes user (call.Info r) = read_path_causes r
early_causes user (call.List r) = read_path_causes r
early_causes user (call.Allow p) = path_causes p ++ superuser_causes user
early_causes user (call.Disallow p) = path_causes p ++ superuser_causes user
early_causes user (call.Snap p name) = path_causes p ++ name_causes name
early_causes user (call.Unsnap p name) = path_causes p ++ name_causes name
early_causes user (call.Cancel p) = path_causes p ++ superuser_causes user
early_causes user (call.Status p) = path_causes p ++ superuser_causes user
early_causes user call.Zones = superuser_causes user

-- What a call that is not refused does: its answer, its change of the table, and the state in which the change takes effect.
pub record Deed : Type 0 where
  pub answer : NameReply
  pub logs : Option EditOp
  pub state : NameState

-- the next id is used
abbrev pub numbered : NameState → NameState
numbered s = record s { next = s.next + 1 }

abbrev pub only_answer : NameState → NameReply → Deed
only_answer s answer = record { answer = answer; logs = None; state = s }

-- a change that uses no id
abbrev pub only_logs : NameState → EditOp → Deed
only_logs s op = record { answer = reply.Done; logs = Some op; state = s }

abbrev pub deed : NameState → NameCall → Deed
deed s (call.Mkdir p) = record { answer = reply.Done; logs = Some (op.Mkdir (next_id s) p); state = numbered s }
deed s (call.Delete p recursive) = only_logs s (op.Remove p)
deed s (call.Rename p q) = only_logs s (op.Rename p q)
deed s (call.Info r) = only_answer s (info_reply s.table r)
deed s (call.List r) = only_answer s (list_reply s.table r)
deed s (call.Allow p) = only_logs s (op.Allow p)
deed s (call.Disallow p) = only_logs s (op.Disallow p)
deed s (call.Snap p name) = only_logs s (op.Snap p name)
deed s (call.Unsnap p name) = only_logs s (op.Unsnap p name)
deed s (call.Cancel p) = only_logs s (op.Cancel (session_at s.table p))
deed s (call.Status p) = only_answer s (reply.Status (status_shown_at s.table s.walks p))
deed s call.Zones = only_answer s (reply.Zones (zone_paths s.table.rows))

-- how many ids a change uses
abbrev pub ids_used : NameCall → ℕ
ids_used (call.Mkdir p) = 1
ids_used _ = 0

abbrev pub done_with : Option EditOp → NameState → NameState
done_with None s = s
done_with (Some op) s = took s op

-- the result of a call: its reply, and the state after it
pub record Outcome : Type 0 where
  pub reply : NameReply
  pub state : NameState

-- a refusal leaves the state unchanged
abbrev pub refused : NameRefusal → NameState → Outcome
refused why s = record { reply = reply.Refused why; state = s }

abbrev pub unless_refused : Option NameRefusal → NameState → Deed → Outcome
unless_refused (Some why) s d = refused why s
unless_refused None s d = record { reply = d.answer; state = done_with d.logs d.state }

-- what is left open in a call: memory may run out
pub data Ending : Type 0 where
  Plain : Ending
  NoRoom : Ending

-- the calls that allocate: a change its record, each list itself, an info the path of a zone, and a status its mark
abbrev pub takes_memory : NameState → NameCall → Bool
takes_memory s (call.Info r) = is_some (zone_read s.table r)
takes_memory s _ = true

-- memory may run out only if the call allocates and no other refusal applies
abbrev pub MayEnd : NameState → NameCall → Ending → Type 0
MayEnd s c Plain = Unit {0}
MayEnd s c NoRoom = (takes_memory s c ≡ true) × (first_cause (causes s c) ≡ None)

abbrev pub outcome : NameState → NameCall → Ending → Outcome
outcome s c Plain = unless_refused (first_cause (causes s c)) s (deed s c)
outcome s c NoRoom = refused refusal.NoMemory s

-- From s, a call may get this reply and leave s'.
abbrev pub NameActs : NameState → NameCall → NameReply → NameState → Type 0
NameActs s c answered s' = (e : Ending) × MayEnd s c e × (record { reply = answered; state = s' } ≡ outcome s c e)
