-- Properties of what was made, deleted or renamed, of ids, of asks that were finished, and of re-encryptions.
use Rattle.std.specs.Prelude.{◌≡◌, ℕ, ◌<◌, ◌≤◌, suc, length, take, drop, ◌⊎◌, ◌&&◌, ◌==◌, Bool, true, false, List, [], ◌∷◌, ◌++◌, Option, None, Some, IfSome, Result, Ok, Err, bytes_eq, is_some, if◌then◌else◌}
use Rattle.std.specs.List.{filter, list_any}
use Rattle.std.specs.Option.{option_map, option_map_or}
use Rattle.hk_base.specs.declared.names.Edek.{Edek}
use Rattle.hk_base.specs.declared.names.KeyName.{KeyName}
use Rattle.hk_base.specs.declared.texts.Text.{Text}
use Rattle.name_calls.specs.declared.listing.Child.{Child}
use Rattle.name_calls.specs.declared.paths.NPath.{NPath}
use Rattle.name_calls.specs.Paths.{is_prefix, parent}
use Rattle.name_calls.specs.ReadPaths.{as_it_is, as_it_was}
use Rattle.name_calls.specs.declared.read_paths.ReadPath.{ReadPath}
use Rattle.inode_tree.specs.MoveLaws.{row_after}
use Rattle.inode_tree.specs.Moves.{moved}
use Rattle.inode_tree.specs.Rows.{Entry, IsRows, entry_of, row_at, zone_id}
use Rattle.name_calls.specs.declared.status.Delivered.{Delivered}
use Rattle.name_calls.specs.declared.status.Delivered.TheVariants.{Applied, Ignored}
use Rattle.name_calls.specs.declared.status.State.TheVariants as state
use Rattle.name_calls.specs.declared.status.ZoneStatus.{ZoneStatus}
use Rattle.reenc_walk.specs.declared.sent.BatchNote.{BatchNote}
use Rattle.reenc_walk.specs.Files.{sent_list, walk_list}
use Rattle.reenc_walk.specs.Walks.{WalkState, is_of, outstanding}
use Rattle.reenc_update.specs.Replies.{ReplyState}
use Rattle.snap_store.specs.Snapshots.{Snapshot, snapshot_named}
use Rattle.zone_table.specs.declared.statuses.StatusRow.{StatusRow}
use Rattle.zone_table.specs.Statuses.{status_of, zone_goes_on}
use Rattle.edit_ops.specs.declared.ops.EditOp.{EditOp}
use Rattle.edit_ops.specs.declared.ops.EditOp.TheVariants as op
use Rattle.name_store.specs.Causes.{first_cause, id_at, unsnap_causes}
use Rattle.name_store.specs.Table.{IsNameTable, NameTable, after_table, allows}
use Rattle.name_calls.specs.declared.calls.Ask.{Ask}
use Rattle.name_calls.specs.declared.calls.Ask.TheVariants as ask
use Rattle.name_calls.specs.declared.calls.AskNote.{AskNote}
use Rattle.name_calls.specs.declared.calls.KeyAnswer.{KeyAnswer}
use Rattle.name_calls.specs.declared.calls.NameCall.{NameCall}
use Rattle.name_calls.specs.declared.calls.NameCall.TheVariants as call
use Rattle.name_calls.specs.declared.calls.NameReply.{NameReply}
use Rattle.name_calls.specs.declared.calls.NameReply.TheVariants as reply
use Rattle.name_calls.specs.declared.calls.NameRefusal.{NameRefusal}
use Rattle.name_calls.specs.declared.calls.NameRefusal.TheVariants as refusal
use Rattle.name_core.specs.declared.asks.OpenAsk.{OpenAsk}
use Rattle.name_core.specs.declared.walks.Walked.{Walked}
use Rattle.name_core.specs.declared.walks.Walked.TheVariants as result
use Rattle.name_core.specs.State.{IsNames, NameService, NameState, next_id, settled}
use Rattle.name_core.specs.Asks.{Asks, Finishes, ask_gone, open_ask}
use Rattle.name_core.specs.Calls.{NameActs, deed}
use Rattle.name_core.specs.Reads.{info_answer, info_reply, list_answer, path_of_zone, path_read, rows_read}
use Rattle.name_core.specs.Service.{FinishServes, NameServes}
use Rattle.name_core.specs.Steps.{Keeps}
use Rattle.name_core.specs.Updates.{UpdateDeed, deliver_deed, give_up_deed, going_walk, last_session}
use Rattle.name_core.specs.Updating.{NameUpdates, UpdateServes, UpdateUnwritten}
use Rattle.name_core.specs.Walking.{NameWalks, WalkServes}
use Rattle.name_core.specs.Walks.{session_at, status_at, walk_of}

-- info of what was made

-- info of a directory that was made returns the next id, the zone that its parent lies in, and no key, unless memory runs out
abbrev pub MadeIsReported : Type 0
MadeIsReported =
    (s : NameState) (p : NPath) (s' : NameState) (answer : NameReply) (s'' : NameState)
    → NameActs s (call.Mkdir p) reply.Done s' → NameActs s' (call.Info (as_it_is p)) answer s''
    → (answer ≡ reply.Refused refusal.NoMemory) ⊎ (answer ≡ reply.Dir (next_id s) (path_of_zone s.table.rows (parent p)) None)

-- info of another path is unchanged
abbrev pub OthersStay : Type 0
OthersStay =
    (s : NameState) (p : NPath) (s' : NameState) (q : NPath)
    → NameActs s (call.Mkdir p) reply.Done s' → (q ≡ p → ⊥) → info_reply s'.table (as_it_is q) ≡ info_reply s.table (as_it_is q)

-- info of a file that was made returns the id of its ask, the zone of its parent, and the given encrypted key, unless memory runs out
abbrev pub FileIsReported : Type 0
FileIsReported =
    (s : NameState) (a : OpenAsk) (p : NPath) (edek : Option Edek) (s' : NameState) (answer : NameReply) (s'' : NameState)
    → a.ask ≡ ask.Create p → Finishes s a edek (Ok tt) s' → NameActs s' (call.Info (as_it_is p)) answer s''
    → (answer ≡ reply.Refused refusal.NoMemory) ⊎ (answer ≡ reply.File a.id (path_of_zone s.table.rows (parent p)) edek)

-- that zone is the one under which the file was asked for, or there was none and is none
abbrev pub ZoneIsAsAsked : Type 0
ZoneIsAsAsked =
    (s : NameState) (a : OpenAsk) (p : NPath) (edek : Option Edek) (s' : NameState)
    → a.ask ≡ ask.Create p → Finishes s a edek (Ok tt) s' → zone_id s.table.rows (parent p) ≡ a.zone

-- info of another path is unchanged by the finish
abbrev pub OthersStayByFile : Type 0
OthersStayByFile =
    (s : NameState) (a : OpenAsk) (p : NPath) (edek : Option Edek) (s' : NameState) (q : NPath)
    → a.ask ≡ ask.Create p → Finishes s a edek (Ok tt) s' → (q ≡ p → ⊥) → info_reply s'.table (as_it_is q) ≡ info_reply s.table (as_it_is q)

-- info of a directory that was made a zone returns the id that it had, itself as its zone, and the key of the ask, unless memory runs out
abbrev pub ZoneIsReported : Type 0
ZoneIsReported =
    (s : NameState) (a : OpenAsk) (p : NPath) (key : KeyName) (edek : Option Edek) (s' : NameState) (answer : NameReply) (s'' : NameState)
    → IsRows s.table.rows → a.ask ≡ ask.Zone p key → Finishes s a edek (Ok tt) s' → NameActs s' (call.Info (as_it_is p)) answer s''
    → (answer ≡ reply.Refused refusal.NoMemory) ⊎ (answer ≡ reply.Dir (id_at s.table.rows p) (Some p) (Some key))

-- what was deleted is gone

-- info of the path that was deleted, or of one below it, is refused with NoSuchPath
abbrev pub DeletedIsGone : Type 0
DeletedIsGone =
    (s : NameState) (p : NPath) (recursive : Bool) (s' : NameState) (q : NPath) (answer : NameReply) (s'' : NameState)
    → NameActs s (call.Delete p recursive) reply.Done s' → is_prefix p q ≡ true → NameActs s' (call.Info (as_it_is q)) answer s'' → answer ≡ reply.Refused refusal.NoSuchPath

-- info of another path is unchanged
abbrev pub OthersStayByDelete : Type 0
OthersStayByDelete =
    (s : NameState) (p : NPath) (recursive : Bool) (s' : NameState) (q : NPath)
    → NameActs s (call.Delete p recursive) reply.Done s' → is_prefix p q ≡ false → info_reply s'.table (as_it_is q) ≡ info_reply s.table (as_it_is q)

-- what was renamed has moved

-- After a rename there is at each path what `row_after` says: at the new path and below it what was at the old path and below it, at
-- those nothing, and elsewhere what was there.
abbrev pub RenamedHasMoved : Type 0
RenamedHasMoved =
    (s : NameState) (p q : NPath) (s' : NameState) (r : NPath)
    → IsRows s.table.rows → NameActs s (call.Rename p q) reply.Done s' → row_at s'.table.rows r ≡ row_after p q s.table.rows r

-- each id keeps its row, with its mark or its encrypted key, at its path after the move
abbrev pub RenamedKeepsRows : Type 0
RenamedKeepsRows =
    (s : NameState) (p q : NPath) (s' : NameState) (id : ℕ)
    → IsRows s.table.rows → NameActs s (call.Rename p q) reply.Done s' → entry_of s'.table.rows id ≡ option_map (moved p q) (entry_of s.table.rows id)

-- what has moved lies in the zone that it lay in, or in none if it lay in none
abbrev pub RenamedKeepsZone : Type 0
RenamedKeepsZone =
    (s : NameState) (p q : NPath) (s' : NameState) (below : NPath)
    → IsRows s.table.rows → NameActs s (call.Rename p q) reply.Done s' → zone_id s'.table.rows (q ++ below) ≡ zone_id s.table.rows (p ++ below)

-- and so does what is elsewhere
abbrev pub OthersKeepZone : Type 0
OthersKeepZone =
    (s : NameState) (p q : NPath) (s' : NameState) (r : NPath)
    → IsRows s.table.rows → NameActs s (call.Rename p q) reply.Done s' → is_prefix p r ≡ false → is_prefix q r ≡ false
    → zone_id s'.table.rows r ≡ zone_id s.table.rows r

-- the snapshots, and the directories that may have them, are the same
abbrev pub RenamedKeepsSnapshots : Type 0
RenamedKeepsSnapshots = (s : NameState) (p q : NPath) (s' : NameState) → NameActs s (call.Rename p q) reply.Done s' → s'.table.snaps ≡ s.table.snaps

-- A list has a name exactly if the directory has an entry of that name. In a snapshot, if the directory had one then.
abbrev pub ListTellsChildren : Type 0
ListTellsChildren =
    (s : NameState) (r : ReadPath) (list : List Child) (s' : NameState) (name : List ℕ)
    → NameActs s (call.List r) (reply.List list) s' → list_any (λ (c : Child). bytes_eq c.name name) list ≡ is_some (row_at (rows_read s.table r) (path_read r ++ name ∷ []))

-- ids rise

-- a directory that is made raises the next id
abbrev pub IdsRise : Type 0
IdsRise = (s : NameState) (p : NPath) (s' : NameState) → NameActs s (call.Mkdir p) reply.Done s' → next_id s < next_id s'

-- an ask that is accepted gets the next id and raises it
abbrev pub AskIdsRise : Type 0
AskIdsRise =
    (s : NameState) (user : Text) (a : Ask) (note : AskNote) (s' : NameState) → Asks s user a (Ok note) s' → (note.id ≡ next_id s) × (next_id s < next_id s')

-- ids of rows, open asks and the pending operation are below the next one; no open ask has the id of another one, a row or the operation
abbrev pub IdsBelowNext : NameService → Type 0
IdsBelowNext s = Keeps s

-- this is true of each namesystem
abbrev pub NamesKeepIds : Type 0
NamesKeepIds = (s : NameService) → IsNames s → IdsBelowNext s

-- a store fault may come at any time
abbrev pub AnyFault : Type 0
AnyFault = Unit {0}

-- one step of the namesystem: a call, an ask, a finish, a walk, a delivery or a batch given up, whatever it answers
pub data IsStep (s s' : NameService) : Type 0 where
  Called : (user : Text) (c : NameCall) (answer : NameReply) (logged : List EditOp) → NameServes s user c AnyFault answer logged s' → IsStep s s'
  Asked : (user : Text) (a : Ask) (answer : Result AskNote NameRefusal) → Asks s.names user a answer s'.names → s'.pending ≡ s.pending → IsStep s s'
  Finished : (id : ℕ) (given : KeyAnswer) (answer : Result (Unit {0}) NameRefusal) (logged : List EditOp) → FinishServes s id given AnyFault answer logged s' → IsStep s s'
  Walks : (p : NPath) (answer : Result Walked NameRefusal) (logged : List EditOp) → WalkServes s p AnyFault answer logged s' → IsStep s s'
  Delivers : (reply : ReplyState) (answer : Result Delivered NameRefusal) (logged : List EditOp) → UpdateServes s (deliver_deed reply) AnyFault answer logged s' → IsStep s s'
  GivesUp : (note : BatchNote) (answer : Result Delivered NameRefusal) (logged : List EditOp) → UpdateServes s (give_up_deed note) AnyFault answer logged s' → IsStep s s'

-- it stays true in each step
abbrev pub IdsStayBelow : Type 0
IdsStayBelow = (s s' : NameService) → IsStep s s' → IdsBelowNext s → IdsBelowNext s'

-- an ask is finished once

-- a finish right after one of the same id finds no open ask, whatever the first one answered except NoMemory
abbrev pub FinishedOnce : Type 0
FinishedOnce =
    (s : NameService) (id : ℕ) (given : KeyAnswer) (answer : Result (Unit {0}) NameRefusal) (logged : List EditOp) (s' : NameService) (given' : KeyAnswer)
    (answer' : Result (Unit {0}) NameRefusal) (logged' : List EditOp) (s'' : NameService)
    → IdsBelowNext s → FinishServes s id given AnyFault answer logged s' → (answer ≡ Err refusal.NoMemory → ⊥) → FinishServes s' id given' AnyFault answer' logged' s''
    → (answer' ≡ Err (ask_gone s'.names)) × (s'' ≡ s')

-- from s, steps through these states lead to t
abbrev pub Reaches : NameService → List NameService → NameService → Type 0
Reaches s [] t = t ≡ s
Reaches s (m ∷ ms) t = IsStep s m × Reaches m ms t

-- nor is an ask that was open found by its id after such a finish and any steps
abbrev pub FinishedForGood : Type 0
FinishedForGood =
    (s : NameService) (id : ℕ) (a : OpenAsk) (given : KeyAnswer) (answer : Result (Unit {0}) NameRefusal) (logged : List EditOp) (s' : NameService) (between : List NameService) (t : NameService)
    (given' : KeyAnswer) (answer' : Result (Unit {0}) NameRefusal) (logged' : List EditOp) (t' : NameService)
    → IdsBelowNext s → open_ask s.names.asks id ≡ Some a → FinishServes s id given AnyFault answer logged s' → (answer ≡ Err refusal.NoMemory → ⊥)
    → Reaches s' between t → FinishServes t id given' AnyFault answer' logged' t' → (answer' ≡ Err (ask_gone t.names)) × (t' ≡ t)

-- snapshots

-- the operation removes the snapshot of the directory with the id that has the name
abbrev pub removes_snapshot : ℕ → List ℕ → List Entry → EditOp → Bool
removes_snapshot dir name rows (op.Unsnap p n) = dir == id_at rows p && bytes_eq name n
removes_snapshot dir name rows _ = false

-- what a snapshot has never changes while it exists
abbrev pub SnapshotsStay : Type 0
SnapshotsStay =
    (t : NameTable) (o : EditOp) (dir : ℕ) (name : List ℕ) (was : Snapshot)
    → allows t o ≡ true → removes_snapshot dir name t.rows o ≡ false → snapshot_named t.snaps.taken dir name ≡ Some was
    → snapshot_named (after_table t o).snaps.taken dir name ≡ Some was

-- nor do the answers to info and list in it, whose zones are found in the table as well
abbrev pub SnapshotsTellTheSame : Type 0
SnapshotsTellTheSame =
    (t : NameTable) (o : EditOp) (p : NPath) (name : Text) (below : NPath)
    → IsNameTable t → allows t o ≡ true → removes_snapshot (id_at t.rows p) name t.rows o ≡ false → first_cause (unsnap_causes t.rows t.snaps p name) ≡ None
    → (info_answer (after_table t o) (as_it_was p name below) ≡ info_answer t (as_it_was p name below)) × (list_answer (after_table t o) (as_it_was p name below) ≡ list_answer t (as_it_was p name below))

-- the pending operation does not remove the snapshot
abbrev pub IsNotPending : NameService → ℕ → List ℕ → Type 0
IsNotPending s dir name = IfSome s.pending (λ o. removes_snapshot dir name s.names.table.rows o ≡ false)

-- nor does settling the pending operation change a snapshot that it does not remove
abbrev pub SettlingKeepsSnapshots : Type 0
SettlingKeepsSnapshots =
    (s : NameService) (kept : Bool) (dir : ℕ) (name : List ℕ) (was : Snapshot)
    → IsNames s → IsNotPending s dir name → snapshot_named s.names.table.snaps.taken dir name ≡ Some was
    → snapshot_named (settled kept s).table.snaps.taken dir name ≡ Some was

-- the operation of a call does not remove the snapshot, whether the pending one is kept or dropped before it
abbrev pub IsNotCalled : NameService → NameCall → ℕ → List ℕ → Type 0
IsNotCalled s c dir name = (kept : Bool) → IfSome (deed (settled kept s) c).logs (λ o. removes_snapshot dir name (settled kept s).table.rows o ≡ false)

abbrev pub DoesNotRemove : (s s' : NameService) → ℕ → List ℕ → IsStep s s' → Type 0
DoesNotRemove s s' dir name (Called user c answer logged serves) = IsNotCalled s c dir name
DoesNotRemove s s' dir name (Asked user a answer asks same) = Unit {0}
DoesNotRemove s s' dir name (Finished id given answer logged serves) = Unit {0}
DoesNotRemove s s' dir name (Walks p answer logged serves) = Unit {0}
DoesNotRemove s s' dir name (Delivers reply answer logged serves) = Unit {0}
DoesNotRemove s s' dir name (GivesUp note answer logged serves) = Unit {0}

-- a step changes no snapshot that neither it nor the pending operation removes
abbrev pub StepsKeepSnapshots : Type 0
StepsKeepSnapshots =
    (s s' : NameService) (step : IsStep s s') (dir : ℕ) (name : List ℕ) (was : Snapshot)
    → IsNames s → IsNotPending s dir name → DoesNotRemove s s' dir name step → snapshot_named s.names.table.snaps.taken dir name ≡ Some was
    → snapshot_named s'.names.table.snaps.taken dir name ≡ Some was

-- Info of an entry of a snapshot that was taken returns what info of the entry itself returned, and a list of one of its directories what
-- a list of the directory itself returned, unless memory runs out.

abbrev pub SnapshotIsReported : Type 0
SnapshotIsReported =
    (s : NameState) (p : NPath) (name : Text) (s' : NameState) (below : NPath) (answer : NameReply) (s'' : NameState)
    → IsRows s.table.rows → NameActs s (call.Snap p name) reply.Done s' → NameActs s' (call.Info (as_it_was p name below)) answer s''
    → (answer ≡ reply.Refused refusal.NoMemory) ⊎ (answer ≡ info_reply s.table (as_it_is (p ++ below)))

abbrev pub SnapshotIsListed : Type 0
SnapshotIsListed =
    (s : NameState) (p : NPath) (name : Text) (s' : NameState) (below : NPath) (answer : NameReply) (s'' : NameState)
    → IsRows s.table.rows → NameActs s (call.Snap p name) reply.Done s' → NameActs s' (call.List (as_it_was p name below)) answer s''
    → (answer ≡ reply.Refused refusal.NoMemory) ⊎ (answer ≡ list_answer s.table (as_it_is (p ++ below)))

-- after a snapshot was removed, info in it is refused with NoSuchSnapshot
abbrev pub UnsnapIsGone : Type 0
UnsnapIsGone =
    (s : NameState) (p : NPath) (name : Text) (s' : NameState) (below : NPath) (answer : NameReply) (s'' : NameState)
    → NameActs s (call.Unsnap p name) reply.Done s' → NameActs s' (call.Info (as_it_was p name below)) answer s'' → answer ≡ reply.Refused refusal.NoSuchSnapshot

-- re-encryptions

-- after a cancel the zone is not being re-encrypted
abbrev pub CancelEnds : Type 0
CancelEnds = (s : NameState) (p : NPath) (s' : NameState) → NameActs s (call.Cancel p) reply.Done s' → zone_goes_on s'.table.statuses (id_at s'.table.rows p) ≡ false

-- the status of a zone that has another session is unchanged
abbrev pub OthersGoOn : Type 0
OthersGoOn =
    (s : NameState) (p : NPath) (s' : NameState) (zone : ℕ) (st : StatusRow)
    → NameActs s (call.Cancel p) reply.Done s' → status_of s.table.statuses zone ≡ Some st → (st.session ≡ session_at s.table p → ⊥) → status_of s'.table.statuses zone ≡ Some st

-- a status that shows the session as cancelled
pub record ShowsCancel (session : ℕ) (answer : NameReply) : Type 0 where
  pub shown : ZoneStatus
  pub answers : answer ≡ reply.Status (Some shown)
  pub session_is : shown.session ≡ session
  pub state_is : shown.state ≡ state.Completed
  pub cancelled : shown.cancelled ≡ true

-- and a status shows that its session was cancelled, unless memory runs out
abbrev pub CancelIsReported : Type 0
CancelIsReported =
    (s : NameState) (p : NPath) (s' : NameState) (answer : NameReply) (s'' : NameState)
    → NameActs s (call.Cancel p) reply.Done s' → NameActs s' (call.Status p) answer s'' → (answer ≡ reply.Refused refusal.NoMemory) ⊎ ShowsCancel (session_at s.table p) answer

-- the walk of the status of a zone has taken each file of it, and no batch is outstanding
pub record IsWalkedThrough (s : NameState) (p : NPath) : Type 0 where
  pub status : StatusRow
  pub found : status_at s.table p ≡ Some status
  pub no_files : walk_list s.table.rows (id_at s.table.rows p) (walk_of s.walks status).cursor ≡ []
  pub none_outstanding : outstanding (walk_of s.walks status).batches ≡ 0

-- A walk answers that a re-encryption has completed only if no file of the zone is left and no batch is outstanding. The zone is then no
-- longer being re-encrypted.
abbrev pub CompletedIsWalkedThrough : Type 0
CompletedIsWalkedThrough =
    (s : NameState) (p : NPath) (s' : NameState)
    → NameWalks s p (Ok result.Completed) s' → IsWalkedThrough s p × (zone_goes_on s'.table.statuses (id_at s'.table.rows p) ≡ false)

-- the files of two batches of a zone: the first ones of the walk's list, and those that follow them
pub record FollowOn (s : NameState) (p : NPath) (note note' : BatchNote) : Type 0 where
  pub status : StatusRow
  pub found : status_at s.table p ≡ Some status
  pub first : note.sent ≡ sent_list (take s.batch (walk_list s.table.rows (id_at s.table.rows p) (walk_of s.walks status).cursor))
  pub second : note'.sent ≡ sent_list (take s.batch (drop s.batch (walk_list s.table.rows (id_at s.table.rows p) (walk_of s.walks status).cursor)))

-- two walks of a zone in a row take files that follow one another, so no file is taken twice and none is left out
abbrev pub BatchesFollow : Type 0
BatchesFollow =
    (s : NameState) (p : NPath) (note : BatchNote) (s' : NameState) (note' : BatchNote) (s'' : NameState)
    → IsRows s.table.rows → 1 ≤ s.batch → NameWalks s p (Ok (result.Batch note)) s' → NameWalks s' p (Ok (result.Batch note')) s'' → FollowOn s p note note'

-- a walk changes no row and no snapshot
abbrev pub WalksKeepRows : Type 0
WalksKeepRows =
    (s : NameState) (p : NPath) (answer : Result Walked NameRefusal) (s' : NameState)
    → NameWalks s p answer s' → (s'.table.rows ≡ s.table.rows) × (s'.table.snaps ≡ s.table.snaps)

-- deliveries, and batches given up

abbrev pub batches_of_walk : BatchNote → WalkState → ℕ
batches_of_walk note w = if w.session == note.session then length (filter (is_of note.sent) w.batches) else 0

-- How many batches of the zone's present re-encryption, with the session and the files of the note, are outstanding. In a linked world there
-- is at most one: no file is in two of them.
abbrev pub batches_of : NameState → BatchNote → ℕ
batches_of s note = option_map_or (batches_of_walk note) (going_walk s note.zone) 0

-- the update is a delivery of the batch, or its giving up
pub data IsUpdateOf (note : BatchNote) (d : NameState → UpdateDeed) : Type 0 where
  Delivery : (reply : ReplyState) → reply.note ≡ note → d ≡ deliver_deed reply → IsUpdateOf note d
  GivingUp : d ≡ give_up_deed note → IsUpdateOf note d

-- one that is applied retires one batch
abbrev pub UpdatesRetire : Type 0
UpdatesRetire =
    (s : NameState) (note : BatchNote) (d : NameState → UpdateDeed) (changed skipped failed : ℕ) (s' : NameState)
    → IsUpdateOf note d → NameUpdates s d (Ok (Applied changed skipped failed)) s' → batches_of s note ≡ suc (batches_of s' note)

-- one whose record could not be written retires its batch as soon as the record is kept, and not if it is dropped
abbrev pub KeptUpdatesRetire : Type 0
KeptUpdatesRetire =
    (s : NameState) (before : List EditOp) (note : BatchNote) (d : NameState → UpdateDeed) (answer : Result Delivered NameRefusal) (logged : List EditOp) (s' : NameService)
    → IsUpdateOf note d → UpdateUnwritten s before d AnyFault answer logged s'
    → (batches_of s note ≡ suc (batches_of (settled true s') note)) × (batches_of s note ≡ batches_of (settled false s') note)

-- one that finds no such batch is ignored, and changes nothing
abbrev pub RetiredIsIgnored : Type 0
RetiredIsIgnored =
    (s : NameState) (note : BatchNote) (d : NameState → UpdateDeed) (answer : Result Delivered NameRefusal) (s' : NameState)
    → IsUpdateOf note d → batches_of s note ≡ 0 → NameUpdates s d answer s' → (answer ≡ Ok (Ignored (last_session s note.zone))) × (s' ≡ s)

-- so an update of a batch that was outstanding once is ignored after it was applied
abbrev pub UpdatedOnce : Type 0
UpdatedOnce =
    (s : NameState) (note : BatchNote) (d d' : NameState → UpdateDeed) (changed skipped failed : ℕ) (s' : NameState) (answer : Result Delivered NameRefusal) (s'' : NameState)
    → IsUpdateOf note d → IsUpdateOf note d' → batches_of s note ≡ 1 → NameUpdates s d (Ok (Applied changed skipped failed)) s' → NameUpdates s' d' answer s''
    → (answer ≡ Ok (Ignored (last_session s' note.zone))) × (s'' ≡ s')
