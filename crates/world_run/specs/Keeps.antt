-- An event over the disk, and what stays true in it.
use Rattle.std.specs.Prelude.{◌≡◌, ◌⊎◌, ℕ, ◌+◌, ◌<◌, Bool, List, ◌∷◌, [], ◌++◌, None, Result, MatchResult}
use Rattle.hk_base.specs.Disk.{DiskState, Image, IsImage, Tells}
use Rattle.hk_base.specs.Faults.{Rose}
use Rattle.frame_log.specs.declared.fault.StartFault.{StartFault}
use Rattle.frame_log.specs.declared.fault.StartFault.TheVariants as start
use Rattle.edit_ops.specs.declared.ops.EditOp.{EditOp}
use Rattle.key_rows.specs.declared.rows.KeyCommand.{KeyCommand}
use Rattle.key_rows.specs.Table.{Table, after}
use Rattle.kms_acls.specs.Agreement.{AreListsOf}
use Rattle.prop_text.specs.SizeValues.{SizeValues}
use Rattle.prop_text.specs.declared.lines.PropLine.{PropLine}
use Rattle.kms_core.specs.State.{settled}
use Rattle.kms_store.specs.Store.{IsKeyLog, IsLeftByStart, IsSoundLog, next_opening}
use Rattle.name_core.specs.State.{settled as settled_names}
use Rattle.name_store.specs.Table.{NameTable, next_opening as next_opening_of_names}
use Rattle.name_store.specs.Store.{IsNameLog, IsLeftByStart as IsLeftByNameStart}
use Rattle.hk_events.specs.declared.event.Event.{Event}
use Rattle.hk_events.specs.declared.event.Event.TheVariants as event
use Rattle.hk_events.specs.declared.event.Line.{Line}
use Rattle.world_run.specs.World.{RunningWorld, WorldState, first_world, world_of}
use Rattle.world_run.specs.Acknowledged.{Acknowledged, HoldsLogs, LeavesBoth, RunBoth, also}
use Rattle.world_run.specs.declared.fault.WorldFault.{WorldFault}
use Rattle.world_run.specs.Does.{Happens}
use Rattle.world_run.specs.Own.{SurvivesAtRest, SurvivesEvent, SurvivesRestart}
use Rattle.world_run.specs.Step.{Step}
use Rattle.world_run.specs.Ledger.{Hidden, Past, drawn_before, hidden_after, past_of}
use Rattle.world_run.specs.Linked.{AreDrawsApart, LinkedWorld, SoundFiles, StartsSound, WordsApart}
use Rattle.world_run.specs.Promise.{ZoneFilesOpen}

-- The world after a restart is known only if the disk tells its content, and so is what is kept of the call for a batch: it may read
-- older materials from the disk. The world after another event is known always.
abbrev pub KnowsWorld : Event → Type 0 → Type 0
KnowsWorld event.RestartKms tells = tells
KnowsWorld event.RestartName tells = tells
KnowsWorld (event.Serve number) tells = tells
KnowsWorld _ tells = Unit {0}

-- An event under the properties of these lines. If the world is linked with what is hidden, so is the world after the event, and
-- its zone files open.
pub record LinkedStep (lines : List PropLine) (w : WorldState) (words : ℕ → ℕ) (now : ℕ) (e : Event) (fault tells : Type 0) (reply : Line) (drawn : ℕ) (logged : Acknowledged) (w' : WorldState) : Type 0 where
  pub step : Step lines w words now e fault tells reply drawn logged w'
  pub linked : KnowsWorld e tells → (h : Hidden) → LinkedWorld w h → LinkedWorld w' (hidden_after w words e reply drawn w' h)
  pub files_open : KnowsWorld e tells → (h : Hidden) → LinkedWorld w h → ZoneFilesOpen w' (hidden_after w words e reply drawn w' h)
  -- if draws were apart, they are apart after it
  pub draws_apart : KnowsWorld e tells → (h : Hidden) → LinkedWorld w h → WordsApart h → AreDrawsApart (hidden_after w words e reply drawn w' h)

-- files that a run may start from, with what is hidden afterwards, whatever was hidden before
abbrev pub SoundFrom : (Hidden → Type 0) → (Hidden → Hidden) → Image → Type 0
SoundFrom Before after c = (h : Hidden) → Before h → SoundFiles (past_of (after h)) c

-- a crash at any moment since leaves what `left` says of what was acknowledged before
abbrev pub SurvivesThrough : DiskState → DiskState → RunningWorld → (Acknowledged → Image → Type 0) → Type 0
SurvivesThrough old new r left = Tells old → (done : Acknowledged) → HoldsLogs old r done → LeavesBoth old new (left done)

-- a crash at this moment, while nothing is written, leaves both logs, with what was acknowledged, and files that a run may start from
abbrev pub RestsNow : DiskState → RunningWorld → Type 0
RestsNow disk r =
    (done : Acknowledged) → HoldsLogs disk r done → (c : Image) → IsImage disk c → SurvivesAtRest (world_of r) done c × SoundFrom (LinkedWorld (world_of r)) (λ h. h) c

-- An event of a world over its disk, under the properties of these lines. The acknowledged records are in the logs after the
-- earlier ones, the next event begins with the words that are left, and the access control lists stay as they are.
pub record Steps (lines : List PropLine) (old new : DiskState) (r : RunningWorld) (words : ℕ → ℕ) (now : ℕ) (e : Event) (reply : Line) (r' : RunningWorld) (words' : ℕ → ℕ) : Type 0 where
  pub drawn : ℕ
  pub logged : Acknowledged
  pub step : LinkedStep lines (world_of r) words now e (Rose old.faults new.faults) (Tells old) reply drawn logged (world_of r')
  pub rest : (k : ℕ) → words' k ≡ words (drawn + k)
  pub stands : Tells old → (done : Acknowledged) → HoldsLogs old r done → HoldsLogs new r' (also done logged)
  -- a crash in the event leaves both logs, with what was acknowledged before it, and at most one record more: its own, or the pending
  -- one; and these files are sound, with what is hidden after the event
  pub survives : SurvivesThrough old new r (λ done c. SurvivesEvent (world_of r) words now e reply (world_of r') done c × SoundFrom (LinkedWorld (world_of r)) (hidden_after (world_of r) words e reply drawn (world_of r')) c)
  pub rests : RestsNow new r'
  pub run : RunBoth old new
  pub lists : r'.keys.acls ≡ r.keys.acls

-- which log a restart opens, and the number of the last opening in it, its pending record kept or not
abbrev pub is_restart : Event → ℕ → Type 0
is_restart event.RestartKms file = file ≡ 0
is_restart event.RestartName file = file ≡ 1
is_restart _ file = ⊥

abbrev pub last_opening : WorldState → Event → Bool → ℕ
last_opening w event.RestartKms kept = (settled kept w.keys).table.opening
last_opening w _ kept = (settled_names kept w.names).table.opening

-- what a crash leaves during a restart that fails: nothing was acknowledged, and nothing was drawn
abbrev pub LeftByRestart : WorldState → Event → Acknowledged → Image → Type 0
LeftByRestart w e done c = SurvivesRestart w e done c × SoundFrom (LinkedWorld w) (λ h. h) c

-- A restart whose opening failed. The log was opened before, so it is not damaged. The world is unchanged, but its log may have
-- grown: it must not go on with this disk.
pub record FailsToRestart (old new : DiskState) (r : RunningWorld) (words : ℕ → ℕ) (e : Event) (file : ℕ) (fault : StartFault) (r' : RunningWorld) (words' : ℕ → ℕ) : Type 0 where
  pub restart : is_restart e file
  pub same : r' ≡ r
  pub same_words : words' ≡ words
  pub never_damaged : Tells old → (at : ℕ) → fault ≡ start.Damaged at → ⊥
  pub spent : fault ≡ start.Spent → Tells old → (kept : Bool) × (last_opening (world_of r) e kept ≡ 4294967295)
  pub cause : fault ≡ start.StoreFault → Rose old.faults new.faults
  pub survives : SurvivesThrough old new r (LeftByRestart (world_of r) e)
  -- a crash at the end of it leaves what is acknowledged, too
  pub survives_then : Tells old → (done : Acknowledged) → HoldsLogs old r done → (c : Image) → IsImage new c → LeftByRestart (world_of r) e done c
  pub run : RunBoth old new

-- An event is answered with a line, under the properties of any lines that have these access control lists, or is a restart that fails.
abbrev pub StepsOrFails : DiskState → DiskState → RunningWorld → (ℕ → ℕ) → ℕ → Event → Result Line WorldFault → RunningWorld → (ℕ → ℕ) → Type 0
StepsOrFails old new r words now e result r' words' = MatchResult result
    (λ reply. (lines : List PropLine) → AreListsOf r.keys.acls lines → Steps lines old new r words now e reply r' words')
    (λ fault. FailsToRestart old new r words e fault.file fault.fault r' words')

-- the same of what an event does alone
abbrev pub HappensOrFails : DiskState → DiskState → RunningWorld → (ℕ → ℕ) → ℕ → Event → Result Line WorldFault → RunningWorld → (ℕ → ℕ) → Type 0
HappensOrFails old new r words now e result r' words' = MatchResult result
    (λ reply. (lines : List PropLine) → AreListsOf r.keys.acls lines → Happens lines old new r words now e reply r' words')
    (λ fault. FailsToRestart old new r words e fault.file fault.fault r' words')

-- A restart needs no lists, no words and no moment: it leaves any words as they are.
abbrev pub RestartsOrFails : DiskState → DiskState → RunningWorld → Event → Result Line WorldFault → RunningWorld → Type 0
RestartsOrFails old new r e result r' = MatchResult result
    (λ reply. (lines : List PropLine) (words : ℕ → ℕ) (now : ℕ) → Happens lines old new r words now e reply r' words)
    (λ fault. (words : ℕ → ℕ) → FailsToRestart old new r words e fault.file fault.fault r' words)

-- What a start found in both logs, and what they hold after it: the records found, and the next openings.
pub record BeganLogs (old new : DiskState) (r : RunningWorld) (table : Table) (names : NameTable) : Type 0 where
  pub commands : List KeyCommand
  pub ops : List EditOp
  pub used : List ℕ
  pub keys : IsKeyLog (old.reads 0) commands table
  pub edits : IsNameLog (old.reads 1) ops (record { table = names; used = used })
  -- neither of the openings found was the last one
  pub keys_room : table.opening < 4294967295
  pub names_room : names.opening < 4294967295
  pub holds : HoldsLogs new r (record { keys = commands ++ next_opening table ∷ []; names = ops ++ next_opening_of_names names ∷ [] })

-- A start with these sizes found a table in each log, and recorded the next opening after its records. If a run may start from every image of the old
-- files, with a ledger of draws of earlier runs, the first world is linked with it.
pub record BeginsFirstWorld (sizes : SizeValues) (old new : DiskState) (r : RunningWorld) : Type 0 where
  pub table : Table
  pub names : NameTable
  pub first : world_of r ≡ first_world sizes table names
  pub log : Tells old → BeganLogs old new r table names
  pub linked : Tells old → (past : Past) → StartsSound old past → LinkedWorld (world_of r) (drawn_before past)
  pub files_open : Tells old → (past : Past) → StartsSound old past → ZoneFilesOpen (world_of r) (drawn_before past)
  pub draws_apart : Tells old → (past : Past) → StartsSound old past → WordsApart (drawn_before past) → AreDrawsApart (drawn_before past)
  pub rests : RestsNow new r

-- The key log is opened first: it is what it may have been before, or what its start leaves of the log found, and the edit log is
-- what it may have been before.
pub record LeftByFirst (old : DiskState) (c : Image) : Type 0 where
  pub keys : old.leaves 0 (c 0) ⊎ IsLeftByStart (old.reads 0) (c 0)
  pub names : old.leaves 1 (c 1)

-- the file is the key log that was found, and the next opening is recorded in it
pub record IsOpenedLog (found bytes : List ℕ) : Type 0 where
  pub commands : List KeyCommand
  pub table : Table
  pub log : IsKeyLog found commands table
  pub room : table.opening < 4294967295
  pub sound : IsSoundLog bytes (commands ++ next_opening table ∷ []) None (after table (next_opening table))

-- Then the edit log is opened: it is what it may have been before, or what its start leaves of the log found, and the key log has its
-- new opening.
pub record LeftBySecond (old : DiskState) (c : Image) : Type 0 where
  pub keys : IsOpenedLog (old.reads 0) (c 0)
  pub names : old.leaves 1 (c 1) ⊎ IsLeftByNameStart (old.reads 1) (c 1)

-- Files that openings leave. A run may start from them if it may start from each image of the files before.
pub record LeftByStarts (old : DiskState) (c : Image) : Type 0 where
  pub left : LeftByFirst old c ⊎ LeftBySecond old c
  pub sound : (past : Past) → StartsSound old past → SoundFiles past c
