-- What a run of events leaves of both logs.
use Rattle.std.specs.Prelude.{◌≡◌, ◌⊎◌, ℕ, ◌<◌, List, [], ◌∷◌, ◌++◌}
use Rattle.hk_base.specs.Disk.{DiskState, Image, IsImage}
use Rattle.edit_ops.specs.declared.ops.EditOp.{EditOp}
use Rattle.key_rows.specs.declared.rows.KeyCommand.{KeyCommand}
use Rattle.key_rows.specs.Table.{Table}
use Rattle.kms_store.specs.Store.{IsKeyLog, next_opening}
use Rattle.name_store.specs.Table.{NameTable, next_opening as next_opening_of_names}
use Rattle.name_store.specs.Store.{IsNameLog}
use Rattle.hk_events.specs.declared.event.Event.{Event}
use Rattle.hk_events.specs.declared.event.Event.TheVariants.{RestartKms, RestartName}
use Rattle.world_run.specs.Acknowledged.{Acknowledged, HoldsLogs, LeavesBoth, also}
use Rattle.world_run.specs.Keeps.{LeftByStarts}
use Rattle.world_run.specs.Ledger.{Hidden, Past, drawn_before}
use Rattle.world_run.specs.Linked.{StartsSound}
use Rattle.world_run.specs.Own.{SurvivesRestart}
use Rattle.prop_text.specs.SizeValues.{SizeValues}
use Rattle.world_run.specs.World.{RunningWorld, WorldState, first_world, world_of}
use Rattle.hk_runs.specs.Run.{History, RestsAfter, SoundAfter, SurvivesIn, logged_in, world_after}

-- what both logs hold once they are opened: what was found, and the next openings
abbrev pub opened_logs : List KeyCommand → Table → List EditOp → NameTable → Acknowledged
opened_logs commands table ops names = record { keys = commands ++ next_opening table ∷ []; names = ops ++ next_opening_of_names names ∷ [] }

-- what is hidden before a run: draws of the runs before, with which it may start from every image of the files
pub record HiddenBefore (old : DiskState) (h : Hidden) : Type 0 where
  pub past : Past
  pub sound : StartsSound old past
  pub is : h ≡ drawn_before past

-- A run may end with a restart that could not open its log. `Cut` says which restarts that may be.

-- no restart
abbrev pub NoRestart : Event → Type 0
NoRestart e = ⊥

-- what a crash may leave during such a restart in this world
abbrev pub SurvivesStop : (Event → Type 0) → WorldState → Acknowledged → Image → Type 0
SurvivesStop Cut w done image = (Cut RestartKms × SurvivesRestart w RestartKms done image) ⊎ (Cut RestartName × SurvivesRestart w RestartName done image)

-- and files that the next run may start from, with what is hidden after the history
abbrev pub LeftByStop : (Event → Type 0) → Acknowledged → (Hidden → Type 0) → WorldState → (ℕ → ℕ) → History → Image → Type 0
LeftByStop Cut before Before first words history image =
    SurvivesStop Cut (world_after first history) (also before (logged_in history)) image × SoundAfter Before first words history image

-- the two files are what a crash may leave on the way, or in the end
abbrev pub SurvivesUntil : (Event → Type 0) → Acknowledged → (Hidden → Type 0) → WorldState → (ℕ → ℕ) → History → Image → Type 0
SurvivesUntil Cut before Before first words history image = SurvivesIn before Before first words history image ⊎ LeftByStop Cut before Before first words history image

-- the two files are what a crash may leave in the end: nothing of what was acknowledged is missing
abbrev pub SurvivesLast : (Event → Type 0) → Acknowledged → (Hidden → Type 0) → WorldState → (ℕ → ℕ) → History → Image → Type 0
SurvivesLast Cut before Before first words history image = RestsAfter before Before first words history image ⊎ LeftByStop Cut before Before first words history image

-- Both files were found to be logs, of these commands and operations, by a start with these sizes. A crash at any moment since left
-- what it may have left before, or files on the way of the openings; or both logs, with the records acknowledged in a world on the
-- way. A crash in the end leaves all that was acknowledged.
pub record OnDisk (old new : DiskState) (words : ℕ → ℕ) (sizes : SizeValues) (table : Table) (names : NameTable) (history : History) (Cut : Event → Type 0) : Type 0 where
  pub commands : List KeyCommand
  pub ops : List EditOp
  pub used : List ℕ
  pub keys : IsKeyLog (old.reads 0) commands table
  pub edits : IsNameLog (old.reads 1) ops (record { table = names; used = used })
  -- neither of the openings found was the last one
  pub keys_room : table.opening < 4294967295
  pub names_room : names.opening < 4294967295
  pub moments : LeavesBoth old new (λ image. LeftByStarts old image ⊎ SurvivesUntil Cut (opened_logs commands table ops names) (HiddenBefore old) (first_world sizes table names) words history image)
  pub last : (image : Image) → IsImage new image → SurvivesLast Cut (opened_logs commands table ops names) (HiddenBefore old) (first_world sizes table names) words history image

-- the disk holds both logs of the records acknowledged by now, beside those that are pending in this world
abbrev pub HoldsLogsOf : DiskState → Acknowledged → WorldState → Type 0
HoldsLogsOf new done w = (r : RunningWorld) × (world_of r ≡ w) × HoldsLogs new r done
