-- A load, and what it writes.
use Rattle.std.specs.Prelude.{◌≡◌, ◌⊎◌, ℕ, List, [], codes, Option}
use Rattle.command_io.specs.Ends.{ShowsWith}
use Rattle.disk_kinds.specs.declared.plain_disk.PlainDisk.{PlainDisk}
use Rattle.disk_kinds.specs.Plain.{contents, state_of}
use Rattle.kms_acls.specs.Agreement.{AreListsOf}
use Rattle.key_rows.specs.Table.{no_keys}
use Rattle.name_store.specs.Table.{nothing_logged}
use Rattle.prop_text.specs.Sizes.{default_sizes}
use Rattle.world_run.specs.Drives.{Leads, Standing, WorldLeading}
use Rattle.world_run.specs.Keeps.{BeginsFirstWorld}
use Rattle.world_run.specs.World.{first_world, world_of}
use Rattle.load_run.specs.declared.counts.Counts.{Counts}
use Rattle.load_run.specs.declared.task.Task.{Task}
use Rattle.load_run.specs.Counts.{load_line}
use Rattle.load_run.specs.Generator.{tasks}
use Rattle.load_run.specs.History.{DoesInto}
use Rattle.load_run.specs.Props.{open_lines}

-- an event of a load happens, under those lines; all are at moment 0
abbrev pub LoadLeads : {W : Type 0} → (W → ℕ → ℕ) → WorldLeading PlainDisk W
LoadLeads to_come = Leads state_of to_come open_lines 0

-- Both services were started with the default sizes over a disk of two empty files, and stand so: there are no keys, and there is no
-- file but the root.
pub record StartsEmpty (first : PlainDisk) {W : Type 0} (a : Standing PlainDisk W) : Type 0 where
  pub no_key_log : contents first 0 ≡ []
  pub no_edit_log : contents first 1 ≡ []
  pub begins : BeginsFirstWorld default_sizes (state_of first) (state_of a.disk) a.world
  pub lists : AreListsOf a.world.keys.acls open_lines
  pub world_is : world_of a.world ≡ first_world default_sizes no_keys nothing_logged.table

-- A load did these tasks from such a start on, with these random words before and after it, and counted this.
pub record Loads {W : Type 0} (to_come : W → ℕ → ℕ) (todo : List Task) (words words' : W) (counts : Counts) : Type 0 where
  pub empty : PlainDisk
  pub first : Standing PlainDisk W
  pub start : StartsEmpty empty first
  pub words_are : first.words ≡ words
  pub does : DoesInto (LoadLeads to_come) todo first counts words'

-- What a load of n steps writes, and its status: the line of its counts and 0, or that memory ran out and 6. If the output fails, a prefix of either
-- is written, and the status is 8.
abbrev pub Load : {W : Type 0} → (W → ℕ → ℕ) → ℕ → W → W → Option (List ℕ) → Option (List ℕ) → ℕ → Type 0
Load to_come n words words' written now status =
    ((counts : Counts) × Loads to_come (tasks n) words words' counts × ShowsWith (load_line n counts) 0 written now status) ⊎ ShowsWith (codes "no memory\n") 6 written now status
