-- Runs one after another.
use Rattle.std.specs.Prelude.{◌≡◌, ◌≤◌, ℕ, Bool, List, [], length, Some}
use Rattle.hk_base.specs.Disk.{DiskState, Image, IsImage}
use Rattle.hk_base.specs.declared.names.Edek.{Edek}
use Rattle.inode_tree.specs.declared.rows.Row.{Row}
use Rattle.name_store.specs.Table.{kept_rows, settled_log}
use Rattle.prop_text.specs.declared.lines.PropLine.{PropLine}
use Rattle.world_run.specs.Ledger.{Draw, Past, drawn_before}
use Rattle.world_run.specs.Linked.{StartsSound, WordsApart}
use Rattle.world_run.specs.Promise.{In, edek_of}
use Rattle.world_run.specs.World.{WorldState}
use Rattle.hk_runs.specs.Headline.{Headline, IsPartOf, known_after}
use Rattle.hk_runs.specs.KeyFacts.{FactOfDisk, KeyFact, OpensKey}
use Rattle.hk_runs.specs.Run.{History}

-- nothing is known of earlier runs
abbrev pub nothing_known : Past
nothing_known = record { ledger = []; place = 0; starts = [] }

-- a crash leaves two files that were never written, or whose first write was interrupted
abbrev pub IsUnwritten : DiskState → Type 0
IsUnwritten d = (c : Image) → IsImage d c → (length (c 0) ≤ 9) × (length (c 1) ≤ 9)

-- the disk has the two files of an image, and a crash leaves nothing else
abbrev pub HasFiles : DiskState → Image → Type 0
HasFiles d image = (c : Image) → IsImage d c → (c 0 ≡ image 0) × (c 1 ≡ image 1)

-- From `old` to `new` a run kept the promise on files.
pub record RunFrom (old new : DiskState) : Type 0 where
  pub past : Past
  pub lines : List PropLine
  pub words : ℕ → ℕ
  pub first : WorldState
  pub history : History
  pub keeps : Headline past lines old new words first history

-- what is known after a part of it
abbrev pub known_in : {old new : DiskState} → RunFrom old new → History → Past
known_in run part = known_after run.past run.first run.words part

-- The next run may start on a disk with the files that the run left in the end, with all that is known after it.
abbrev pub FollowsRun : DiskState → DiskState → DiskState → Type 0
FollowsRun old new next = (run : RunFrom old new) → ((c : Image) → IsImage next c → IsImage new c) → StartsSound next (known_in run run.history)

-- After a crash at any moment of the run, the next one may start on a disk with the files that the crash left, with what is known after
-- some part of it.
abbrev pub FollowsCrash : DiskState → DiskState → DiskState → Type 0
FollowsCrash old new next =
    (run : RunFrom old new) (image : Image) → new.left_since old.moment image → HasFiles next image → (part : History) × IsPartOf part run.history × StartsSound next (known_in run part)

-- draws with no word in common before a run have none in what is known after a part of it
abbrev pub DrawsStayApart : DiskState → DiskState → Type 0
DrawsStayApart old new = (run : RunFrom old new) (part : History) → WordsApart (drawn_before run.past) → IsPartOf part run.history → WordsApart (drawn_before (known_in run part))

-- A fact of a key before a run is one on a disk with the files that the run left in the end.
abbrev pub FactsLast : DiskState → DiskState → DiskState → Type 0
FactsLast old new next = (run : RunFrom old new) (fact : KeyFact) → FactOfDisk old fact → ((c : Image) → IsImage next c → IsImage new c) → FactOfDisk next fact

-- and on a disk with the files that a crash left at any moment of it
abbrev pub FactsSurvive : DiskState → DiskState → DiskState → Type 0
FactsSurvive old new next = (run : RunFrom old new) (fact : KeyFact) (image : Image) → FactOfDisk old fact → new.left_since old.moment image → HasFiles next image → FactOfDisk next fact

-- Of a file that each image of the edit log has, with its last record or without it: it is a fact that its encrypted key opens to the
-- data key of its draw.
abbrev pub KeptKeysOpen : DiskState → Type 0
KeptKeysOpen d =
    (known : Past) (sound : StartsSound d known) (file : Row) (edek : Edek) (draw : Draw) → edek_of file.kind ≡ Some edek → In (file.id, draw) known.ledger
    → ((c : Image) (is : IsImage d c) → (found : Bool) × In file (kept_rows (settled_log found (sound c is).more_ops (sound c is).made).table))
    → FactOfDisk d (OpensKey draw edek)
