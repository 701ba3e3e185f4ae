-- Properties of files that a run may start from.
use Rattle.std.specs.Prelude.{◌≤◌, ℕ, Bool, [], length}
use Rattle.hk_base.specs.Disk.{Image}
use Rattle.kms_store.specs.Store.{IsDamagedAt, settled_table}
use Rattle.name_store.specs.Store.{IsDamagedAt as IsDamagedName}
use Rattle.name_store.specs.Table.{settled_log}
use Rattle.world_run.specs.Ledger.{Hidden, Past, drawn_before, past_of}
use Rattle.world_run.specs.Linked.{SoundFiles, WordsApart}
use Rattle.world_run.specs.Promise.{FilesApart, FilesOpen}

-- two files that were never written are such files, with an empty ledger
abbrev pub EmptyFilesAreSound : Type 0
EmptyFilesAreSound = (c : Image) → length (c 0) ≤ 9 → length (c 1) ≤ 9 → SoundFiles (record { ledger = []; place = 0; starts = [] }) c

-- without draws, draws are apart
abbrev pub NoDrawsAreApart : Type 0
NoDrawsAreApart = WordsApart (drawn_before (record { ledger = []; place = 0; starts = [] }))

-- draws that are apart in a run are apart in what the next run finds of it
abbrev pub PastDrawsAreApart : Type 0
PastDrawsAreApart = (h : Hidden) → WordsApart h → WordsApart (drawn_before (past_of h))

-- if draws are apart, those of two files are, with the ledger of files that a run may start from
abbrev pub SoundFilesAreApart : Type 0
SoundFilesAreApart = (past : Past) (c : Image) → SoundFiles past c → WordsApart (drawn_before past) → FilesApart past.ledger

-- neither file is damaged
abbrev pub SoundFilesAreWhole : Type 0
SoundFilesAreWhole = (past : Past) (c : Image) (at : ℕ) → SoundFiles past c → (IsDamagedAt (c 0) at → ⊥) × (IsDamagedName (c 1) at → ⊥)

-- each file in a zone, live or in a snapshot, opens to the data key drawn for it, with the keys and the rows that a start finds there: each
-- log's last record included or not
abbrev pub SoundFilesOpen : Type 0
SoundFilesOpen =
    (past : Past) (c : Image) (s : SoundFiles past c) (found found_names : Bool)
    → FilesOpen past (settled_table found s.more s.table).rows (settled_log found_names s.more_ops s.made).table
