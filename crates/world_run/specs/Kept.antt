-- The promise on files for what is known at some moment, and for the two files that a crash leaves.
use Rattle.std.specs.Prelude.{◌≡◌, ◌++◌, ℕ, Bool, List}
use Rattle.hk_base.specs.Disk.{Image}
use Rattle.key_rows.specs.declared.rows.KeyRow.{KeyRow}
use Rattle.kms_store.specs.Store.{settled_table}
use Rattle.name_store.specs.Table.{NameTable, settled_log}
use Rattle.world_run.specs.Ledger.{Draw, FilesAtSubmission, Ledger, Past}
use Rattle.world_run.specs.Linked.{SoundFiles}
use Rattle.world_run.specs.Promise.{FilesOpen, In}

-- The promise on files, for what is known of the draws, rows of keys and a table of files: the encrypted key of each zone file, live or
-- in a snapshot, opens to the data key drawn for it, while its key exists; a completed re-encryption left no file behind (`FilesOpen`);
-- and no two files share a draw.
pub record FilesKept (known : Past) (keys : List KeyRow) (files : NameTable) : Type 0 where
  pub files_open : FilesOpen known keys files
  pub one_file : (i j : ℕ) (d f : Draw) → In (i, d) known.ledger → In (j, f) known.ledger → d.place ≡ f.place → i ≡ j

-- the promise in the two files that a crash leaves: a start may find each log with its last record or without it
pub record ImageKept (known : Past) (image : Image) : Type 0 where
  pub sound : SoundFiles known image
  pub kept : (s : SoundFiles known image) (found found_names : Bool) → FilesKept known (settled_table found s.more s.table).rows (settled_log found_names s.more_ops s.made).table

-- what was known stays known: more is added at the end
pub record IsKnownLater (before later : Past) : Type 0 where
  pub entries : Ledger
  pub ledger : later.ledger ≡ before.ledger ++ entries
  pub begun : FilesAtSubmission
  pub starts : later.starts ≡ before.starts ++ begun
