-- What a reply to the call for a batch changes.
use Rattle.std.specs.Prelude.{ℕ, Bool, false, not, ◌&&◌, ◌-◌, List, [], ◌∷◌, length, if◌then◌else◌}
use Rattle.std.specs.Option.{option_map_or}
use Rattle.hk_base.specs.Names.{Encrypted}
use Rattle.edit_ops.specs.declared.files.FileKey.{FileKey}
use Rattle.inode_tree.specs.Rows.{Entry, entry_of}
use Rattle.inode_tree.specs.ZoneFiles.{edek_of, is_file_of}
use Rattle.reenc_walk.specs.declared.sent.Sent.{Sent}
use Rattle.reenc_walk.specs.Files.{same_edek}
pub use Rattle.reenc_update.specs.declared.changes.Changes.{Changes}
use Rattle.reenc_update.specs.declared.reply.BatchResult.{BatchResult}
use Rattle.reenc_update.specs.declared.reply.BatchResult.TheVariants.{Refused, Ready}

-- the row is a file of the zone with this encrypted key
abbrev pub has_edek : List Entry → ℕ → Encrypted → Entry → Bool
has_edek rows zone sent e = is_file_of rows zone e && option_map_or (same_edek sent) (edek_of e.row.kind) false

-- the file is still in the zone with the encrypted key that was sent, and another one came back
abbrev pub is_changed : List Entry → ℕ → Sent → Encrypted → Bool
is_changed rows zone x edek = option_map_or (has_edek rows zone x.edek) (entry_of rows x.id) false && not (same_edek x.edek edek)

-- the files of a batch that get what came back for them
abbrev pub changed : List Entry → ℕ → List Sent → List Encrypted → List FileKey
changed rows zone [] edeks = []
changed rows zone (x ∷ xs) [] = []
changed rows zone (x ∷ xs) (e ∷ es) = if is_changed rows zone x e then record { id = x.id; edek = e } ∷ changed rows zone xs es else changed rows zone xs es

-- each file of the batch failed
abbrev pub all_failed : List Sent → Changes
all_failed sent = record { files = []; skipped = 0; failed = length sent }

abbrev pub changes_of : List Entry → ℕ → List Sent → BatchResult → Changes
changes_of rows zone sent Refused = all_failed sent
changes_of rows zone sent (Ready edeks) = record { files = changed rows zone sent edeks; skipped = length sent - length (changed rows zone sent edeks); failed = 0 }
