-- The files of a zone.
use Rattle.std.specs.Prelude.{ℕ, Bool, ◌&&◌, List, [], length, drop, Option, Some, None, is_some}
use Rattle.std.specs.Option.{option_map_or}
use Rattle.hk_base.specs.Names.{Encrypted}
use Rattle.inode_tree.specs.declared.rows.Kind.{Kind}
use Rattle.inode_tree.specs.declared.rows.Kind.TheVariants.{Dir, File}
use Rattle.inode_tree.specs.Rows.{Entry, entry_of, same_id, zone_id}

-- the encrypted key of a file
abbrev pub edek_of : Kind → Option Encrypted
edek_of (Dir key) = None
edek_of (File edek) = edek

-- a row with an encrypted key that lies in the zone: each file of a zone has such a key
abbrev pub is_file_of : List Entry → ℕ → Entry → Bool
is_file_of rows zone e = is_some (edek_of e.row.kind) && same_id (zone_id rows e.path) (Some zone)

-- the path of the directory of a zone
abbrev pub zone_path : List Entry → ℕ → List (List ℕ)
zone_path rows zone = option_map_or (λ e. e.path) (entry_of rows zone) []

-- the path of a row without that of the directory
abbrev pub path_in : List Entry → ℕ → List (List ℕ) → List (List ℕ)
path_in rows zone p = drop (length (zone_path rows zone)) p
