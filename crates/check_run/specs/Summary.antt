-- What a check sums up of the tables that both logs make, and the lines that it writes.
use Rattle.std.specs.Prelude.{ℕ, Bool, not, List, [], ◌++◌, length, codes, Option, Some, None, is_some, option_and_then, if◌then◌else◌}
use Rattle.std.specs.Fmt.{decimal}
use Rattle.std.specs.List.{count_by, flat_map, sum_by}
use Rattle.std.specs.Option.{option_map_or}
use Rattle.hk_base.specs.declared.names.VersionName.{VersionName}
use Rattle.hk_base.specs.Names.{version_text}
use Rattle.key_rows.specs.declared.rows.KeyRow.{KeyRow}
use Rattle.key_rows.specs.Table.{Table, material_of}
use Rattle.inode_tree.specs.declared.rows.Row.{Row}
use Rattle.inode_tree.specs.Rows.{Entry, is_dir, is_marked}
use Rattle.inode_tree.specs.ZoneFiles.{edek_of}
use Rattle.zone_table.specs.Statuses.{zone_goes_on}
use Rattle.name_store.specs.Table.{NameTable}
use Rattle.name_text.specs.Answers.{escaped_path}
use Rattle.check_run.specs.declared.counts.CheckCounts.{CheckCounts}

-- a key has the version
abbrev pub has_version : List KeyRow → VersionName → Bool
has_version keys version = is_some (material_of keys version)

abbrev pub unless_kept : List KeyRow → VersionName → Option VersionName
unless_kept keys version = if has_version keys version then None else Some version

-- the version that the encrypted key of a file is under, if no key has it: the file is lost
abbrev pub lost_version : List KeyRow → Row → Option VersionName
lost_version keys row = option_and_then (λ edek. unless_kept keys edek.version) (edek_of row.kind)

-- the line of a lost file
abbrev pub lost_line : List (List ℕ) → VersionName → List ℕ
lost_line path version = codes "lost " ++ escaped_path path ++ codes " " ++ version_text version.key version.number ++ codes "\n"

-- the line of an entry, which has one only if it is a lost file
abbrev pub line_of_entry : List KeyRow → Entry → List ℕ
line_of_entry keys e = option_map_or (lost_line e.path) (lost_version keys e.row) []

-- The numbers of keys, of their versions, of directories with the root, of files, of zones, of snapshots, of zones whose re-encryption goes on,
-- and of lost files.
abbrev pub check_counts : Table → NameTable → CheckCounts
check_counts keys names = record {
  keys = length keys.rows;
  versions = sum_by (λ row. length row.materials) keys.rows;
  directories = count_by (λ e. is_dir e.row.kind) names.rows;
  files = count_by (λ e. not (is_dir e.row.kind)) names.rows;
  zones = count_by (λ e. is_marked e.row) names.rows;
  snapshots = length names.snaps.taken;
  reencryptions = count_by (λ e. zone_goes_on names.statuses e.row.id) names.rows;
  lost = count_by (λ e. is_some (lost_version keys.rows e.row)) names.rows;
}

-- the line of these numbers
unfoldable pub counts_line : CheckCounts → List ℕ
counts_line c =
    codes "check keys=" ++ decimal c.keys
    ++ codes " versions=" ++ decimal c.versions
    ++ codes " directories=" ++ decimal c.directories
    ++ codes " files=" ++ decimal c.files
    ++ codes " zones=" ++ decimal c.zones
    ++ codes " snapshots=" ++ decimal c.snapshots
    ++ codes " reencryptions=" ++ decimal c.reencryptions
    ++ codes " lost=" ++ decimal c.lost
    ++ codes "\n"

-- a line for each lost file in path order, and the line of the numbers
abbrev pub check_text : Table → NameTable → List ℕ
check_text keys names = flat_map (line_of_entry keys.rows) names.rows ++ counts_line (check_counts keys names)
