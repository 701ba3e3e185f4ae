-- What is counted of entries, one after another.
use Rattle.std.specs.Prelude.{ℕ, ◌+◌, Bool, true, false, not, List, [], length, is_some, slice_get}
use Rattle.std.specs.List.{count_by, sum_by}
use Rattle.std.specs.Option.{option_map_or}
use Rattle.key_rows.specs.declared.rows.KeyRow.{KeyRow}
use Rattle.key_rows.specs.Table.{find_name}
use Rattle.hk_base.specs.declared.names.KeyName.{KeyName}
use Rattle.inode_tree.specs.declared.rows.Row.{Row}
use Rattle.inode_tree.specs.Rows.{Entry, is_dir, is_marked}
use Rattle.snap_store.specs.Snapshots.{count_of}
use Rattle.zone_table.specs.Statuses.{zone_goes_on}
use Rattle.name_store.specs.Table.{NameTable}
use Rattle.check_run.specs.declared.counts.RowCounts.{RowCounts}
use Rattle.check_run.specs.Summary.{line_of_entry, lost_version}

-- the number of versions of the key with a name
abbrev pub versions_named : List KeyRow → KeyName → ℕ
versions_named keys name = option_map_or (λ row. length row.materials) (find_name keys name) 0

abbrev pub one_if_true : Bool → ℕ
one_if_true true = 1
one_if_true false = 0

abbrev pub no_rows : RowCounts
no_rows = record { directories = 0; files = 0; zones = 0; snapshots = 0; reencryptions = 0; lost = 0 }

-- the counts with one more row
abbrev pub with_row : List KeyRow → NameTable → Row → RowCounts → RowCounts
with_row keys names row c = record {
  directories = c.directories + one_if_true (is_dir row.kind);
  files = c.files + one_if_true (not (is_dir row.kind));
  zones = c.zones + one_if_true (is_marked row);
  snapshots = c.snapshots + count_of names.snaps.taken row.id;
  reencryptions = c.reencryptions + one_if_true (zone_goes_on names.statuses row.id);
  lost = c.lost + one_if_true (is_some (lost_version keys row));
}

-- the counts of entries
abbrev pub row_counts : List KeyRow → NameTable → List Entry → RowCounts
row_counts keys names rows = record {
  directories = count_by (λ e. is_dir e.row.kind) rows;
  files = count_by (λ e. not (is_dir e.row.kind)) rows;
  zones = count_by (λ e. is_marked e.row) rows;
  snapshots = sum_by (λ e. count_of names.snaps.taken e.row.id) rows;
  reencryptions = count_by (λ e. zone_goes_on names.statuses e.row.id) rows;
  lost = count_by (λ e. is_some (lost_version keys e.row)) rows;
}

-- the line of the entry at a place
abbrev pub line_at : List KeyRow → List Entry → ℕ → List ℕ
line_at keys rows at = option_map_or (line_of_entry keys) (slice_get rows at) []
