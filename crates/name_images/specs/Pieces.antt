-- A status in two pieces.
use Rattle.std.specs.Prelude.{ℕ, List, ◌++◌}
use Rattle.std.specs.Int.{w64, to_be_bytes}
use Rattle.edit_ops.specs.Records.{opt_field, path_field, version_field}
use Rattle.zone_table.specs.declared.statuses.StatusRow.{StatusRow}
use Rattle.name_images.specs.Fields.{truth_field}

-- the bytes of a status up to its mark, and from its mark on

abbrev pub status_head : StatusRow → List ℕ
status_head s = to_be_bytes w64 s.zone ++ (to_be_bytes w64 s.session ++ (version_field s.noted ++ (truth_field s.completed ++ truth_field s.cancelled)))

abbrev pub status_rest : StatusRow → List ℕ
status_rest s = opt_field path_field s.mark ++ (to_be_bytes w64 s.reencrypted ++ to_be_bytes w64 s.failed)
