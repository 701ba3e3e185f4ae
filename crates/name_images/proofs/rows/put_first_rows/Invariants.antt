use Rattle.std.proofs.Common.{◌≡◌, ◌++◌, ℕ, List, length, take}
use Rattle.edit_ops.specs.Records.{list_field}
use Rattle.image_parts.specs.Parts.{KeepsPart}
use Rattle.name_images.specs.Fields.{row_field}
use Rattle.name_images.proofs.rows.put_first_rows.Given as goal

abbrev pub invariant-loop-place : goal.invariant-loop-place
invariant-loop-place l = record {
  long : length l.buf ≡ length l.initial.buf;
  held : (all : List ℕ) → KeepsPart l.at l.seen all l.initial.buf → KeepsPart l.at l.told (all ++ list_field row_field (take l.place l.tree.rows)) l.buf;
}
