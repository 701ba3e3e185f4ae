use Rattle.std.proofs.Common.{◌≡◌, ◌++◌, ℕ, List, length, take}
use Rattle.std.specs.Int.{w64, to_be_bytes}
use Rattle.edit_ops.specs.Records.{list_field}
use Rattle.image_parts.specs.Parts.{KeepsPart}
use Rattle.name_images.proofs.fields.put_ids.Given as goal

abbrev pub invariant-loop-id : goal.invariant-loop-id
invariant-loop-id l = record {
  long : length l.buf ≡ length l.initial.buf;
  held : (all : List ℕ) → KeepsPart l.at l.seen all l.initial.buf → KeepsPart l.at l.told (all ++ list_field (to_be_bytes w64) (take l.id-index l.ids)) l.buf;
}
