use Rattle.std.proofs.Common.{◌≡◌, ◌++◌, ℕ, List, length, take}
use Rattle.edit_ops.specs.Records.{list_field}
use Rattle.frozen_nodes.specs.Forest.{node_at}
use Rattle.image_parts.specs.Parts.{KeepsPart}
use Rattle.name_images.specs.Fields.{row_field}
use Rattle.name_images.specs.Walks.{names_in}
use Rattle.name_images.proofs.Led.{first_rows}
use Rattle.name_images.proofs.nodes.+put_below.Given as goal

abbrev pub invariant-loop-kid : goal.invariant-loop-kid
invariant-loop-kid l = record {
  long : length l.buf ≡ length l.fn.buf;
  room : length l.path ≡ 100;
  path : take l.depth l.path ≡ take l.depth l.fn.path;
  held : (all : List ℕ) → KeepsPart l.at l.seen all l.fn.buf
      → KeepsPart l.at l.told (all ++ list_field row_field (first_rows l.forest.nodes (names_in l.forest.nodes (take l.depth l.fn.path)) l.n (take l.kid-index (node_at l.forest.nodes l.n).kids))) l.buf;
}

abbrev pub decreases-put_below : goal.decreases-put_below
decreases-put_below l = l.n
