use Rattle.std.proofs.Common.{◌≡◌, ◌++◌, ℕ, List, length, take}
use Rattle.name_calls.specs.Paths.{names_text}
use Rattle.frozen_nodes.specs.Copies.{path_at}
use Rattle.image_parts.specs.Parts.{KeepsPart}
use Rattle.name_images.proofs.rows.put_names.Given as goal

abbrev pub invariant-loop-k : goal.invariant-loop-k
invariant-loop-k l = record {
  long : length l.buf ≡ length l.initial.buf;
  held : (all : List ℕ) → KeepsPart l.at l.seen all l.initial.buf → KeepsPart l.at l.told (all ++ names_text (take l.k (path_at l.tree.rows l.place))) l.buf;
}
