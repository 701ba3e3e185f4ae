use Rattle.std.proofs.Common.{◌≡◌, ◌++◌, ℕ, List, length, take}
use Rattle.name_calls.specs.Paths.{names_text}
use Rattle.image_parts.specs.Parts.{KeepsPart}
use Rattle.name_images.specs.Walks.{names_in}
use Rattle.name_images.proofs.nodes.put_names.Given as goal

abbrev pub invariant-loop-n : goal.invariant-loop-n
invariant-loop-n l = record {
  long : length l.buf ≡ length l.initial.buf;
  held : (all : List ℕ) → KeepsPart l.at l.seen all l.initial.buf → KeepsPart l.at l.told (all ++ names_text (take l.n-index (names_in l.forest.nodes l.path))) l.buf;
}
