use Rattle.std.proofs.Common.{◌≡◌, ◌≤◌, length, take}
use Rattle.name_calls.specs.Paths.{names_text}
use Rattle.name_images.specs.Walks.{names_in}
use Rattle.name_images.proofs.nodes.text_len.Given as goal

abbrev pub invariant-loop-n : goal.invariant-loop-n
invariant-loop-n l = record {
  sum : l.len ≡ length (names_text (take l.n-index (names_in l.forest.nodes l.path)));
  most : l.len ≤ 8000;
}
