use Rattle.std.proofs.Common.{◌≡◌, ◌++◌, ℕ, List, length, take}
use Rattle.name_calls.specs.Paths.{names_text}
use Rattle.image_parts.specs.Parts.{KeepsPart}
use Rattle.name_images.proofs.fields.put_names.Given as goal

abbrev pub invariant-loop-k : goal.invariant-loop-k
invariant-loop-k l = record {
  long : length l.buf ≡ length l.initial.buf;
  held : (all : List ℕ) → KeepsPart l.at l.seen all l.initial.buf → KeepsPart l.at l.told (all ++ names_text (take l.k l.path)) l.buf;
}
