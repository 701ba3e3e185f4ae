use Rattle.std.proofs.Common.{◌≡◌, length, take}
use Rattle.name_calls.specs.Paths.{names_text}
use Rattle.name_images.proofs.fields.text_len.Given as goal

abbrev pub invariant-loop-k : goal.invariant-loop-k
invariant-loop-k l = l.len ≡ length (names_text (take l.k l.path))
