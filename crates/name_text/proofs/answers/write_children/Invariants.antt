use Rattle.std.proofs.Common.{◌≡◌, ◌++◌, take}
use Rattle.std.specs.List.{flat_map}
use Rattle.std.specs.String.{string_bytes}
use Rattle.name_text.specs.Answers.{child_part}
use Rattle.name_text.proofs.answers.write_children.Given as goal

abbrev pub invariant-children : goal.invariant-children
invariant-children l = string_bytes l.out ≡ string_bytes l.fn.out ++ flat_map child_part (take l.child-index l.children)
