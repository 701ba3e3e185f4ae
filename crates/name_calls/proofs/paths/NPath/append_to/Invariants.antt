use Rattle.std.proofs.Common.{◌≡◌, ◌++◌, take}
use Rattle.name_calls.specs.Paths.{names_text}
use Rattle.name_calls.proofs.paths.NPath.append_to.Given as goal

abbrev pub invariant-loop-name : goal.invariant-loop-name
invariant-loop-name l = l.out ≡ l.initial.out ++ names_text (take l.name-index l.name-items)
