use Rattle.std.proofs.Common.{◌≡◌, map, take}
use Rattle.name_calls.proofs.paths.texts_of.Given as goal

abbrev pub invariant-loop-name : goal.invariant-loop-name
invariant-loop-name l = l.texts.items ≡ map (λ x. x.now) (take l.name-index l.names)
