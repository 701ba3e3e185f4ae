use Rattle.key_images.proofs.Passing.{Passed}
use Rattle.key_images.proofs.keys.add_keys.Given as goal

abbrev pub invariant-loop : goal.invariant-loop
invariant-loop l = Passed l.bytes l.end l.fn.index.index l.counter l.low l.rest l.index.index
