use Rattle.key_images.proofs.Moves.{Moved}
use Rattle.key_images.proofs.moving.relocate.Given as goal

abbrev pub invariant-loop-number : goal.invariant-loop-number
invariant-loop-number l = Moved l.fn.index.index l.at l.number l.place l.index.index
