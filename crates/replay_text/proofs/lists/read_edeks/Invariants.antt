use Rattle.std.proofs.Common.{length}
use Rattle.replay_text.proofs.ListLemmas.{SentSoFar}
use Rattle.replay_text.proofs.lists.read_edeks.Given as goal

abbrev pub invariant-parts : goal.invariant-parts
invariant-parts l = SentSoFar l.fn.bytes l.rest l.edeks

abbrev pub decreases-parts : goal.decreases-parts
decreases-parts l = length l.rest
