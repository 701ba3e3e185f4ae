use Rattle.std.proofs.Common.{◌≡◌, ◌<◌, ℕ, get_or}
use Rattle.rand_core.specs.Steps.{u32_at}
use Rattle.disk_kinds.proofs.words.ChaWords.from_words.Given as goal

abbrev pub invariant-loop-i : goal.invariant-loop-i
invariant-loop-i l = (j : ℕ) → j < l.i → u32_at l.seed j ≡ get_or l.words j 0
