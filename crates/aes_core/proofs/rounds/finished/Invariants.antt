use Rattle.std.proofs.Common.{◌≡◌, ◌-◌, ℕ, List}
use Rattle.aes_core.specs.Aes.{state_after}
use Rattle.aes_core.specs.Words.{state_bytes}
use Rattle.aes_core.proofs.rounds.finished.Given as goal

abbrev pub invariant-loop-round : goal.invariant-loop-round
invariant-loop-round g l =
    (block : List ℕ) → state_bytes l.fn.columns ≡ state_after l.words block (l.from - 1) → state_bytes l.columns ≡ state_after l.words block (l.round - 1)
