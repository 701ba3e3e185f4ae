use Rattle.std.proofs.Common.{◌≡◌, ◌≤◌, ◌-◌, length, take}
use Rattle.name_calls.specs.Paths.{names_text}
use Rattle.row_copies.proofs.paths.text_len.Given as goal

abbrev pub invariant-names : goal.invariant-names
invariant-names l = record { upto : l.k ≤ length l.path; len : l.len ≡ length (names_text (take l.k l.path)) }

abbrev pub decreases-names : goal.decreases-names
decreases-names l = length l.path - l.k
