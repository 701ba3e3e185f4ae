use Rattle.std.proofs.Common.{◌≡◌, ℕ, Some, length}
use Rattle.std.specs.Prelude.{slice_get}
use Rattle.frozen_nodes.proofs.forest.moves.no_numbers.Given as goal

abbrev pub invariant-fill : goal.invariant-fill
invariant-fill l = record {
  count : length l.numbers.items ≡ l.place;
  none : (k m : ℕ) → slice_get l.numbers.items k ≡ Some (Some m) → ⊥;
}
