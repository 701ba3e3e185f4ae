-- Paths above others.
use Rattle.std.proofs.Common.{◌≡◌, ℕ, ◌≤◌, true, List, [], ◌∷◌, length, arith}
use Rattle.std.specs.Str.{bytes_eq}
use Rattle.std.proofs.lemmas.Bool.{and_parts}
use Rattle.name_calls.specs.Paths.{is_prefix}

pub prefix-length : (a p : List (List ℕ)) → is_prefix a p ≡ true → length a ≤ length p
prefix-length [] p h = omega arith
prefix-length (x ∷ a) [] h = cc
prefix-length (x ∷ a) (y ∷ p) h = let i : length a ≤ length p = prefix-length a p (and_parts (bytes_eq x y) (is_prefix a p) h).1 in omega arith
