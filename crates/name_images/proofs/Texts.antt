-- The texts of paths, by the numbers of their names.
use Rattle.std.proofs.Common.{◌≡◌, ℕ, List, [], ◌∷◌, length, refl, arith}
use Rattle.name_calls.specs.Paths.{names_text, path_text}

pub none-text : (p : List (List ℕ)) → length p ≡ 0 → path_text p ≡ 47 ∷ []
none-text [] e = refl
none-text (x ∷ p) e = absurd (omega (arith, e))

pub some-text : (p : List (List ℕ)) → (length p ≡ 0 → ⊥) → names_text p ≡ path_text p
some-text [] h = absurd (h refl)
some-text (x ∷ p) h = refl
