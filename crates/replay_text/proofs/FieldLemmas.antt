-- Fields of a line.
use Rattle.std.proofs.Common.{◌≡◌, ℕ, ◌+◌, ◌-◌, List, [], ◌∷◌, length, take, drop, refl, ap, sym, ◌∙◌, Some, get_or, Bool, arith}
use Rattle.std.specs.List.{position, position_or_len, slice_split}
use Rattle.std.proofs.lemmas.List.{take_rest}
use Rattle.std.proofs.lemmas.List.Sums.{position_or_len_is}
use Rattle.std.proofs.lemmas.List.Splits.{slice_split_first, length-slice_split}
use Rattle.std.proofs.lemmas.List.Quantifiers.{position-Some}
use Rattle.replay_text.specs.Events.{IsQuietLine}

pub split_at : (p : ℕ → Bool) (bytes : List ℕ) (place : ℕ) → position p bytes ≡ Some place → slice_split p bytes ≡ take place bytes ∷ slice_split p (take (length bytes - (place + 1)) (drop (place + 1) bytes))
split_at p bytes place is =
    let found = position-Some p bytes place 0 is in
    let first : position_or_len p bytes ≡ place = position_or_len_is p bytes place 0 (omega (arith, found.0)) found.2 (λ _. found.1) in
    slice_split_first p bytes 0 (omega (arith, found.0, first))
    ∙ ap (λ n. take n bytes ∷ slice_split p (drop (n + 1) bytes)) first
    ∙ ap (λ rest. take place bytes ∷ slice_split p rest) (sym (take_rest bytes (place + 1)))

pub never_empty : (p : ℕ → Bool) (bytes : List ℕ) → slice_split p bytes ≡ [] → ⊥
never_empty p bytes none = omega (arith, length-slice_split p bytes, ap length none)

pub not_quiet : (line : List ℕ) → (length line ≡ 0 → ⊥) → (get_or line 0 0 ≡ 35 → ⊥) → ¬ IsQuietLine line
not_quiet [] some other = λ _. some refl
not_quiet (b ∷ bs) some other = λ quiet. other quiet.0
