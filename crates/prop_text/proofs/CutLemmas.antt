-- Lists of bytes that are split at a byte.
use Rattle.std.proofs.Common.{◌≡◌, ℕ, ◌+◌, ◌-◌, List, [], ◌∷◌, length, take, drop, refl, ap, sym, ◌∙◌, Some, Bool, false, arith}
use Rattle.std.specs.List.{slice_split, position, position_or_len, All}
use Rattle.std.proofs.lemmas.List.{take_rest}
use Rattle.std.proofs.lemmas.List.Sums.{position_or_len_is}
use Rattle.std.proofs.lemmas.List.Splits.{slice_split_first, slice_split_none, length-slice_split}
use Rattle.std.proofs.lemmas.List.Quantifiers.{position-Some}
use Rattle.prop_text.specs.Properties.{ended, is_lf, lines_of, without_cr}

pub split_at : (p : ℕ → Bool) (bytes : List ℕ) (place : ℕ) → position p bytes ≡ Some place → slice_split p bytes ≡ take place bytes ∷ slice_split p (take (length bytes - (place + 1)) (drop (place + 1) bytes))
split_at p bytes place is =
    let found = position-Some p bytes place 0 is in
    let first : position_or_len p bytes ≡ place = position_or_len_is p bytes place 0 (omega (arith, found.0)) found.2 (λ _. found.1) in
    slice_split_first p bytes 0 (omega (arith, found.0, first))
    ∙ ap (λ n. take n bytes ∷ slice_split p (drop (n + 1) bytes)) first
    ∙ ap (λ rest. take place bytes ∷ slice_split p rest) (sym (take_rest bytes (place + 1)))

pub never_empty : (p : ℕ → Bool) (bytes : List ℕ) → slice_split p bytes ≡ [] → ⊥
never_empty p bytes none = omega (arith, length-slice_split p bytes, ap length none)

ended_more : (part : List ℕ) (parts : List (List ℕ)) → (parts ≡ [] → ⊥) → ended (part ∷ parts) ≡ without_cr part ∷ ended parts
ended_more part [] some = absurd (some refl)
ended_more part (next ∷ more) some = refl

pub last_line : (text : List ℕ) → All (λ b. is_lf b ≡ false) text → lines_of text ≡ text ∷ []
last_line text none = ap ended (slice_split_none is_lf text none)

pub first_line : (text : List ℕ) (place : ℕ) → position is_lf text ≡ Some place → lines_of text ≡ without_cr (take place text) ∷ lines_of (take (length text - (place + 1)) (drop (place + 1) text))
first_line text place is =
    let rest = take (length text - (place + 1)) (drop (place + 1) text) in
    ap ended (split_at is_lf text place is) ∙ ended_more (take place text) (slice_split is_lf rest) (never_empty is_lf rest)
