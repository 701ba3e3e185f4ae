-- The end of a head, one byte at a time.
use Rattle.std.proofs.Common.{◌≡◌, ℕ, ◌+◌, ◌<◌, ◌≤◌, List, [], ◌∷◌, ◌++◌, length, take, ap, subst, ⊎_elim, arith, length-append}
use Rattle.std.proofs.lemmas.List.{take-append-le, take_all}
use Rattle.std.proofs.lemmas.Bool.{cases_lt}
use Rattle.http_wire.specs.Heads.{EndsIn, EndsHead, HasNoEnd, IsHeadText}

-- a tail is no longer than the bytes
pub ends_fits : (tail bytes : List ℕ) → EndsIn tail bytes → length tail ≤ length bytes
ends_fits tail bytes ends = omega (arith, ap length ends.1, length-append ends.0 tail)

-- an empty line has two bytes
pub head_fits : (bytes : List ℕ) → EndsHead bytes → 2 ≤ length bytes
head_fits bytes ends = ⊎_elim (λ short. ends_fits _ bytes short) (λ long. omega (arith, ends_fits _ bytes long)) ends

pub no_end_nil : HasNoEnd []
no_end_nil n le ends = omega (arith, head_fits [] (subst EndsHead (take_all n [] (omega arith)) ends))

-- the prefixes of the bytes, except all of them
pub no_end_before : (bytes : List ℕ) (b : ℕ) → HasNoEnd bytes → (n : ℕ) → n ≤ length bytes → ¬ EndsHead (take n (bytes ++ b ∷ []))
no_end_before bytes b none n le ends = none n le (subst EndsHead (take-append-le n bytes (b ∷ []) le) ends)

pub no_end_more : (bytes : List ℕ) (b : ℕ) → HasNoEnd bytes → ¬ EndsHead (bytes ++ b ∷ []) → HasNoEnd (bytes ++ b ∷ [])
no_end_more bytes b none last n le ends =
    let grown : length (bytes ++ b ∷ []) ≡ length bytes + 1 = length-append bytes (b ∷ []) in
    ⊎_elim
    (λ late. last (subst EndsHead (take_all n (bytes ++ b ∷ []) (omega arith)) ends))
    (λ early. no_end_before bytes b none n early ends)
    (cases_lt (length bytes) n)

pub head_ended : (bytes : List ℕ) (b : ℕ) → HasNoEnd bytes → EndsHead (bytes ++ b ∷ []) → length bytes < 16384 → IsHeadText (bytes ++ b ∷ [])
head_ended bytes b none ends few =
    let grown : length (bytes ++ b ∷ []) ≡ length bytes + 1 = length-append bytes (b ∷ []) in
    record {
      ends = ends;
      first = λ n below. no_end_before bytes b none n (omega arith);
      fits = omega arith;
    }
