-- The end of a request's head (RFC 9112, section 2.2), and its content.
use Rattle.std.specs.Prelude.{◌≡◌, ◌⊎◌, ℕ, ◌<◌, ◌≤◌, List, [], ◌∷◌, ◌++◌, length, take}
use Rattle.httparse.specs.Grammar.{RequestHead, ReadsRequest}

-- the bytes end with this tail
abbrev pub EndsIn : List ℕ → List ℕ → Type 0
EndsIn tail bytes = (front : List ℕ) × (bytes ≡ front ++ tail)

-- the bytes end with an empty line: LF LF, or LF CR LF
abbrev pub EndsHead : List ℕ → Type 0
EndsHead bytes = EndsIn (10 ∷ 10 ∷ []) bytes ⊎ EndsIn (10 ∷ 13 ∷ 10 ∷ []) bytes

-- no prefix of the bytes ends a head
abbrev pub HasNoEnd : List ℕ → Type 0
HasNoEnd bytes = (n : ℕ) → n ≤ length bytes → ¬ EndsHead (take n bytes)

-- The bytes of a head: at most 16,384, up to the first empty line.
pub record IsHeadText (bytes : List ℕ) : Type 0 where
  pub ends : EndsHead bytes
  pub first : (n : ℕ) → n < length bytes → ¬ EndsHead (take n bytes)
  pub fits : length bytes ≤ 16384

-- the bytes are one head of the grammar, with at most 64 fields
abbrev pub IsHead : List ℕ → RequestHead → Type 0
IsHead bytes h = ReadsRequest bytes h [] × (length h.fields ≤ 64)
