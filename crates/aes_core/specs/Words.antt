-- A column of the state, or a word of a key, as one 32-bit number, whose lowest byte is that of row 0.
use Rattle.std.specs.Prelude.{ℕ, ◌*◌, ◌/◌, ◌%◌, ◌^◌, List, [], ◌∷◌, ◌++◌, slice_index}
use Rattle.aes_core.specs.Field.{field_product}
use Rattle.aes_core.specs.Aes.{mixed}

-- the byte of a word in row r
unfoldable pub byte_of : ℕ → ℕ → ℕ
byte_of word r = word / 2 ^ (8 * r) % 2 ^ 8

-- the four bytes of a word
abbrev pub word_bytes : ℕ → List ℕ
word_bytes word = byte_of word 0 ∷ byte_of word 1 ∷ byte_of word 2 ∷ byte_of word 3 ∷ []

-- the state of four columns
abbrev pub state_bytes : List ℕ → List ℕ
state_bytes columns = word_bytes (slice_index columns 0) ++ word_bytes (slice_index columns 1) ++ word_bytes (slice_index columns 2) ++ word_bytes (slice_index columns 3)

-- the product of the matrix of MixColumns and a column
abbrev pub mixed_word : ℕ → ℕ → ℕ → ℕ → List ℕ
mixed_word a b c d = mixed a b c d ∷ mixed b c d a ∷ mixed c d a b ∷ mixed d a b c ∷ []

-- a byte times column 0, 1, 2 and 3 of the matrix of MixColumns
abbrev pub times_0 : ℕ → List ℕ
times_0 s = field_product 2 s ∷ s ∷ s ∷ field_product 3 s ∷ []

abbrev pub times_1 : ℕ → List ℕ
times_1 s = field_product 3 s ∷ field_product 2 s ∷ s ∷ s ∷ []

abbrev pub times_2 : ℕ → List ℕ
times_2 s = s ∷ field_product 3 s ∷ field_product 2 s ∷ s ∷ []

abbrev pub times_3 : ℕ → List ℕ
times_3 s = s ∷ s ∷ field_product 3 s ∷ field_product 2 s ∷ []
