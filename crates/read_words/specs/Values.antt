-- The values of the words of `read`: who reads, the path of the file, the first byte of the range, and the number of its bytes.
use Rattle.std.specs.Prelude.{◌≡◌, ◌<◌, ◌^◌, ℕ, List, [], ◌∷◌, codes, Option, Some, None}
use Rattle.std.specs.Fmt.{decimal}
use Rattle.clap.specs.Words.{Row, Text, first_of}
use Rattle.clap_lines.specs.Orders.{IsPlain, IsRightUser, number_in, user_in}
use Rattle.read_words.specs.declared.values.ReadValues.{ReadValues}

abbrev pub path_in : List Row → Option Text
path_in rows = first_of (codes "path") rows

abbrev pub from_in : List Row → Option ℕ
from_in rows = number_in (codes "from") rows

abbrev pub count_in : List Row → Option ℕ
count_in rows = number_in (codes "count") rows

abbrev pub read_values : Option Text → Option Text → Option ℕ → Option ℕ → Option ReadValues
read_values (Some user) (Some path) (Some from) (Some count) = Some (record { user = user; path = path; from = from; count = count })
read_values (Some user) (Some path) (Some from) None = None
read_values (Some user) (Some path) None count = None
read_values (Some user) None from count = None
read_values None path from count = None

-- the values that the words of a command give
abbrev pub read_values_in : List Row → Option ReadValues
read_values_in rows = read_values (user_in rows) (path_in rows) (from_in rows) (count_in rows)

-- the user and the numbers are in their bounds
abbrev pub IsRightRead : Text → ℕ → ℕ → Type 0
IsRightRead user from count = IsRightUser user × (from < 2 ^ 63) × (count < 2 ^ 63)

-- the words that name the command with these values, and nothing else
abbrev pub SpellsRead : Text → Text → ℕ → ℕ → List Text → Type 0
SpellsRead user path from count words =
    IsRightRead user from count × IsPlain user × IsPlain path × (words ≡ codes "read" ∷ user ∷ path ∷ decimal from ∷ decimal count ∷ [])
