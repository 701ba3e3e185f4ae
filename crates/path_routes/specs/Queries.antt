-- The target of a request (RFC 9112, section 3.2.1): a path, and a query after the first `?`.
use Rattle.std.specs.Prelude.{◌≡◌, ◌≤◌, ◌==◌, ℕ, Bool, List, [], ◌∷◌, length, map, if◌then◌else◌}
use Rattle.std.specs.List.{after_first, before_first, slice_split}
use Rattle.std.specs.Str.{bytes_eq}
use Rattle.percent_encoding.specs.Percent.{percent_decode}
use Rattle.path_routes.specs.declared.query.Parameter.{Parameter}
use Rattle.path_routes.specs.declared.query.Given.{Given}
use Rattle.path_routes.specs.declared.query.Given.TheVariants as given

abbrev pub is_question_mark : ℕ → Bool
is_question_mark b = b == 63

abbrev pub is_ampersand : ℕ → Bool
is_ampersand b = b == 38

abbrev pub is_equals_sign : ℕ → Bool
is_equals_sign b = b == 61

abbrev pub path_of : List ℕ → List ℕ
path_of target = before_first is_question_mark target

abbrev pub query_of : List ℕ → List ℕ
query_of target = after_first is_question_mark target

-- a part of a query: its name and its value, split at the first `=` and percent-decoded. A `+` is kept, and
-- so is a `%` without two hexadecimal digits after it. An empty part has an empty name and value
abbrev pub parameter : List ℕ → Parameter
parameter piece = record { name = percent_decode (before_first is_equals_sign piece); value = percent_decode (after_first is_equals_sign piece) }

-- the parameters of a query, in order
abbrev pub parameters : List ℕ → List Parameter
parameters query = map parameter (slice_split is_ampersand query)

-- the values that a query gives to a name, in order
abbrev pub values : List ℕ → List Parameter → List (List ℕ)
values name [] = []
values name (p ∷ ps) = if bytes_eq p.name name then p.value ∷ values name ps else values name ps

-- whether a name has no value, one value, or more
abbrev pub IsGiven : List (List ℕ) → Given → Type 0
IsGiven found given.Absent = found ≡ []
IsGiven found (given.Once value) = found ≡ value.now ∷ []
IsGiven found given.Repeated = 2 ≤ length found
