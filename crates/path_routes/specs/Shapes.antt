-- Paths split at their slashes (RFC 3986, section 3.3), and their shapes in routes.
use Rattle.std.specs.Prelude.{◌≡◌, ◌≢◌, ◌==◌, ℕ, List, [], ◌∷◌, Option, None, Some, cond}

-- the first segment with one more byte before it
abbrev pub onto : ℕ → List (List ℕ) → List (List ℕ)
onto b [] = (b ∷ []) ∷ []
onto b (s ∷ rest) = (b ∷ s) ∷ rest

-- the segments of a path: the parts between its slashes. The first segment of a path that begins with a slash is empty
abbrev pub segments : List ℕ → List (List ℕ)
segments [] = [] ∷ []
segments (b ∷ rest) = cond (b == 47) ([] ∷ segments rest) (onto b (segments rest))

-- the segments of a route: a text each, or None for an open one. All open segments have the same value
abbrev pub Shape : Type 0
Shape = List (Option (List ℕ))

-- the segments of a shape, with this part at each open one
abbrev pub filled : Shape → List ℕ → List (List ℕ)
filled [] k = []
filled (Some text ∷ shape) k = text ∷ filled shape k
filled (None ∷ shape) k = k ∷ filled shape k

-- the open part is not empty; without an open segment it is empty
abbrev pub Fills : Shape → List ℕ → Type 0
Fills [] k = k ≡ []
Fills (Some text ∷ shape) k = Fills shape k
Fills (None ∷ shape) k = k ≢ []

-- the path has the segments of the shape, with this open part
abbrev pub FitsShape : List ℕ → Shape → List ℕ → Type 0
FitsShape path shape k = (segments path ≡ filled shape k) × Fills shape k

-- no byte is a slash
abbrev pub HasNoSlash : List ℕ → Type 0
HasNoSlash [] = Unit {0}
HasNoSlash (b ∷ rest) = (b ≢ 47) × HasNoSlash rest

-- one segment of at least one byte
abbrev pub IsSegment : List ℕ → Type 0
IsSegment k = (k ≢ []) × HasNoSlash k
