-- Lists in the order of a comparison.
use Rattle.std.specs.Prelude.{◌≡◌, true, List, [], ◌∷◌, if◌then◌else◌, ⊤}
use Rattle.std.specs.declared.cmp.Ordering.{Ordering}
use Rattle.std.specs.Ordering.{is_lt}

-- each comes after x
abbrev pub AllAfterBy : {A : Type 0} → (A → A → Ordering) → A → List A → Type 0
AllAfterBy cmp x [] = ⊤
AllAfterBy cmp x (y ∷ ys) = (is_lt (cmp x y) ≡ true) × AllAfterBy cmp x ys

-- each comes after those before it
abbrev pub IsRisingBy : {A : Type 0} → (A → A → Ordering) → List A → Type 0
IsRisingBy cmp [] = ⊤
IsRisingBy cmp (x ∷ xs) = AllAfterBy cmp x xs × IsRisingBy cmp xs

-- put in at its place
abbrev pub put_by : {A : Type 0} → (A → A → Ordering) → A → List A → List A
put_by cmp x [] = x ∷ []
put_by cmp x (y ∷ ys) = if is_lt (cmp x y) then x ∷ y ∷ ys else y ∷ put_by cmp x ys
