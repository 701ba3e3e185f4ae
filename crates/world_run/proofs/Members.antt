-- Members of lists, and values kept under numbers.
use Rattle.std.proofs.Common.{◌≡◌, ◌⊎◌, inl, inr, ℕ, zero, suc, Bool, true, false, cond, List, [], ◌∷◌, ◌++◌, length, map, take, drop, filter, find, Option, None, Some, slice_get, refl, sym, ap, ◌∙◌, subst, arith}
use Rattle.std.specs.List.{AllByRecursion, cons_option, filter_map}
use Rattle.world_run.specs.Promise.{In}
use Rattle.world_run.specs.World.{numbered}

pub in-append : {X : Type 0} (x : X) (xs ys : List X) → In x (xs ++ ys) → In x xs ⊎ In x ys
in-append x [] ys p = inr p
in-append x (z ∷ xs) ys (inl e) = inl (inl e)
in-append x (z ∷ xs) ys (inr p) = elim (in-append x xs ys p) [ inl q ↦ inl (inr q) | inr q ↦ inr q ]

pub in-left : {X : Type 0} (x : X) (xs ys : List X) → In x xs → In x (xs ++ ys)
in-left x [] ys p = absurd p
in-left x (z ∷ xs) ys (inl e) = inl e
in-left x (z ∷ xs) ys (inr p) = inr (in-left x xs ys p)

pub in-right : {X : Type 0} (x : X) (xs ys : List X) → In x ys → In x (xs ++ ys)
in-right x [] ys p = p
in-right x (z ∷ xs) ys p = inr (in-right x xs ys p)

-- a member of a list with one more
pub in-more : {X : Type 0} (x y : X) (xs : List X) → In x (xs ++ y ∷ []) → In x xs ⊎ (x ≡ y)
in-more x y xs p = elim (in-append x xs (y ∷ []) p) [ inl q ↦ inl q | inr q ↦ elim q [ inl e ↦ inr e | inr n ↦ absurd n ] ]

-- what is true of each element is true of a member
pub each-in : {X : Type 0} (P : X → Type 0) (xs : List X) (x : X) → AllByRecursion P xs → In x xs → P x
each-in P [] x each i = absurd i
each-in P (y ∷ xs) x each (inl is) = subst P (sym is) each.0
each-in P (y ∷ xs) x each (inr i) = each-in P xs x each.1 i

-- what is found is a member
pub found-in : {X : Type 0} (p : X → Bool) (xs : List X) (x : X) → find p xs ≡ Some x → In x xs
found-in p [] x h = absurd cc
found-in {X = X} p (y ∷ xs) x h = go (p y) (found-in p xs x) h
  where
    go : (b : Bool) → (find p xs ≡ Some x → In x xs) → cond b (Some y) (find p xs) ≡ Some x → In x (y ∷ xs)
    go true ih h = let is : y ≡ x = cc in inl (sym is)
    go false ih h = inr (ih h)

pub in-map : {X Y : Type 0} (f : X → Y) (y : Y) (xs : List X) → In y (map f xs) → (x : X) × In x xs × (y ≡ f x)
in-map f y [] p = absurd p
in-map f y (x ∷ xs) (inl e) = (x, inl refl, e)
in-map f y (x ∷ xs) (inr p) = let q = in-map f y xs p in (q.0, inr q.1, q.2)

pub some-is : {X : Type 0} (x y : X) → Some x ≡ Some y → x ≡ y
some-is x y h = cc

pub got-in : {X : Type 0} (xs : List X) (n : ℕ) (x : X) → slice_get xs n ≡ Some x → In x xs
got-in [] n x h = absurd cc
got-in (y ∷ xs) zero x h = inl (sym (some-is y x h))
got-in (y ∷ xs) (suc n) x h = inr (got-in xs n x h)

pub numbered-in : {X : Type 0} (xs : List X) (n : ℕ) (x : X) → numbered xs n ≡ Some x → In x xs
numbered-in xs zero x h = absurd cc
numbered-in xs (suc n) x h = got-in xs n x h

got-more : {X : Type 0} (xs : List X) (y : X) (n : ℕ) (x : X) → slice_get (xs ++ y ∷ []) n ≡ Some x → (slice_get xs n ≡ Some x) ⊎ ((n ≡ length xs) × (x ≡ y))
got-more [] y zero x h = inr (refl, sym (some-is y x h))
got-more [] y (suc n) x h = absurd cc
got-more (z ∷ xs) y zero x h = inl h
got-more (z ∷ xs) y (suc n) x h = elim (got-more xs y n x h) [ inl g ↦ inl g | inr g ↦ inr (ap suc g.0, g.1) ]

-- a value in a list with one more: one of the values before, or the new one under the next number
pub numbered-more : {X : Type 0} (xs : List X) (y : X) (n : ℕ) (x : X) → numbered (xs ++ y ∷ []) n ≡ Some x → (numbered xs n ≡ Some x) ⊎ ((n ≡ suc (length xs)) × (x ≡ y))
numbered-more xs y zero x h = absurd cc
numbered-more xs y (suc n) x h = elim (got-more xs y n x h) [ inl g ↦ inl g | inr g ↦ inr (ap suc g.0, g.1) ]

got-within : {X : Type 0} (xs : List X) (n : ℕ) (x : X) → slice_get xs n ≡ Some x → n ≡ length xs → ⊥
got-within [] n x h e = absurd cc
got-within (y ∷ xs) zero x h e = absurd (omega (arith, e))
got-within (y ∷ xs) (suc n) x h e = got-within xs n x h (omega (arith, e))

-- nothing is kept under the next number yet
pub numbered-within : {X : Type 0} (xs : List X) (n : ℕ) (x : X) → numbered xs n ≡ Some x → n ≡ suc (length xs) → ⊥
numbered-within xs zero x h e = absurd cc
numbered-within xs (suc n) x h e = got-within xs n x h (omega (arith, e))

got-beside : {X Y : Type 0} (xs : List X) (ys : List Y) (n : ℕ) (x : X) → length ys ≡ length xs → slice_get xs n ≡ Some x → (y : Y) × (slice_get ys n ≡ Some y)
got-beside [] ys n x same h = absurd cc
got-beside (z ∷ xs) [] n x same h = absurd (omega (arith, same))
got-beside (z ∷ xs) (y ∷ ys) zero x same h = (y, refl)
got-beside (z ∷ xs) (y ∷ ys) (suc n) x same h = got-beside xs ys n x (omega (arith, same)) h

-- the value under the same number in another list of the same length
pub numbered-beside : {X Y : Type 0} (xs : List X) (ys : List Y) (n : ℕ) (x : X) → length ys ≡ length xs → numbered xs n ≡ Some x → (y : Y) × (numbered ys n ≡ Some y)
numbered-beside xs ys zero x same h = absurd cc
numbered-beside xs ys (suc n) x same h = got-beside xs ys n x same h

-- members of parts of lists

pub map-in : {X Y : Type 0} (f : X → Y) (x : X) (xs : List X) → In x xs → In (f x) (map f xs)
map-in f x [] i = absurd i
map-in f x (y ∷ xs) (inl is) = inl (ap f is)
map-in f x (y ∷ xs) (inr i) = inr (map-in f x xs i)

pub in-filter : {X : Type 0} (p : X → Bool) (x : X) (xs : List X) → In x (filter p xs) → In x xs × (p x ≡ true)
in-filter p x [] i = absurd i
in-filter {X = X} p x (y ∷ xs) i = go (p y) refl i (in-filter p x xs)
  where
    go : (b : Bool) → p y ≡ b → In x (cond b (y ∷ filter p xs) (filter p xs)) → (In x (filter p xs) → In x xs × (p x ≡ true)) → In x (y ∷ xs) × (p x ≡ true)
    go true h (inl is) ih = (inl is, ap p is ∙ h)
    go true h (inr j) ih = let r = ih j in (inr r.0, r.1)
    go false h j ih = let r = ih j in (inr r.0, r.1)

pub filter-in : {X : Type 0} (p : X → Bool) (x : X) (xs : List X) → In x xs → p x ≡ true → In x (filter p xs)
filter-in p x [] i h = absurd i
filter-in {X = X} p x (y ∷ xs) (inl is) h = subst (λ (b : Bool). In x (cond b (y ∷ filter p xs) (filter p xs))) (sym (sym (ap p is) ∙ h)) (inl is)
filter-in {X = X} p x (y ∷ xs) (inr i) h = go (p y) (filter-in p x xs i h)
  where
    go : (b : Bool) → In x (filter p xs) → In x (cond b (y ∷ filter p xs) (filter p xs))
    go true j = inr j
    go false j = j

pub in-filter-map : {X Y : Type 0} (f : X → Option Y) (y : Y) (xs : List X) → In y (filter_map f xs) → (x : X) × In x xs × (f x ≡ Some y)
in-filter-map f y [] i = absurd i
in-filter-map {X = X} {Y = Y} f y (x ∷ xs) i = go (f x) refl i (in-filter-map f y xs)
  where
    go : (o : Option Y) → f x ≡ o → In y (cons_option o (filter_map f xs)) → (In y (filter_map f xs) → (z : X) × In z xs × (f z ≡ Some y)) → (z : X) × In z (x ∷ xs) × (f z ≡ Some y)
    go None is i ih = let r = ih i in (r.0, inr r.1, r.2)
    go (Some z) is (inl same) ih = (x, inl refl, is ∙ ap (λ (v : Y). Some v) (sym same))
    go (Some z) is (inr i) ih = let r = ih i in (r.0, inr r.1, r.2)

pub filter-map-in : {X Y : Type 0} (f : X → Option Y) (x : X) (y : Y) (xs : List X) → In x xs → f x ≡ Some y → In y (filter_map f xs)
filter-map-in f x y [] i gives = absurd i
filter-map-in {X = X} {Y = Y} f x y (z ∷ xs) (inl is) gives = subst (λ (o : Option Y). In y (cons_option o (filter_map f xs))) (sym (sym (ap f is) ∙ gives)) (inl refl)
filter-map-in {X = X} {Y = Y} f x y (z ∷ xs) (inr i) gives = go (f z) (filter-map-in f x y xs i gives)
  where
    go : (o : Option Y) → In y (filter_map f xs) → In y (cons_option o (filter_map f xs))
    go None j = j
    go (Some v) j = inr j

pub in-take : {X : Type 0} (n : ℕ) (x : X) (xs : List X) → In x (take n xs) → In x xs
in-take zero x xs i = absurd i
in-take (suc n) x [] i = absurd i
in-take (suc n) x (y ∷ ys) (inl is) = inl is
in-take (suc n) x (y ∷ ys) (inr i) = inr (in-take n x ys i)

pub take-or-drop : {X : Type 0} (n : ℕ) (x : X) (xs : List X) → In x xs → In x (take n xs) ⊎ In x (drop n xs)
take-or-drop zero x xs i = inr i
take-or-drop (suc n) x [] i = absurd i
take-or-drop (suc n) x (y ∷ ys) (inl is) = inl (inl is)
take-or-drop (suc n) x (y ∷ ys) (inr i) = elim (take-or-drop n x ys i) [ inl t ↦ inl (inr t) | inr d ↦ inr d ]

-- what is true of each member is true of each element
pub in-each : {X : Type 0} (P : X → Type 0) (xs : List X) → ((x : X) → In x xs → P x) → AllByRecursion P xs
in-each P [] each = tt
in-each P (x ∷ xs) each = (each x (inl refl), in-each P xs (λ y i. each y (inr i)))
