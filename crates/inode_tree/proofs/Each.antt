-- A property of each element of a list, and of its parts.
use Rattle.std.proofs.Common.{◌≡◌, ℕ, ◌+◌, ◌-◌, ◌<◌, ◌≤◌, zero, suc, List, [], ◌∷◌, ◌++◌, length, get_or, drop, take, sym, subst, arith}
use Rattle.std.proofs.lemmas.List.{drop-drop, get_or_default, take-take}
use Rattle.std.proofs.lemmas.List.Elements.{All-from_recursion, recursion_from_All}
use Rattle.std.proofs.lemmas.Slice.{between_is}
use Rattle.std.specs.List.{AllByRecursion, between}
use Rattle.inode_tree.specs.Listed.{turned}
use Rattle.inode_tree.proofs.Runs.{in-four}

pub each-take : {X : Type 0} (P : X → Type 0) (n : ℕ) (es : List X) → AllByRecursion P es → AllByRecursion P (take n es)
each-take P zero es a = tt
each-take P (suc n) [] a = tt
each-take P (suc n) (e ∷ es) a = (a.0, each-take P n es a.1)

pub each-drop : {X : Type 0} (P : X → Type 0) (n : ℕ) (es : List X) → AllByRecursion P es → AllByRecursion P (drop n es)
each-drop P zero es a = a
each-drop P (suc n) [] a = tt
each-drop P (suc n) (e ∷ es) a = each-drop P n es a.1

pub each-append : {X : Type 0} (P : X → Type 0) (xs ys : List X) → AllByRecursion P xs → AllByRecursion P ys → AllByRecursion P (xs ++ ys)
each-append P [] ys a b = b
each-append P (x ∷ xs) ys a b = (a.0, each-append P xs ys a.1 b)

pub each-from : {X : Type 0} (P Q : X → Type 0) → ((e : X) → P e → Q e) → (es : List X) → AllByRecursion P es → AllByRecursion Q es
each-from P Q f [] a = tt
each-from P Q f (e ∷ es) a = (f e a.0, each-from P Q f es a.1)

-- a list by its first part, from a later end
pub each-between : {X : Type 0} (P : X → Type 0) (a b : ℕ) (es : List X) → AllByRecursion P (take b es) → AllByRecursion P (between a b es)
each-between P a b es h = subst (AllByRecursion P) (sym (between_is es a b)) (each-drop P a (take b es) h)

pub each-earlier : {X : Type 0} (P : X → Type 0) (a b : ℕ) (es : List X) → a ≤ b → AllByRecursion P (take b es) → AllByRecursion P (take a es)
each-earlier P a b es h x = subst (AllByRecursion P) (take-take a b es h) (each-take P a (take b es) x)

pub each-later : {X : Type 0} (P : X → Type 0) (a b : ℕ) (es : List X) → a ≤ b → AllByRecursion P (drop a es) → AllByRecursion P (drop b es)
each-later P a b es h x =
    let e : a + (b - a) ≡ b = omega arith in
    subst (λ (n : ℕ). AllByRecursion P (drop n es)) e (subst (AllByRecursion P) (drop-drop (b - a) a es) (each-drop P (b - a) (drop a es) x))

pub both : {X : Type 0} (P Q : X → Type 0) (es : List X) → AllByRecursion P es → AllByRecursion Q es → AllByRecursion (λ e. P e × Q e) es
both P Q [] a b = tt
both P Q (e ∷ es) a b = ((a.0, b.0), both P Q es a.1 b.1)

pub each-parts : {X : Type 0} (P : X → Type 0) (xs ys : List X) → AllByRecursion P (xs ++ ys) → AllByRecursion P xs × AllByRecursion P ys
each-parts P [] ys a = (tt, a)
each-parts P (x ∷ xs) ys a = let r = each-parts P xs ys a.1 in ((a.0, r.0), r.1)

-- runs that change places have the same elements
each-turned : (P : ℕ → Type 0) (xs : List ℕ) (a b c : ℕ) → a ≤ b → b ≤ c → AllByRecursion P xs → AllByRecursion P (turned a b c xs)
each-turned P xs a b c h k all =
    let u = each-parts P (take a xs) _ (subst (AllByRecursion P) (sym (in-four xs a b c h k)) all) in
    let v = each-parts P (between a b xs) _ u.1 in
    let w = each-parts P (between b c xs) (drop c xs) v.1 in
    each-append P (take a xs) _ u.0 (each-append P (between b c xs) _ w.0 (each-append P (between a b xs) (drop c xs) v.0 w.1))

each-back : (P : ℕ → Type 0) (xs : List ℕ) (a b c : ℕ) → a ≤ b → b ≤ c → AllByRecursion P (turned a b c xs) → AllByRecursion P xs
each-back P xs a b c h k all =
    let u = each-parts P (take a xs) _ all in
    let v = each-parts P (between b c xs) _ u.1 in
    let w = each-parts P (between a b xs) (drop c xs) v.1 in
    subst (AllByRecursion P) (in-four xs a b c h k) (each-append P (take a xs) _ u.0 (each-append P (between a b xs) _ w.0 (each-append P (between b c xs) (drop c xs) v.0 w.1)))

pub from-places : (P : ℕ → Type 0) (xs : List ℕ) → ((k : ℕ) → k < length xs → P (get_or xs k 0)) → AllByRecursion P xs
from-places P xs h = recursion_from_All P xs (λ k d b. subst P (get_or_default xs k 0 d b) (h k b))

to-places : (P : ℕ → Type 0) (xs : List ℕ) → AllByRecursion P xs → (k : ℕ) → k < length xs → P (get_or xs k 0)
to-places P xs a k b = All-from_recursion P xs a k 0 b

pub places-turned : (P : ℕ → Type 0) (xs : List ℕ) (a b c : ℕ) → a ≤ b → b ≤ c → ((k : ℕ) → k < length xs → P (get_or xs k 0)) → (k : ℕ) → k < length (turned a b c xs) → P (get_or (turned a b c xs) k 0)
places-turned P xs a b c h k all = to-places P (turned a b c xs) (each-turned P xs a b c h k (from-places P xs all))

pub places-back : (P : ℕ → Type 0) (xs : List ℕ) (a b c : ℕ) → a ≤ b → b ≤ c → ((k : ℕ) → k < length (turned a b c xs) → P (get_or (turned a b c xs) k 0)) → (k : ℕ) → k < length xs → P (get_or xs k 0)
places-back P xs a b c h k all = to-places P xs (each-back P xs a b c h k (from-places P (turned a b c xs) all))
