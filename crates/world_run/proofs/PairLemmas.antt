-- Lists whose elements belong together in order, and draws whose places rise.
use Rattle.std.proofs.Common.{◌≡◌, inl, inr, ℕ, zero, suc, ◌-◌, ◌<◌, ◌≤◌, List, [], ◌∷◌, ◌++◌, length, refl, sym, ap, subst, ◌∙◌, arith}
use Rattle.std.specs.Prelude.{drop}
use Rattle.std.specs.List.{AllByRecursion}
use Rattle.world_run.specs.Ledger.{Draw}
use Rattle.world_run.specs.Linked.{AreDrawsRising, Pairs}
use Rattle.world_run.specs.Promise.{In}
use Rattle.world_run.proofs.Members.{each-in}

-- members

pub in-drop : {X : Type 0} (n : ℕ) (x : X) (xs : List X) → In x (drop n xs) → In x xs
in-drop zero x xs i = i
in-drop (suc n) x [] i = i
in-drop (suc n) x (y ∷ xs) i = inr (in-drop n x xs i)

-- what is dropped from a list, from as long a list

drop-short : {X : Type 0} (n : ℕ) (xs : List X) → length (drop n xs) ≤ length xs
drop-short zero xs = omega arith
drop-short (suc n) [] = omega arith
drop-short (suc n) (x ∷ xs) = let h = drop-short n xs in omega (arith, h)

pub drop-as-many : {X Y : Type 0} (n : ℕ) (xs : List X) (ys : List Y) → length ys ≡ length xs → drop (length xs - length (drop n xs)) ys ≡ drop n ys
drop-as-many zero xs ys same = let none : length xs - length xs ≡ 0 = omega arith in ap (λ k. drop k ys) none
drop-as-many (suc n) [] [] same = refl
drop-as-many (suc n) [] (y ∷ ys) same = absurd (omega (arith, same))
drop-as-many (suc n) (x ∷ xs) [] same = absurd (omega (arith, same))
drop-as-many (suc n) (x ∷ xs) (y ∷ ys) same =
    let h = drop-short n xs in
    let more : length (x ∷ xs) - length (drop n xs) ≡ suc (length xs - length (drop n xs)) = omega (arith, h) in
    ap (λ k. drop k (y ∷ ys)) more ∙ drop-as-many n xs ys (omega (arith, same))

-- pairs

pub pairs-long : {X Y : Type 0} (P : X → Y → Type 0) (xs : List X) (ys : List Y) → Pairs P xs ys → length ys ≡ length xs
pairs-long P [] [] p = refl
pairs-long P [] (y ∷ ys) p = absurd p
pairs-long P (x ∷ xs) [] p = absurd p
pairs-long P (x ∷ xs) (y ∷ ys) p = ap suc (pairs-long P xs ys p.1)

pub pairs-drop : {X Y : Type 0} (P : X → Y → Type 0) (n : ℕ) (xs : List X) (ys : List Y) → Pairs P xs ys → Pairs P (drop n xs) (drop n ys)
pairs-drop P zero xs ys p = p
pairs-drop P (suc n) [] [] p = tt
pairs-drop P (suc n) [] (y ∷ ys) p = absurd p
pairs-drop P (suc n) (x ∷ xs) [] p = absurd p
pairs-drop P (suc n) (x ∷ xs) (y ∷ ys) p = pairs-drop P n xs ys p.1

pub pairs-more : {X Y : Type 0} (P : X → Y → Type 0) (xs : List X) (ys : List Y) (x : X) (y : Y) → Pairs P xs ys → P x y → Pairs P (xs ++ x ∷ []) (ys ++ y ∷ [])
pairs-more P [] [] x y p q = (q, tt)
pairs-more P [] (z ∷ ys) x y p q = absurd p
pairs-more P (z ∷ xs) [] x y p q = absurd p
pairs-more P (z ∷ xs) (u ∷ ys) x y p q = (p.0, pairs-more P xs ys x y p.1 q)

-- each pair has Q too
pub pairs-then : {X Y : Type 0} (P Q : X → Y → Type 0) (xs : List X) (ys : List Y) → ((x : X) (y : Y) → In y ys → P x y → Q x y) → Pairs P xs ys → Pairs Q xs ys
pairs-then P Q [] [] f p = tt
pairs-then P Q [] (y ∷ ys) f p = p
pairs-then P Q (x ∷ xs) [] f p = p
pairs-then P Q (x ∷ xs) (y ∷ ys) f p = (f x y (inl refl) p.0, pairs-then P Q xs ys (λ u v i. f u v (inr i)) p.1)

-- a member of the second list belongs to one of the first
pub pairs-with : {X Y : Type 0} (P : X → Y → Type 0) (xs : List X) (ys : List Y) (y : Y) → Pairs P xs ys → In y ys → (x : X) × P x y
pairs-with P [] [] y p i = absurd i
pairs-with P [] (z ∷ ys) y p i = absurd p
pairs-with P (x ∷ xs) [] y p i = absurd i
pairs-with P (x ∷ xs) (z ∷ ys) y p (inl is) = (x, subst (P x) (sym is) p.0)
pairs-with P (x ∷ xs) (z ∷ ys) y p (inr i) = pairs-with P xs ys y p.1 i

-- the second list begins as the first does

pub pairs-none : {X Y : Type 0} (P : X → Y → Type 0) (xs : List X) (ys : List Y) → xs ≡ [] → Pairs P xs ys → ys ≡ []
pairs-none P [] [] is p = refl
pairs-none P [] (y ∷ ys) is p = absurd p
pairs-none P (x ∷ xs) ys is p = absurd cc

pub record Begun {X Y : Type 0} (P : X → Y → Type 0) (x : X) (ys : List Y) : Type 0 where
  pub first : Y
  pub rest : List Y
  pub is : ys ≡ first ∷ rest
  pub linked : P x first

pub pairs-first : {X Y : Type 0} (P : X → Y → Type 0) (x : X) (more xs : List X) (ys : List Y) → xs ≡ x ∷ more → Pairs P xs ys → Begun P x ys
pairs-first P x more [] ys is p = absurd cc
pairs-first P x more (z ∷ xs) [] is p = absurd p
pairs-first {X = X} P x more (z ∷ xs) (y ∷ ys) is p = let same : z ≡ x = cc in record { first = y; rest = ys; is = refl; linked = subst (λ (v : X). P v y) same p.0 }

-- places that rise

all-drop : (P : Draw → Type 0) (n : ℕ) (ds : List Draw) → AllByRecursion P ds → AllByRecursion P (drop n ds)
all-drop P zero ds each = each
all-drop P (suc n) [] each = each
all-drop P (suc n) (d ∷ ds) each = all-drop P n ds each.1

pub rising-drop : (n : ℕ) (ds : List Draw) → AreDrawsRising ds → AreDrawsRising (drop n ds)
rising-drop zero ds r = r
rising-drop (suc n) [] r = r
rising-drop (suc n) (d ∷ ds) r = rising-drop n ds r.1

all-more : (P : Draw → Type 0) (ds : List Draw) (d : Draw) → AllByRecursion P ds → P d → AllByRecursion P (ds ++ d ∷ [])
all-more P [] d each p = (p, tt)
all-more P (e ∷ ds) d each p = (each.0, all-more P ds d each.1 p)

-- a draw after all others
pub rising-more : (ds : List Draw) (d : Draw) → AreDrawsRising ds → ((f : Draw) → In f ds → f.place < d.place) → AreDrawsRising (ds ++ d ∷ [])
rising-more [] d r over = (tt, tt)
rising-more (e ∷ ds) d r over = (all-more (λ (f : Draw). e.place < f.place) ds d r.0 (over e (inl refl)), rising-more ds d r.1 (λ f i. over f (inr i)))

-- the first draw is none of the others
pub first-once : (d : Draw) (ds : List Draw) → AreDrawsRising (d ∷ ds) → In d ds → ⊥
first-once d ds r i = let h = each-in (λ (f : Draw). d.place < f.place) ds d r.0 i in omega (arith, h)
