-- Rows by their places, and paths from a directory on.
use Rattle.std.proofs.Common.{◌≡◌, ℕ, ◌+◌, ◌-◌, ◌<◌, ◌≤◌, zero, suc, Bool, true, false, ◌&&◌, List, [], ◌∷◌, ◌++◌, length, get_or, drop, Option, Some, None, refl, sym, ap, ◌∙◌, arith, length-append, Ordering}
use Rattle.std.specs.declared.cmp.Ordering.TheVariants.{Less, Equal, Greater}
use Rattle.std.specs.Prelude.{nat_le, slice_get, Result, Ok, Err, IfOk}
use Rattle.std.specs.List.{list_all}
use Rattle.std.specs.Option.{option_map, option_map_or}
use Rattle.std.specs.Ordering.{nat_cmp, is_eq, ordering_then, ordering_reverse}
use Rattle.std.specs.Cmp.Lexicographic.{slice_cmp}
use Rattle.std.proofs.lemmas.Cmp.{nat_list_cmp_total}
use Rattle.std.proofs.lemmas.Bool.{and_from, leb-true, le-leb, and_parts}
use Rattle.inode_tree.specs.declared.rows.Node.{Node}
use Rattle.inode_tree.specs.Arena.{IsTree, cmp_front, entry_at, rows_of}
use Rattle.name_calls.specs.Paths.{is_component, is_prefix, is_relative, is_short, names_text, path_text}
use Rattle.inode_tree.specs.Rows.{Entry, entry_of}
use Rattle.inode_tree.proofs.Prefixes.{prefix-front}
use Rattle.inode_tree.proofs.Ranks.{length-rows}
use Rattle.inode_tree.proofs.Trees.{entry-number}

eq-then : (o r : Ordering) → is_eq (ordering_then o r) ≡ (is_eq o && is_eq r)
eq-then Less r = refl
eq-then Equal r = refl
eq-then Greater r = refl

eq-reverse : (o : Ordering) → is_eq (ordering_reverse o) ≡ is_eq o
eq-reverse Less = refl
eq-reverse Equal = refl
eq-reverse Greater = refl

eq-turned : (x y : List ℕ) → is_eq (slice_cmp nat_cmp x y) ≡ is_eq (slice_cmp nat_cmp y x)
eq-turned x y = ap is_eq (nat_list_cmp_total.antisymm x y) ∙ eq-reverse (slice_cmp nat_cmp y x)

-- whether two paths agree as far as and_from go, either way round
front-turned : (p q : List (List ℕ)) → is_eq (cmp_front p q) ≡ is_eq (cmp_front q p)
front-turned [] [] = refl
front-turned [] (y ∷ q) = refl
front-turned (x ∷ p) [] = refl
front-turned (x ∷ p) (y ∷ q) =
    eq-then (slice_cmp nat_cmp x y) (cmp_front p q)
    ∙ ap (λ (b : Bool). b && is_eq (cmp_front p q)) (eq-turned x y)
    ∙ ap (λ (b : Bool). is_eq (slice_cmp nat_cmp y x) && b) (front-turned p q)
    ∙ sym (eq-then (slice_cmp nat_cmp y x) (cmp_front q p))

-- a prefix, by comparing it with the path
pub prefix-back : (p q : List (List ℕ)) → is_prefix p q ≡ (is_eq (cmp_front p q) && nat_le (length p) (length q))
prefix-back p q = prefix-front p q ∙ ap (λ (b : Bool). b && nat_le (length p) (length q)) (front-turned q p)

text-tail : (c : List ℕ) (p : List (List ℕ)) → is_component c ≡ true → length (path_text p) ≤ length (path_text (c ∷ p))
text-tail c [] h = omega (arith, length-append c [])
text-tail c (x ∷ p) h = omega (arith, length-append c (names_text (x ∷ p)))

-- a path that keeps the rule keeps it without its first name
relative-tail : (c : List ℕ) (p : List (List ℕ)) → is_relative (c ∷ p) ≡ true → is_relative p ≡ true
relative-tail c p h =
    let w : (list_all is_component (c ∷ p) ≡ true) × (is_short (c ∷ p) ≡ true) = and_parts _ _ h in
    let n : (is_component c ≡ true) × (list_all is_component p ≡ true) = and_parts _ _ w.0 in
    let v : (nat_le (length (path_text (c ∷ p))) 8000 ≡ true) × (nat_le (length (c ∷ p)) 100 ≡ true) = and_parts _ _ w.1 in
    let bytes : length (path_text (c ∷ p)) ≤ 8000 = leb-true _ _ v.0 in
    let names : length (c ∷ p) ≤ 100 = leb-true _ _ v.1 in
    let fewer : length (path_text p) ≤ 8000 = omega (arith, text-tail c p n.0) in
    let less : length p ≤ 100 = omega arith in
    and_from (list_all is_component p) (is_short p) n.1 (and_from (nat_le (length (path_text p)) 8000) (nat_le (length p) 100) (le-leb _ _ fewer) (le-leb _ _ less))

pub relative-drop : (n : ℕ) (p : List (List ℕ)) → is_relative p ≡ true → is_relative (drop n p) ≡ true
relative-drop zero p h = h
relative-drop (suc n) [] h = h
relative-drop (suc n) (c ∷ p) h = relative-drop n p (relative-tail c p h)

pub drop-snoc : (n : ℕ) (q : List (List ℕ)) (x : List ℕ) → n ≤ length q → drop n (q ++ x ∷ []) ≡ drop n q ++ x ∷ []
drop-snoc zero q x h = refl
drop-snoc (suc n) [] x h = absurd (omega arith)
drop-snoc (suc n) (y ∷ q) x h = drop-snoc n q x (omega arith)

-- the last names of a path, by those of its parent
pub last-names : (p q : List (List ℕ)) (x : List ℕ) (count : ℕ) → p ≡ q ++ x ∷ [] → 0 < count → count ≤ length p
    → drop (length p - count) p ≡ drop (length q - (count - 1)) q ++ x ∷ []
last-names p q x count e some most =
    let l : length p ≡ length q + 1 = ap length e ∙ length-append q (x ∷ []) in
    let n : length p - count ≡ length q - (count - 1) = omega arith in
    ap (λ (k : ℕ). drop k p) n ∙ ap (drop (length q - (count - 1))) e ∙ drop-snoc (length q - (count - 1)) q x (omega arith)

-- all names are left out
pub no-names : (p : List (List ℕ)) → [] ≡ drop (length p - 0) p
no-names p = sym (ap (λ (k : ℕ). drop k p) (minus-zero (length p)) ∙ drop-all p)
  where
    minus-zero : (n : ℕ) → n - 0 ≡ n
    minus-zero n = omega arith

    drop-all : (q : List (List ℕ)) → drop (length q) q ≡ []
    drop-all [] = refl
    drop-all (y ∷ q) = drop-all q

-- names counted from the end are those from a place on
pub from-end : (p : List (List ℕ)) (from : ℕ) → drop (length p - (length p - from)) p ≡ drop from p
from-end p from = go p from (length p - (length p - from)) (omega arith) (λ h. omega arith) (λ h. omega arith)
  where
    go : (p : List (List ℕ)) (from k : ℕ) → k ≤ length p → (from ≤ length p → k ≡ from) → (length p ≤ from → k ≡ length p) → drop k p ≡ drop from p
    go [] zero zero h e f = refl
    go [] zero (suc k) h e f = absurd (omega arith)
    go [] (suc from) zero h e f = refl
    go [] (suc from) (suc k) h e f = absurd (omega arith)
    go (x ∷ p) zero k h e f = ap (λ (n : ℕ). drop n (x ∷ p)) (e (omega arith))
    go (x ∷ p) (suc from) zero h e f = absurd (let g = cases from (length (x ∷ p)) e f in omega arith)
      where
        cases : (a b : ℕ) → (suc a ≤ b → 0 ≡ suc a) → (b ≤ suc a → 0 ≡ b) → b ≤ 0
        cases a b e f = grind arith
    go (x ∷ p) (suc from) (suc k) h e f = go p from k (omega arith) (λ g. let i = e (omega arith) in omega arith) (λ g. let i = f (omega arith) in omega arith)

pub get-row : (ns : List Node) (order : List ℕ) (at : ℕ) → at < length order → slice_get (rows_of ns order) at ≡ Some (entry_at ns (get_or order at 0))
get-row ns [] at h = absurd (omega arith)
get-row ns (n ∷ order) zero h = refl
get-row ns (n ∷ order) (suc at) h = get-row ns order at (omega arith)

-- a question about the row at a place, answered by its node
pub at-place : {X : Type 0} (f : Entry → X) (ns : List Node) (order : List ℕ) (at n : ℕ) (x : X) → at < length order → n ≡ get_or order at 0 → x ≡ f (entry_at ns n) → option_map f (slice_get (rows_of ns order) at) ≡ Some x
at-place f ns order at n x h e g = ap (option_map f) (get-row ns order at h) ∙ ap (λ (k : ℕ). Some (f (entry_at ns k))) (sym e) ∙ ap (λ (y : _). Some y) (sym g)

-- a place of a row is one of a live node
pub live-at : (ns : List Node) (order : List ℕ) (rows : List Entry) (at : ℕ) → rows_of ns order ≡ rows → at < length rows → at < length order
live-at ns order rows at e h = let l = ap length e in omega (arith, length-rows ns order)

pub each-ok : {T E : Type 0} {P Q : T → Type 0} (r : Result T E) → ((v : T) → P v → Q v) → IfOk r P → IfOk r Q
each-ok (Ok v) f h = f v h
each-ok (Err e) f h = tt

-- and of the row of an id
pub of-id : (f : Entry → Bool) (ns : List Node) (order : List ℕ) (ids : ℕ → Option ℕ) (id : ℕ) (o : Option ℕ) → IsTree ns order ids → o ≡ ids id → option_map_or (λ (n : ℕ). f (entry_at ns n)) o false ≡ option_map_or f (entry_of (rows_of ns order) id) false
of-id f ns order ids id o t e = merge o ∙ sym (ap (λ (x : Option Entry). option_map_or f x false) (entry-number ns order ids id t ∙ ap (option_map (entry_at ns)) (sym e)))
  where
    merge : (o : Option ℕ) → option_map_or (λ (n : ℕ). f (entry_at ns n)) o false ≡ option_map_or f (option_map (entry_at ns) o) false
    merge None = refl
    merge (Some n) = refl
