-- Numbers of rows, and the low bytes of numbers.
use Rattle.std.proofs.Common.{◌≡◌, ℕ, ◌+◌, ◌^◌, ◌<◌, List, [], ◌∷◌, ◌++◌, length, map, get_or, take, drop, refl, sym, ◌∙◌, ap, subst, arith, length-append}
use Rattle.std.specs.Prelude.{◌%◌, ◌/◌}
use Rattle.std.specs.Int.{w16, w32, w64, to_be_bytes}
use Rattle.std.proofs.lemmas.List.{length-map, take_more}
use Rattle.frozen_nodes.specs.Forest.{AreBelow, FrozenNode, IsForest, Subtree, kid_rows, node_at, rows_from, subtree_at, subtrees, under}
use Rattle.frozen_nodes.proofs.Subtrees.{rows-are}
use Rattle.frozen_nodes.proofs.Walks.{below-at}

mod-sum : (a b : ℕ) → (a % 2 ^ 32 + b % 2 ^ 32) % 2 ^ 32 ≡ (a + b) % 2 ^ 32
mod-sum a b = omega arith

-- the four low bytes of a number modulo 2 to the power of 32 are its own
pub four-of : (n : ℕ) → to_be_bytes w32 (n % 2 ^ 32) ≡ to_be_bytes w32 n
four-of n = λ i. three i ∷ two i ∷ one i ∷ none i ∷ []
  where
    three : n % 4294967296 / 16777216 % 256 ≡ n / 16777216 % 256
    three = omega arith

    two : n % 4294967296 / 65536 % 256 ≡ n / 65536 % 256
    two = omega arith

    one : n % 4294967296 / 256 % 256 ≡ n / 256 % 256
    one = omega arith

    none : n % 4294967296 % 256 ≡ n % 256
    none = omega arith

pub low-four : (n : ℕ) → drop 4 (to_be_bytes w64 n) ≡ to_be_bytes w32 n
low-four n = refl

pub low-two : (n : ℕ) → drop 6 (to_be_bytes w64 n) ≡ to_be_bytes w16 n
low-two n = refl

kid-count : (at : ℕ → Subtree) (ks : List ℕ) (k : ℕ) → length (kid_rows at (ks ++ k ∷ [])) ≡ length (kid_rows at ks) + length (at k).rows
kid-count at [] k = omega (arith, length-append (map (under (at k).name) (at k).rows) [], length-map (at k).rows (under (at k).name))
kid-count at (j ∷ ks) k =
    omega (arith, kid-count at ks k, length-append (map (under (at j).name) (at j).rows) (kid_rows at (ks ++ k ∷ [])), length-append (map (under (at j).name) (at j).rows) (kid_rows at ks))

-- one kid more
pub count-more : (ns : List FrozenNode) (n count more k : ℕ) (ks : List ℕ) (i : ℕ) → i < length (node_at ns n).kids → ks ≡ (node_at ns n).kids → k ≡ get_or ks i 0
    → count ≡ (1 + length (kid_rows (subtree_at (subtrees ns)) (take i (node_at ns n).kids))) % 2 ^ 32 → more ≡ length (rows_from ns k) % 2 ^ 32
    → (count + more) % 2 ^ 32 ≡ (1 + length (kid_rows (subtree_at (subtrees ns)) (take (i + 1) (node_at ns n).kids))) % 2 ^ 32
unfolding rows_from
count-more ns n count more k ks i within same is c m =
    let at = subtree_at (subtrees ns) in
    let kids = (node_at ns n).kids in
    let here : k ≡ get_or kids i 0 = is ∙ ap (λ (js : List ℕ). get_or js i 0) same in
    (λ j. (c j + m j) % 2 ^ 32)
    ∙ mod-sum (1 + length (kid_rows at (take i kids))) (length (at k).rows)
    ∙ ap (λ (l : ℕ). l % 2 ^ 32)
    (sum (length (kid_rows at (take i kids))) (length (at k).rows) (length (kid_rows at (take (i + 1) kids)))
    (ap (λ (js : List ℕ). length (kid_rows at js)) (take_more kids i 0 within) ∙ kid-count at (take i kids) (get_or kids i 0) ∙ ap (λ (j : ℕ). length (kid_rows at (take i kids)) + length (at j).rows) (sym here)))
  where
    sum : (a b c : ℕ) → c ≡ a + b → (1 + a) + b ≡ 1 + c
    sum a b c e = omega (arith, e)

pub count-whole : (ns : List FrozenNode) (n : ℕ) → IsForest ns → n < length ns → 1 + length (kid_rows (subtree_at (subtrees ns)) (node_at ns n).kids) ≡ length (rows_from ns n)
count-whole ns n forest lt = let e = ap length (rows-are ns forest n lt) in omega (arith, e)

pub kid-below : (ns : List FrozenNode) (n : ℕ) (ks : List ℕ) (i : ℕ) → IsForest ns → ks ≡ (node_at ns n).kids → i < length ks → get_or ks i 0 < n
kid-below ns n ks i forest same within = below-at n ks i 0 (subst (λ (js : List ℕ). AreBelow n js) (sym same) (forest n).below) within
