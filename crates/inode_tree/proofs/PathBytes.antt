-- Paths as bytes, name by name.
use Rattle.std.proofs.Common.{◌≡◌, ℕ, ◌+◌, ◌<◌, ◌≤◌, ◌-◌, true, List, [], ◌∷◌, ◌++◌, length, drop, sym, ap, ◌∙◌, arith, append_assoc, length-append}
use Rattle.std.specs.Prelude.{nat_le}
use Rattle.std.specs.List.{list_all}
use Rattle.std.proofs.lemmas.Bool.Decides.{nat_tests}
use Rattle.std.proofs.lemmas.List.{append-nil}
use Rattle.std.proofs.lemmas.Bool.{and_parts}
use Rattle.name_calls.specs.Paths.{is_component, is_relative, is_short}
use Rattle.inode_tree.specs.Written.{last_bytes, path_bytes}
use Rattle.inode_tree.proofs.Places.{last-names}

pub bytes-snoc : (p : List (List ℕ)) (x : List ℕ) → path_bytes (p ++ x ∷ []) ≡ path_bytes p ++ length x ∷ x
bytes-snoc [] x = ap (λ (ys : List ℕ). length x ∷ ys) (append-nil x)
bytes-snoc (y ∷ p) x = ap (λ (ys : List ℕ). length y ∷ y ++ ys) (bytes-snoc p x) ∙ ap (λ (ys : List ℕ). length y ∷ ys) (sym (append_assoc y (path_bytes p) (length x ∷ x)))

le-256 : (n : ℕ) → nat_le n 255 ≡ true → n < 256
le-256 n h = grind (arith, nat_tests)

component-short : (x : List ℕ) → is_component x ≡ true → length x < 256
component-short x h =
    let a = (and_parts _ _ h).0 in let b = (and_parts _ _ a).0 in let d = (and_parts _ _ b).0 in let e = (and_parts _ _ d).0 in let f = (and_parts _ _ e).0 in le-256 (length x) (and_parts _ _ f).1

pub name-short : (p : List (List ℕ)) (x : List ℕ) → is_relative (p ++ x ∷ []) ≡ true → length x < 256
name-short p x h = last p (and_parts (list_all is_component (p ++ x ∷ [])) (is_short (p ++ x ∷ [])) h).0
  where
    last : (q : List (List ℕ)) → list_all is_component (q ++ x ∷ []) ≡ true → length x < 256
    last [] e = component-short x (and_parts (is_component x) true e).0
    last (y ∷ q) e = last q (and_parts (is_component y) (list_all is_component (q ++ x ∷ [])) e).1

-- one name more from the end
pub last-more : (p q : List (List ℕ)) (x : List ℕ) (count : ℕ) → p ≡ q ++ x ∷ [] → (count ≡ 0 → ⊥) → count ≤ length p → last_bytes count p ≡ last_bytes (count - 1) q ++ length x ∷ x
last-more p q x count e some most = ap path_bytes (last-names p q x count e (positive count some) most) ∙ bytes-snoc (drop (length q - (count - 1)) q) x
  where
    positive : (k : ℕ) → (k ≡ 0 → ⊥) → 0 < k
    positive k g = grind arith

pub last-length : (p q : List (List ℕ)) (x : List ℕ) (count : ℕ) → p ≡ q ++ x ∷ [] → (count ≡ 0 → ⊥) → count ≤ length p → length (last_bytes count p) ≡ length (last_bytes (count - 1) q) + length x + 1
last-length p q x count e some most =
    let l : length (last_bytes count p) ≡ length (last_bytes (count - 1) q ++ length x ∷ x) = ap length (last-more p q x count e some most) in
    let a : length (last_bytes (count - 1) q ++ length x ∷ x) ≡ length (last_bytes (count - 1) q) + length (length x ∷ x) = length-append (last_bytes (count - 1) q) (length x ∷ x) in
    omega arith
