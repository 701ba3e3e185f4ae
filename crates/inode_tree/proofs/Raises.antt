-- Starts of pieces after one of them has grown, or one was added.
use Rattle.std.proofs.Common.{◌≡◌, ℕ, ◌+◌, ◌<◌, ◌≤◌, zero, suc, List, [], ◌∷◌, ◌++◌, append_assoc, length-append, length, map, get_or, set, refl, sym, ap, ◌∙◌, arith}
use Rattle.std.specs.List.{insert}
use Rattle.inode_tree.specs.Listed.{flat, raised, starts_of}

pub length-raised : (c : ℕ) (xs : List ℕ) → length (raised c xs) ≡ length xs
length-raised c [] = refl
length-raised zero (x ∷ xs) = ap suc (all xs)
  where
    all : (ys : List ℕ) → length (map suc ys) ≡ length ys
    all [] = refl
    all (y ∷ ys) = ap suc (all ys)
length-raised (suc c) (x ∷ xs) = ap suc (length-raised c xs)

-- the places up to the c-th stay
pub raised-before : (c : ℕ) (xs : List ℕ) (k : ℕ) → k ≤ c → get_or (raised c xs) k 0 ≡ get_or xs k 0
raised-before c [] k h = refl
raised-before zero (x ∷ xs) zero h = refl
raised-before zero (x ∷ xs) (suc k) h = absurd (omega arith)
raised-before (suc c) (x ∷ xs) zero h = refl
raised-before (suc c) (x ∷ xs) (suc k) h = raised-before c xs k (omega arith)

pub raised-after : (c : ℕ) (xs : List ℕ) (k : ℕ) → c < k → k < length xs → get_or (raised c xs) k 0 ≡ get_or xs k 0 + 1
raised-after c [] k h b = absurd (omega arith)
raised-after zero (x ∷ xs) zero h b = absurd (omega arith)
raised-after zero (x ∷ xs) (suc k) h b = all xs k (omega arith)
  where
    all : (ys : List ℕ) (j : ℕ) → j < length ys → get_or (map suc ys) j 0 ≡ get_or ys j 0 + 1
    all [] j h = absurd (omega arith)
    all (y ∷ ys) zero h = omega arith
    all (y ∷ ys) (suc j) h = all ys j (omega arith)
raised-after (suc c) (x ∷ xs) zero h b = absurd (omega arith)
raised-after (suc c) (x ∷ xs) (suc k) h b = raised-after c xs k (omega arith) (omega arith)

shifted : (a : ℕ) (ps : List (List ℕ)) → starts_of (suc a) ps ≡ map suc (starts_of a ps)
shifted a [] = refl
shifted a (p ∷ ps) = let e : suc a + length p ≡ suc (a + length p) = omega arith in ap (λ (xs : List ℕ). suc a ∷ xs) (ap (λ (b : ℕ). starts_of b ps) e ∙ shifted (a + length p) ps)

-- the starts if the c-th piece has one more number
pub raised-starts : (a : ℕ) (ps : List (List ℕ)) (c : ℕ) (q : List ℕ) → c < length ps → length q ≡ length (get_or ps c []) + 1 → raised c (starts_of a ps) ≡ starts_of a (set ps c q)
raised-starts a [] c q h e = absurd (omega arith)
raised-starts a (p ∷ ps) zero q h e =
    let f : suc (a + length p) ≡ a + length q = omega arith in
    ap (λ (xs : List ℕ). a ∷ xs) (sym (shifted (a + length p) ps) ∙ ap (λ (b : ℕ). starts_of b ps) f)
raised-starts a (p ∷ ps) (suc c) q h e = ap (λ (xs : List ℕ). a ∷ xs) (raised-starts (a + length p) ps c q (omega arith) e)

pub flat-more : (ps : List (List ℕ)) (q : List ℕ) → flat (ps ++ q ∷ []) ≡ flat ps ++ q
flat-more [] q = no-more q
  where
    no-more : (q : List ℕ) → q ++ [] ≡ q
    no-more [] = refl
    no-more (x ∷ q) = ap (λ (xs : List ℕ). x ∷ xs) (no-more q)
flat-more (p ∷ ps) q = ap (λ (xs : List ℕ). p ++ xs) (flat-more ps q) ∙ sym (append_assoc p (flat ps) q)

pub starts-more : (a : ℕ) (ps : List (List ℕ)) (q : List ℕ) → starts_of a (ps ++ q ∷ []) ≡ starts_of a ps ++ (a + length (flat ps)) ∷ []
starts-more a [] q = let e : a ≡ a + 0 = omega arith in ap (λ (b : ℕ). b ∷ []) e
starts-more a (p ∷ ps) q =
    let e : a + length p + length (flat ps) ≡ a + length (p ++ flat ps) = omega (arith, length-append p (flat ps)) in
    ap (λ (xs : List ℕ). a ∷ xs) (starts-more (a + length p) ps q ∙ ap (λ (b : ℕ). starts_of (a + length p) ps ++ b ∷ []) e)

pub insert-last : (xs : List ℕ) (n : ℕ) → insert xs (length xs) n ≡ xs ++ n ∷ []
insert-last [] n = refl
insert-last (x ∷ xs) n = ap (λ (ys : List ℕ). x ∷ ys) (insert-last xs n)
