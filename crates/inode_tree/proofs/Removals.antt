-- A number taken out of its piece, and an empty piece given back.
use Rattle.std.proofs.Common.{◌≡◌, ℕ, ◌+◌, ◌-◌, ◌<◌, ◌≤◌, zero, suc, List, [], ◌∷◌, ◌++◌, length, get_or, set, refl, sym, ap, ◌∙◌, subst, arith}
use Rattle.std.proofs.lemmas.List.Edits.{remove-append_left, remove-append_right}
use Rattle.std.specs.List.{remove}
use Rattle.inode_tree.specs.Listed.{flat, starts_of, HoldsPlace}
use Rattle.inode_tree.proofs.Pieces.{inside-of, same-length}

start-low : (b : ℕ) (qs : List (List ℕ)) (d : ℕ) → d < length qs → b ≤ get_or (starts_of b qs) d 0
start-low b [] d h = absurd (omega arith)
start-low b (q ∷ qs) zero h = omega arith
start-low b (q ∷ qs) (suc d) h = let i = start-low (b + length q) qs d (omega arith) in omega arith

-- one number less in the c-th piece
pub flat-remove : (a : ℕ) (ps : List (List ℕ)) (c i : ℕ) → c < length ps → get_or (starts_of a ps) c 0 ≤ a + i → a + i < get_or (starts_of a ps) c 0 + length (get_or ps c [])
    → flat (set ps c (remove (get_or ps c []) (a + i - get_or (starts_of a ps) c 0))) ≡ remove (flat ps) i
flat-remove a [] c i h l u = absurd (omega arith)
flat-remove a (p ∷ ps) zero i h l u = ap (λ (k : ℕ). remove p k ++ flat ps) (omega arith) ∙ sym (remove-append_left p (flat ps) i (omega arith))
flat-remove a (p ∷ ps) (suc c) i h l u =
    let low = start-low (a + length p) ps c (omega arith) in
    let f : a + length p + (i - length p) ≡ a + i = omega arith in
    ap (λ (j : ℕ). p ++ flat (set ps c (remove (get_or ps c []) (j - get_or (starts_of (a + length p) ps) c 0)))) (sym f)
    ∙ ap (λ (ys : List ℕ). p ++ ys) (flat-remove (a + length p) ps c (i - length p) (omega arith) (omega arith) (omega arith))
    ∙ sym (remove-append_right p (flat ps) (length p) i refl (omega arith))

-- an empty piece holds no number
pub flat-without : (ps : List (List ℕ)) (c : ℕ) → c < length ps → get_or ps c [] ≡ [] → flat (remove ps c) ≡ flat ps
flat-without [] c h e = absurd (omega arith)
flat-without (p ∷ ps) zero h e = sym (ap (λ (q : List ℕ). q ++ flat ps) e)
flat-without (p ∷ ps) (suc c) h e = ap (λ (ys : List ℕ). p ++ ys) (flat-without ps c (omega arith) e)

pub starts-without : (a : ℕ) (ps : List (List ℕ)) (c : ℕ) → c < length ps → get_or ps c [] ≡ [] → remove (starts_of a ps) c ≡ starts_of a (remove ps c)
starts-without a [] c h e = absurd (omega arith)
starts-without a (p ∷ ps) zero h e = sym (ap (λ (k : ℕ). starts_of k ps) (let l = ap length e in omega arith))
starts-without a (p ∷ ps) (suc c) h e = ap (λ (xs : List ℕ). a ∷ xs) (starts-without (a + length p) ps c (omega arith) e)

pub holds-located : (ps : List (List ℕ)) (starts : List ℕ) (c i : ℕ) → starts ≡ starts_of 0 ps → c < length starts → get_or starts c 0 ≤ i → (c + 1 < length starts → i < get_or starts (c + 1) 0) → i < length (flat ps) → HoldsPlace starts ps c i
holds-located ps starts c i e h from to within =
    let n = same-length starts ps e in
    record {
      among = omega arith;
      from = from;
      upto = subst (λ (xs : List ℕ). i < get_or xs c 0 + length (get_or ps c [])) (sym e) (inside-of ps c i (omega arith) (λ a. subst (λ (xs : List ℕ). i < get_or xs (c + 1) 0) e (to (omega arith))) within);
    }
