use Rattle.std.proofs.Common.{arith, ◌≡◌, ◌<◌, ◌≤◌, length, ℕ, ◌+◌, ◌-◌, List, [], get_or, sym, ap, ◌∙◌}
use Rattle.inode_tree.specs.Listed.{starts_of, flat}
use Rattle.std.proofs.lemmas.List.{get_or_default}
use Rattle.inode_tree.proofs.Pieces.{get-flat, same-length}
use Rattle.inode_tree.proofs.order.near.Goals as goal

found : (ps : List (List ℕ)) (starts : List ℕ) (c i s : ℕ) (p q : List ℕ) → starts ≡ starts_of 0 ps → c < length ps → s ≡ get_or starts c s → q ≡ get_or ps c q → p ≡ get_or ps c p → s ≤ i → i - s < length q
    → (i - s < length p) × (get_or p (i - s) 0 ≡ get_or (flat ps) i 0)
found ps starts c i s p q e h es eq ep low more =
    let n = same-length starts ps e in
    let fs : s ≡ get_or (starts_of 0 ps) c 0 = es ∙ get_or_default starts c s 0 (omega arith) ∙ ap (λ (xs : List ℕ). get_or xs c 0) e in
    let fp : p ≡ get_or ps c [] = ep ∙ get_or_default ps c p [] h in
    let fq : q ≡ get_or ps c [] = eq ∙ get_or_default ps c q [] h in
    let g = ap length fp in
    let k = ap length fq in
    (omega arith, sym (get-flat 0 ps c i h (omega arith) (omega arith) ∙ ap (λ (j : ℕ). get_or (get_or ps c []) j 0) (let k : 0 + i - get_or (starts_of 0 ps) c 0 ≡ i - s = omega arith in k) ∙ ap (λ (r : List ℕ). get_or r (i - s) 0) (sym fp)))

pub index-requires : goal.index-requires
index-requires c = let e = same-length _ _ c.requires.starts in omega arith

pub returns-then-i-start : goal.returns-then-i-start
returns-then-i-start c = c.get.ensures ∙ (found c.args.pieces.now.items c.args.starts.now.items c.args.c c.args.i c.index.result.now c.index-then-i-start.result.now c.index-then-start-i.result.now c.requires.starts (let l = c.len.ensures in omega arith) c.index.ensures c.index-then-start-i.ensures c.index-then-i-start.ensures c.if-start-i.true (let l = c.len-then-start-i.ensures.len in let m = c.if-i-start.true in omega arith)).1
