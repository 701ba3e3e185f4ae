use Rattle.std.proofs.Common.{arith, ◌≡◌, ◌<◌, ◌≤◌, length, ℕ, ◌+◌, ◌-◌, List, [], get_or, sym, ap, ◌∙◌, subst}
use Rattle.inode_tree.specs.Listed.{starts_of, flat}
use Rattle.std.proofs.lemmas.List.{get_or_default}
use Rattle.inode_tree.proofs.Pieces.{first-start, get-flat, same-length, inside-of, some-piece}
use Rattle.inode_tree.proofs.order.at.Goals as goal

pub locate-c-requires-clause-some : goal.locate-c-requires-clause-some
locate-c-requires-clause-some c = let e = same-length _ _ c.requires.starts in let s = some-piece c.args.pieces.now.items c.args.i c.requires.within in omega arith

pub locate-c-requires-clause-first : goal.locate-c-requires-clause-first
locate-c-requires-clause-first c = ap (λ (xs : List ℕ). get_or xs 0 0) c.requires.starts ∙ first-start c.args.pieces.now.items

pub index-requires : goal.index-requires
index-requires c = let e = same-length _ _ c.requires.starts in let w = c.locate-c.ensures.within in omega arith

found : (ps : List (List ℕ)) (starts : List ℕ) (c i s : ℕ) (p : List ℕ) → starts ≡ starts_of 0 ps → c < length starts → get_or starts c 0 ≤ i → (c + 1 < length starts → i < get_or starts (c + 1) 0) → i < length (flat ps) → s ≡ get_or starts c s → p ≡ get_or ps c p
    → (i - s < length p) × (get_or p (i - s) 0 ≡ get_or (flat ps) i 0)
found ps starts c i s p e h from to within es ep =
    let n = same-length starts ps e in
    let fs : s ≡ get_or (starts_of 0 ps) c 0 = es ∙ get_or_default starts c s 0 h ∙ ap (λ (xs : List ℕ). get_or xs c 0) e in
    let fp : p ≡ get_or ps c [] = ep ∙ get_or_default ps c p [] (omega arith) in
    let low : get_or (starts_of 0 ps) c 0 ≤ i = subst (λ (xs : List ℕ). get_or xs c 0 ≤ i) e from in
    let up : c + 1 < length ps → i < get_or (starts_of 0 ps) (c + 1) 0 = λ a. subst (λ (xs : List ℕ). i < get_or xs (c + 1) 0) e (to (omega arith)) in
    let inner : i < get_or (starts_of 0 ps) c 0 + length (get_or ps c []) = inside-of ps c i (omega arith) up within in
    let g = ap length fp in
    let z : 0 + i ≡ i = omega arith in
    (omega arith, sym (get-flat 0 ps c i (omega arith) (omega arith) (omega arith) ∙ ap (λ (j : ℕ). get_or (get_or ps c []) j 0) (let k : 0 + i - get_or (starts_of 0 ps) c 0 ≡ i - s = omega arith in k) ∙ ap (λ (q : List ℕ). get_or q (i - s) 0) (sym fp)))

pub get-requires : goal.get-requires
get-requires c = (found c.args.pieces.now.items c.args.starts.now.items c.locate-c.result c.args.i c.index-2.result.now c.index.result.now c.requires.starts c.locate-c.ensures.within c.locate-c.ensures.from c.locate-c.ensures.to c.requires.within c.index-2.ensures c.index.ensures).0

pub returns : goal.returns
returns c = c.get.ensures ∙ (found c.args.pieces.now.items c.args.starts.now.items c.locate-c.result c.args.i c.index-2.result.now c.index.result.now c.requires.starts c.locate-c.ensures.within c.locate-c.ensures.from c.locate-c.ensures.to c.requires.within c.index-2.ensures c.index.ensures).1
