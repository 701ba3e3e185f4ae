use Rattle.std.proofs.Common.{arith, ◌≡◌, ◌<◌, ◌≤◌, length, take, ℕ, ◌+◌, ◌-◌, List, [], get_or, sym, ap, ◌∙◌, subst}
use Rattle.std.proofs.lemmas.List.{get_or_default}
use Rattle.inode_tree.specs.Listed.{IsCutAt, flat, starts_of}
use Rattle.inode_tree.proofs.Pieces.{end-of, first-start, flat-parted, same-length, some-piece}
use Rattle.inode_tree.proofs.Runs.{next-cut, parted-cut, parted-kept, start-first}
use Rattle.inode_tree.proofs.order.runs.cut.Goals as goal

pub locate-c-requires-clause-some : goal.locate-c-requires-clause-some
locate-c-requires-clause-some c =
    let e = same-length _ _ c.requires.starts in
    let t = c.if-i-eq0.false in
    let w = c.requires.within in
    let s = some-piece c.args.pieces.now.items (c.args.i - 1) (omega arith) in omega arith

pub locate-c-requires-clause-first : goal.locate-c-requires-clause-first
locate-c-requires-clause-first c = ap (λ (xs : List ℕ). get_or xs 0 0) c.requires.starts ∙ first-start c.args.pieces.now.items

among : (ps : List (List ℕ)) (starts : List ℕ) (c : ℕ) → starts ≡ starts_of 0 ps → c < length starts → c < length ps
among ps starts c e h = let n = same-length starts ps e in omega arith

-- values that the code reads, over plain variables
module _ (ps : List (List ℕ)) (starts : List ℕ) (c i s : ℕ) (e : starts ≡ starts_of 0 ps) (h : c < length starts) (es : s ≡ get_or starts c s) (from : get_or starts c 0 ≤ i) where
  start-is : s ≡ length (flat (take c ps))
  start-is = es ∙ get_or_default starts c s 0 h ∙ ap (λ (xs : List ℕ). get_or xs c 0) e ∙ start-first ps c (among ps starts c e h)

  pub low : s ≤ i
  low = let f = es ∙ get_or_default starts c s 0 h in omega arith

  pub place-is : i ≡ length (flat (take c ps)) + (i - s)
  place-is = let f = start-is in let l = low in omega arith

  pub at-start : i - s ≡ 0 → IsCutAt ps c i
  at-start z = let a = among ps starts c e h in let f = start-is in let l = low in (omega arith, omega arith)

  module _ (p : List ℕ) (len : ℕ) (ep : p ≡ get_or ps c p) (el : len ≡ length p) where
    len-is : len ≡ length (get_or ps c [])
    len-is = el ∙ ap length (ep ∙ get_or_default ps c p [] (among ps starts c e h))

    pub at-end : i - s ≡ len → IsCutAt ps (c + 1) i
    at-end z =
        let a = among ps starts c e h in
        let f = place-is in
        let l = len-is in
        (omega arith, next-cut ps c a ∙ (omega arith))

    pub inner : (c + 1 < length starts → i < get_or starts (c + 1) 0) → i ≤ length (flat ps) → i - s ≤ length (get_or ps c [])
    inner to within =
        let a = among ps starts c e h in
        let n = same-length starts ps e in
        let m = end-of ps c i a (λ b. subst (λ (xs : List ℕ). i < get_or xs (c + 1) 0) e (to (omega arith))) within in
        let t = start-first ps c a in
        let f = start-is in omega arith

    pub inside : (c + 1 < length starts → i < get_or starts (c + 1) 0) → i ≤ length (flat ps) → (i - s ≡ len → ⊥) → i - s < length (get_or ps c [])
    inside to within apart = let m = inner to within in let l = len-is in grind arith

pub returns-then-k-eq0-clause-cut : goal.returns-then-k-eq0-clause-cut
returns-then-k-eq0-clause-cut c =
    at-start c.args.pieces.now.items c.args.starts.now.items c.locate-c.result c.args.i c.index.result.now c.requires.starts c.locate-c.ensures.within c.index.ensures c.locate-c.ensures.from c.if-k-eq0.true

pub index-requires-2 : goal.index-requires-2
index-requires-2 c = let h = among _ _ _ c.requires.starts c.locate-c.ensures.within in omega arith

pub returns-then-k-len-clause-cut : goal.returns-then-k-len-clause-cut
returns-then-k-len-clause-cut c =
    at-end c.args.pieces.now.items c.args.starts.now.items c.locate-c.result c.args.i c.index.result.now c.requires.starts c.locate-c.ensures.within c.index.ensures c.locate-c.ensures.from
    c.index-2.result.now c.len.result c.index-2.ensures c.len.ensures.len c.if-k-len.true

pub part-requires-clause-c : goal.part-requires-clause-c
part-requires-clause-c c = among _ _ _ c.requires.starts c.locate-c.ensures.within

pub part-requires-clause-k : goal.part-requires-clause-k
part-requires-clause-k c =
    inner c.args.pieces.now.items c.args.starts.now.items c.locate-c.result c.args.i c.index.result.now c.requires.starts c.locate-c.ensures.within c.index.ensures c.locate-c.ensures.from
    c.index-2.result.now c.len.result c.index-2.ensures c.len.ensures.len c.locate-c.ensures.to c.requires.within

pub returns-clause-flat : goal.returns-clause-flat
returns-clause-flat c = ap flat c.part.ensures.parted ∙ flat-parted c.args.pieces.now.items c.locate-c.result (c.args.i - c.index.result.now)

pub returns-clause-cut : goal.returns-clause-cut
returns-clause-cut c =
    let among : c.locate-c.result < length c.args.pieces.now.items = among _ _ _ c.requires.starts c.locate-c.ensures.within in
    let inner = inner c.args.pieces.now.items c.args.starts.now.items c.locate-c.result c.args.i c.index.result.now c.requires.starts c.locate-c.ensures.within c.index.ensures c.locate-c.ensures.from
    c.index-2.result.now c.len.result c.index-2.ensures c.len.ensures.len c.locate-c.ensures.to c.requires.within in
    let place = place-is c.args.pieces.now.items c.args.starts.now.items c.locate-c.result c.args.i c.index.result.now c.requires.starts c.locate-c.ensures.within c.index.ensures c.locate-c.ensures.from in
    subst (λ (ps : List (List ℕ)). IsCutAt ps (c.locate-c.result + 1) c.args.i) (sym c.part.ensures.parted)
    (parted-cut c.args.pieces.now.items c.locate-c.result (c.args.i - c.index.result.now) c.args.i among inner place)

pub returns-clause-kept : goal.returns-clause-kept
returns-clause-kept c =
    let among : c.locate-c.result < length c.args.pieces.now.items = among _ _ _ c.requires.starts c.locate-c.ensures.within in
    let inner = inner c.args.pieces.now.items c.args.starts.now.items c.locate-c.result c.args.i c.index.result.now c.requires.starts c.locate-c.ensures.within c.index.ensures c.locate-c.ensures.from
    c.index-2.result.now c.len.result c.index-2.ensures c.len.ensures.len c.locate-c.ensures.to c.requires.within in
    let less = inside c.args.pieces.now.items c.args.starts.now.items c.locate-c.result c.args.i c.index.result.now c.requires.starts c.locate-c.ensures.within c.index.ensures c.locate-c.ensures.from
    c.index-2.result.now c.len.result c.index-2.ensures c.len.ensures.len c.locate-c.ensures.to c.requires.within c.if-k-len.false in
    let place = place-is c.args.pieces.now.items c.args.starts.now.items c.locate-c.result c.args.i c.index.result.now c.requires.starts c.locate-c.ensures.within c.index.ensures c.locate-c.ensures.from in
    λ k j l le. subst (λ (ps : List (List ℕ)). IsCutAt ps k j) (sym c.part.ensures.parted)
    (parted-kept c.args.pieces.now.items c.locate-c.result (c.args.i - c.index.result.now) c.args.i among inner place less k j l le)
