use Rattle.std.proofs.Common.{arith, ◌≡◌, ◌<◌, ◌≤◌, length, ℕ, ◌+◌, List, [], get_or, sym, ap, ◌∙◌, subst}
use Rattle.std.specs.List.{insert}
use Rattle.inode_tree.specs.Listed.{starts_of, flat, FitsAt}
use Rattle.std.proofs.lemmas.List.{get_or_default}
use Rattle.inode_tree.proofs.Pieces.{first-start, same-length, end-of, flat-parted, length-parted, fits-located, fits-left, fits-right}
use Rattle.inode_tree.proofs.Raises.{insert-last}
use Rattle.inode_tree.proofs.order.put.Goals as goal

pub locate-c-requires-clause-some : goal.locate-c-requires-clause-some
locate-c-requires-clause-some c = let e = same-length _ _ c.requires.starts in let f = c.begins_piece.ensures.some c.if-begins_piece.false in omega arith

pub returns-then-begins_piece-clause-flat : goal.returns-then-begins_piece-clause-flat
returns-then-begins_piece-clause-flat c =
    c.append.ensures.flat ∙ sym (insert-last (flat c.args.pieces.now.items) c.args.n)
    ∙ ap (λ (k : ℕ). insert (flat c.args.pieces.now.items) k c.args.n) (sym (c.begins_piece.ensures.end c.if-begins_piece.true))

pub locate-c-requires-clause-first : goal.locate-c-requires-clause-first
locate-c-requires-clause-first c = ap (λ (xs : List ℕ). get_or xs 0 0) c.requires.starts ∙ first-start c.args.pieces.now.items

pub index-requires : goal.index-requires
index-requires c = let e = same-length _ _ c.requires.starts in let w = c.locate-c.ensures.within in omega arith

among : (ps : List (List ℕ)) (starts : List ℕ) (c : ℕ) → starts ≡ starts_of 0 ps → c < length starts → c < length ps
among ps starts c e h = let n = same-length starts ps e in omega arith

pub put_in-requires-clause-fits : goal.put_in-requires-clause-fits
put_in-requires-clause-fits c =
    let h = among _ _ _ c.requires.starts c.locate-c.ensures.within in
    let e = ap length (c.index.ensures ∙ get_or_default c.args.pieces.now.items c.locate-c.result _ [] h) in
    let l = c.len.ensures.len in let t = c.if-len-lt1024.true in
    fits-located c.args.pieces.now.items c.args.starts.now.items c.locate-c.result c.args.i c.requires.starts c.locate-c.ensures.within c.locate-c.ensures.from c.locate-c.ensures.to c.requires.within (omega arith)

pub part-requires-clause-c : goal.part-requires-clause-c
part-requires-clause-c c = among _ _ _ c.requires.starts c.locate-c.ensures.within

pub part-requires-clause-k : goal.part-requires-clause-k
part-requires-clause-k c =
    let h = among _ _ _ c.requires.starts c.locate-c.ensures.within in
    let e = ap length (c.index.ensures ∙ get_or_default c.args.pieces.now.items c.locate-c.result _ [] h) in
    let l = c.len.ensures.len in let t = c.if-len-lt1024.false in omega arith

pub index-requires-2 : goal.index-requires-2
index-requires-2 c =
    let h = among _ _ _ c.requires.starts c.locate-c.ensures.within in
    let e = ap length c.part.ensures.parted in
    let n = length-parted c.args.pieces.now.items c.locate-c.result 512 h in
    let m = same-length _ _ c.part.ensures.starts in omega arith

pub put_in-requires-then-i-index-clause-fits : goal.put_in-requires-then-i-index-clause-fits
put_in-requires-then-i-index-clause-fits c =
    let h = among _ _ _ c.requires.starts c.locate-c.ensures.within in
    let n = length-parted c.args.pieces.now.items c.locate-c.result 512 h in
    let e = ap length c.part.ensures.parted in
    let m = same-length _ _ c.part.ensures.starts in
    let s : c.index-2.result.now ≡ get_or c.part.new.starts.items (c.locate-c.result + 1) 0 = c.index-2.ensures ∙ get_or_default c.part.new.starts.items (c.locate-c.result + 1) _ 0 (omega arith) in
    let t = c.if-i-index.true in
    subst (λ (ps : List (List ℕ)). FitsAt c.part.new.starts.items ps c.locate-c.result c.args.i) (sym c.part.ensures.parted)
    (fits-left c.args.pieces.now.items c.args.starts.now.items c.part.new.starts.items c.locate-c.result c.args.i c.requires.starts (c.part.ensures.starts ∙ ap (starts_of 0) c.part.ensures.parted) h c.locate-c.ensures.from (omega arith))

pub put_in-requires-else-i-index-clause-fits : goal.put_in-requires-else-i-index-clause-fits
put_in-requires-else-i-index-clause-fits c =
    let h = among _ _ _ c.requires.starts c.locate-c.ensures.within in
    let n = length-parted c.args.pieces.now.items c.locate-c.result 512 h in
    let e = ap length c.part.ensures.parted in
    let m = same-length _ _ c.part.ensures.starts in
    let s : c.index-2.result.now ≡ get_or c.part.new.starts.items (c.locate-c.result + 1) 0 = c.index-2.ensures ∙ get_or_default c.part.new.starts.items (c.locate-c.result + 1) _ 0 (omega arith) in
    let t = c.if-i-index.false in
    let p = ap length (c.index.ensures ∙ get_or_default c.args.pieces.now.items c.locate-c.result _ [] h) in
    let l = c.len.ensures.len in
    let most = c.len.ensures.most in
    let upto = subst (λ (xs : List ℕ). c.args.i ≤ get_or xs c.locate-c.result 0 + length (get_or c.args.pieces.now.items c.locate-c.result [])) (sym c.requires.starts)
    (end-of c.args.pieces.now.items c.locate-c.result c.args.i h (λ a. subst (λ (xs : List ℕ). c.args.i < get_or xs (c.locate-c.result + 1) 0) c.requires.starts (c.locate-c.ensures.to (let k = same-length _ _ c.requires.starts in omega arith))) c.requires.within) in
    subst (λ (ps : List (List ℕ)). FitsAt c.part.new.starts.items ps (c.locate-c.result + 1) c.args.i) (sym c.part.ensures.parted)
    (fits-right c.args.pieces.now.items c.args.starts.now.items c.part.new.starts.items c.locate-c.result c.args.i c.requires.starts (c.part.ensures.starts ∙ ap (starts_of 0) c.part.ensures.parted) h upto (omega arith) (omega arith))

pub put_in-requires-then-i-index-clause-count : goal.put_in-requires-then-i-index-clause-count
put_in-requires-then-i-index-clause-count c = let e = ap length (ap flat c.part.ensures.parted ∙ flat-parted c.args.pieces.now.items c.locate-c.result 512) in let n = c.requires.count in omega arith

pub put_in-requires-else-i-index-clause-count : goal.put_in-requires-else-i-index-clause-count
put_in-requires-else-i-index-clause-count c = let e = ap length (ap flat c.part.ensures.parted ∙ flat-parted c.args.pieces.now.items c.locate-c.result 512) in let n = c.requires.count in omega arith

pub returns-then-i-index-clause-flat : goal.returns-then-i-index-clause-flat
returns-then-i-index-clause-flat c = c.put_in-then-i-index.ensures.flat ∙ ap (λ (xs : List ℕ). insert xs c.args.i c.args.n) (ap flat c.part.ensures.parted ∙ flat-parted c.args.pieces.now.items c.locate-c.result 512)

pub returns-else-i-index-clause-flat : goal.returns-else-i-index-clause-flat
returns-else-i-index-clause-flat c = c.put_in-else-i-index.ensures.flat ∙ ap (λ (xs : List ℕ). insert xs c.args.i c.args.n) (ap flat c.part.ensures.parted ∙ flat-parted c.args.pieces.now.items c.locate-c.result 512)
