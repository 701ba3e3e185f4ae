use Rattle.std.proofs.Common.{arith, ◌≡◌, length, ℕ, ◌+◌, ◌-◌, List, [], get_or, ap, ◌∙◌}
use Rattle.inode_tree.specs.Listed.{starts_of}
use Rattle.std.proofs.lemmas.List.{get_or_default}
use Rattle.inode_tree.proofs.Pieces.{last-start, same-length}
use Rattle.inode_tree.proofs.order.count.Goals as goal

pub index-requires : goal.index-requires
index-requires c = let e = same-length _ _ c.requires.starts in let f = c.if-len-eq0.false in omega arith

pub returns : goal.returns
returns c =
    let n : c.len-len.result - 1 + 1 ≡ length c.args.pieces.now.items = let f = c.if-len-eq0.false in omega arith in
    let s = same-length _ _ c.requires.starts in
    let e : c.index.result.now ≡ get_or (starts_of 0 c.args.pieces.now.items) (c.len-len.result - 1) 0 = c.index.ensures ∙ get_or_default c.args.starts.now.items (c.len-len.result - 1) _ 0 (omega arith) ∙ ap (λ (xs : List ℕ). get_or xs (c.len-len.result - 1) 0) c.requires.starts in
    let f : c.index-2.result.now ≡ get_or c.args.pieces.now.items (c.len-len.result - 1) [] = c.index-2.ensures ∙ get_or_default c.args.pieces.now.items (c.len-len.result - 1) _ [] (omega arith) in
    let g = ap length f in let l = last-start 0 c.args.pieces.now.items (c.len-len.result - 1) n in omega arith
