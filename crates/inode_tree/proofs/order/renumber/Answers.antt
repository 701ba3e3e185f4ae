use Rattle.std.proofs.Common.{arith, ◌≡◌, ◌<◌, ◌≤◌, length, take, ℕ, ◌+◌, List, [], ◌∷◌, ◌++◌, get_or, sym, ap, ◌∙◌, take_all, length-set}
use Rattle.inode_tree.specs.Listed.{starts_of, flat}
use Rattle.std.proofs.lemmas.List.{get_or_default, take_more, take_more_set}
use Rattle.inode_tree.proofs.Pieces.{length-starts, end-within, next-start}
use Rattle.inode_tree.proofs.order.renumber.Goals as goal

bound : (ps : List (List ℕ)) (j from len : ℕ) (p : List ℕ) → j < length ps → from ≡ get_or (starts_of 0 ps) j 0 → p ≡ get_or ps j p → len ≡ length p → length (flat ps) ≤ 1000000 → from + len ≤ 1000000
bound ps j from len p h ef ep el most = let fp = ap length (ep ∙ get_or_default ps j p [] h) in let w = end-within 0 ps j h in omega arith

pub overflow_add-from : goal.overflow_add-from
overflow_add-from c = let b = bound c.args.pieces.now.items c.write.j c.write.from c.len-from.result c.index-in-write.result.now c.write.invariant.within c.write.invariant.from c.index-in-write.ensures c.len-from.ensures.len c.requires.count in omega arith

pub overflow_cast-from-in-write : goal.overflow_cast-from-in-write
overflow_cast-from-in-write c = let b = bound c.args.pieces.now.items c.write.j c.write.from c.len-from.result c.index-in-write.result.now c.write.invariant.within c.write.invariant.from c.index-in-write.ensures c.len-from.ensures.len c.requires.count in omega arith

pub write-preserved : goal.write-preserved
write-preserved c =
    let ps = c.args.pieces.now.items in
    let more : c.write.j + 1 < length c.args.pieces.now.items = let t = c.write-test.true in omega arith in
    let fp : c.index-in-write.result.now ≡ get_or c.args.pieces.now.items c.write.j [] = c.index-in-write.ensures ∙ get_or_default c.args.pieces.now.items c.write.j _ [] c.write.invariant.within in
    let next : c.write.from + c.len-from.result ≡ get_or (starts_of 0 c.args.pieces.now.items) (c.write.j + 1) 0 =
    let g = ap length fp in let n = next-start 0 c.args.pieces.now.items c.write.j more in let i = c.write.invariant.from in let l = c.len-from.ensures.len in omega arith in
    let same = c.write.invariant.same in
    let len = length-starts 0 c.args.pieces.now.items in
    record {
      within = more;
      from = next;
      same = length-set c.write.starts.items (c.write.j + 1) (c.write.from + c.len-from.result) ∙ c.write.invariant.same;
      done = take_more_set c.write.starts.items (c.write.j + 1) (c.write.from + c.len-from.result) (omega arith)
          ∙ ap (λ (xs : List ℕ). xs ++ (c.write.from + c.len-from.result) ∷ []) c.write.invariant.done
          ∙ ap (λ (x : ℕ). take (c.write.j + 1) (starts_of 0 c.args.pieces.now.items) ++ x ∷ []) next
          ∙ sym (take_more (starts_of 0 c.args.pieces.now.items) (c.write.j + 1) 0 (omega arith));
      room = c.write.invariant.room;
    }

pub returns-clause-starts : goal.returns-clause-starts
returns-clause-starts c =
    let t = c.write-test.false in let w = c.write.invariant.within in let same = c.write.invariant.same in let len = length-starts 0 c.args.pieces.now.items in
    sym (take_all (c.write.j + 1) c.write.starts.items (omega arith)) ∙ c.write.invariant.done ∙ take_all (c.write.j + 1) (starts_of 0 c.args.pieces.now.items) (omega arith)
