use Rattle.std.proofs.Common.{arith, ◌≡◌, ◌<◌, length, take, drop, set, ℕ, ◌+◌, List, [], get_or, refl, sym, ap, ◌∙◌, length-set}
use Rattle.std.specs.List.{insert}
use Rattle.inode_tree.specs.Listed.{starts_of, flat, parted}
use Rattle.std.proofs.lemmas.List.{get_or_default}
use Rattle.std.proofs.lemmas.List.Edits.{length-insert}
use Rattle.inode_tree.proofs.Pieces.{same-length, parted-is, flat-parted, length-parted, parted-starts}
use Rattle.inode_tree.proofs.order.part.Goals as goal

cut : (ps qs rs : List (List ℕ)) (c k : ℕ) (p l r : List ℕ) → c < length ps → p ≡ get_or ps c p → l ≡ take k p → r ≡ drop k p → qs ≡ set ps c l → rs ≡ insert qs (c + 1) r → rs ≡ parted ps c k
cut ps qs rs c k p l r h ep el er eq es =
    let e : p ≡ get_or ps c [] = ep ∙ get_or_default ps c p [] h in
    es ∙ ap (λ (xs : List (List ℕ)). insert xs (c + 1) r) (eq ∙ ap (set ps c) (el ∙ ap (take k) e)) ∙ ap (insert (set ps c (take k (get_or ps c []))) (c + 1)) (er ∙ ap (drop k) e) ∙ parted-is ps c k h

pub slip_piece-requires-clause-at : goal.slip_piece-requires-clause-at
slip_piece-requires-clause-at c = let h = c.requires.c in omega (arith, length-set c.args.pieces.now.items c.args.c c.split.new.self)

pub slip_start-requires-clause-at : goal.slip_start-requires-clause-at
slip_start-requires-clause-at c = let h = c.requires.c in let e = same-length _ _ c.requires.starts in omega arith

pub renumber-requires-clause-starts : goal.renumber-requires-clause-starts
renumber-requires-clause-starts c =
    ap (take (c.args.c + 1)) c.slip_start.ensures.items ∙ parted-starts c.args.pieces.now.items c.args.c c.args.k 0 c.args.starts.now.items c.requires.c c.requires.starts
    ∙ ap (λ (ps : List (List ℕ)). take (c.args.c + 1) (starts_of 0 ps)) (sym (cut c.args.pieces.now.items _ _ c.args.c c.args.k c.index_mut.result.now c.split.new.self c.split.new.other c.requires.c c.index_mut.ensures.value c.split.ensures.left c.split.ensures.right refl c.slip_piece.ensures.items))

pub renumber-requires-clause-c : goal.renumber-requires-clause-c
renumber-requires-clause-c c =
    let e = ap length (cut c.args.pieces.now.items _ _ c.args.c c.args.k c.index_mut.result.now c.split.new.self c.split.new.other c.requires.c c.index_mut.ensures.value c.split.ensures.left c.split.ensures.right refl c.slip_piece.ensures.items) in
    let n = length-parted c.args.pieces.now.items c.args.c c.args.k c.requires.c in let h = c.requires.c in omega arith

pub renumber-requires-clause-length : goal.renumber-requires-clause-length
renumber-requires-clause-length c =
    let e = ap length (cut c.args.pieces.now.items _ _ c.args.c c.args.k c.index_mut.result.now c.split.new.self c.split.new.other c.requires.c c.index_mut.ensures.value c.split.ensures.left c.split.ensures.right refl c.slip_piece.ensures.items) in
    let n = length-parted c.args.pieces.now.items c.args.c c.args.k c.requires.c in
    let m = same-length _ _ c.requires.starts in
    let h = c.requires.c in
    let f = ap length c.slip_start.ensures.items in
    let g = length-insert c.args.starts.now.items (c.args.c + 1) 0 (omega arith) in omega arith

pub renumber-requires-clause-count : goal.renumber-requires-clause-count
renumber-requires-clause-count c =
    let e = ap (λ (ps : List (List ℕ)). length (flat ps)) (cut c.args.pieces.now.items _ _ c.args.c c.args.k c.index_mut.result.now c.split.new.self c.split.new.other c.requires.c c.index_mut.ensures.value c.split.ensures.left c.split.ensures.right refl c.slip_piece.ensures.items) in
    let f = ap length (flat-parted c.args.pieces.now.items c.args.c c.args.k) in let n = c.requires.count in omega arith

pub returns-clause-parted : goal.returns-clause-parted
returns-clause-parted c = cut c.args.pieces.now.items _ _ c.args.c c.args.k c.index_mut.result.now c.split.new.self c.split.new.other c.requires.c c.index_mut.ensures.value c.split.ensures.left c.split.ensures.right refl c.slip_piece.ensures.items

pub returns-clause-room : goal.returns-clause-room
returns-clause-room c =
    let h = c.requires.c in
    let e = ap length c.slip_piece.ensures.items in
    let n = length-insert (set c.args.pieces.now.items c.args.c c.split.new.self) (c.args.c + 1) c.split.new.other (omega (arith, length-set c.args.pieces.now.items c.args.c c.split.new.self)) in
    let f = same-length _ _ c.renumber.ensures.starts in
    let g = same-length _ _ c.requires.starts in
    (omega (arith, length-set c.args.pieces.now.items c.args.c c.split.new.self), c.slip_piece.ensures.room, omega (arith, length-set c.args.pieces.now.items c.args.c c.split.new.self), c.renumber.ensures.room ∙ c.slip_start.ensures.room)
