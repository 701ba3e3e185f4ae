use Rattle.std.proofs.Common.{arith, ◌≡◌, ◌<◌, ◌≤◌, length, set, ℕ, ◌+◌, ◌-◌, List, [], get_or, ap, ◌∙◌}
use Rattle.std.specs.List.{insert}
use Rattle.inode_tree.specs.Listed.{flat, raised, starts_of}
use Rattle.std.proofs.lemmas.List.{get_or_default, with_items_is}
use Rattle.std.proofs.lemmas.List.Edits.{length-insert}
use Rattle.inode_tree.proofs.Pieces.{end-within, same-length, flat-insert}
use Rattle.inode_tree.proofs.Raises.{length-raised, raised-starts}
use Rattle.inode_tree.proofs.order.put_in.Goals as goal

pub index-requires : goal.index-requires
index-requires c = let e = same-length _ _ c.requires.starts in let w = c.requires.fits.among in omega arith

start-is : (ps : List (List ℕ)) (starts : List ℕ) (c s : ℕ) → starts ≡ starts_of 0 ps → c < length ps → s ≡ get_or starts c s → s ≡ get_or starts c 0
start-is ps starts c s e h es = es ∙ get_or_default starts c s 0 (let n = same-length starts ps e in omega arith)

pub overflow_sub-k : goal.overflow_sub-k
overflow_sub-k c = let e = start-is c.args.pieces.now.items c.args.starts.now.items c.args.c c.index.result.now c.requires.starts c.requires.fits.among c.index.ensures in let f = c.requires.fits.from in omega arith

piece-is : (ps : List (List ℕ)) (starts : List ℕ) (c i n s : ℕ) (p q : List ℕ) → starts ≡ starts_of 0 ps → c < length ps → get_or starts c 0 ≤ i → i ≤ get_or starts c 0 + length (get_or ps c []) → s ≡ get_or starts c s → p ≡ get_or ps c p → q ≡ insert p (i - s) n
    → flat (set ps c q) ≡ insert (flat ps) i n
piece-is ps starts c i n s p q e h from to es ep eq =
    let fs : s ≡ get_or (starts_of 0 ps) c 0 = start-is ps starts c s e h es ∙ ap (λ (xs : List ℕ). get_or xs c 0) e in
    let fp : p ≡ get_or ps c [] = ep ∙ get_or_default ps c p [] h in
    let fe = ap (λ (xs : List ℕ). get_or xs c 0) e in
    let k : i - s ≡ 0 + i - get_or (starts_of 0 ps) c 0 = omega arith in
    ap (λ (r : List ℕ). flat (set ps c r)) (eq ∙ ap (λ (r : List ℕ). insert r (i - s) n) fp ∙ ap (λ (j : ℕ). insert (get_or ps c []) j n) k)
    ∙ flat-insert 0 ps c i n h (omega arith) (omega arith)

pub raise-requires-clause-c : goal.raise-requires-clause-c
raise-requires-clause-c c = let n = same-length _ _ c.requires.starts in let h = c.requires.fits.among in omega arith

pub raise-requires-clause-few : goal.raise-requires-clause-few
raise-requires-clause-few c = λ k h.
    let n = same-length _ _ c.requires.starts in
    let v = ap length c.as_mut_slice.ensures.value in
    let e = ap (λ (xs : List ℕ). get_or xs k 0) (c.as_mut_slice.ensures.value ∙ c.requires.starts) in
    let w = end-within 0 c.args.pieces.now.items k (omega arith) in
    let f = c.requires.count in omega arith

pub returns-clause-starts : goal.returns-clause-starts
returns-clause-starts c =
    let fp : c.index_mut.result.now ≡ get_or c.args.pieces.now.items c.args.c [] = c.index_mut.ensures.value ∙ get_or_default c.args.pieces.now.items c.args.c c.index_mut.result.now [] c.requires.fits.among in
    let es = start-is c.args.pieces.now.items c.args.starts.now.items c.args.c c.index.result.now c.requires.starts c.requires.fits.among c.index.ensures in
    let to = c.requires.fits.upto in
    let from = c.requires.fits.from in
    let same = ap length fp in
    let long = ap length c.insert.ensures ∙ length-insert c.index_mut.result.now (c.args.i - c.index.result.now) c.args.n (omega arith) in
    let kept = ap length c.raise.ensures ∙ length-raised c.args.c c.as_mut_slice.result.now ∙ ap length c.as_mut_slice.ensures.value in
    let full = c.args.starts.now.ok in
    with_items_is c.args.starts.now c.raise.new.starts (omega arith)
    ∙ c.raise.ensures ∙ ap (raised c.args.c) (c.as_mut_slice.ensures.value ∙ c.requires.starts) ∙ raised-starts 0 c.args.pieces.now.items c.args.c c.insert.new.self c.requires.fits.among (omega arith)

pub returns-clause-flat : goal.returns-clause-flat
returns-clause-flat c = piece-is c.args.pieces.now.items c.args.starts.now.items c.args.c c.args.i c.args.n c.index.result.now c.index_mut.result.now c.insert.new.self c.requires.starts c.requires.fits.among c.requires.fits.from c.requires.fits.upto c.index.ensures c.index_mut.ensures.value c.insert.ensures
