use Rattle.std.proofs.Common.{arith, ◌≡◌, ◌<◌, ◌≤◌, length, set, ℕ, ◌+◌, ◌-◌, List, [], get_or, sym, ap, ◌∙◌, length-set}
use Rattle.std.specs.List.{remove}
use Rattle.inode_tree.specs.Listed.{HoldsPlace, starts_of, flat}
use Rattle.std.proofs.lemmas.List.{get_or_default}
use Rattle.std.proofs.lemmas.List.Edits.{length-remove}
use Rattle.inode_tree.proofs.Pieces.{end-within, same-length, set-starts}
use Rattle.inode_tree.proofs.Removals.{flat-remove}
use Rattle.inode_tree.proofs.order.take_from.Goals as goal

-- values that the code reads, over plain variables
start-is : (ps : List (List ℕ)) (starts : List ℕ) (c i s : ℕ) → starts ≡ starts_of 0 ps → HoldsPlace starts ps c i → s ≡ get_or starts c s → s ≡ get_or starts c 0
start-is ps starts c i s e h es = let n = same-length starts ps e in let a = h.among in es ∙ get_or_default starts c s 0 (omega arith)

module _ (ps : List (List ℕ)) (starts : List ℕ) (c i s : ℕ) (p : List ℕ) (e : starts ≡ starts_of 0 ps) (h : HoldsPlace starts ps c i) (es : s ≡ get_or starts c s) (ep : p ≡ get_or ps c p) where
  piece-is : p ≡ get_or ps c []
  piece-is = ep ∙ get_or_default ps c p [] h.among

  pub inside : (s ≤ i) × (i - s < length p)
  inside = let a = start-is ps starts c i s e h es in let b = ap length piece-is in let from = h.from in let upto = h.upto in (omega arith, omega arith)

  pub left : (q : List ℕ) → q ≡ remove p (i - s) → flat (set ps c q) ≡ remove (flat ps) i
  left q eq =
      let fe = ap (λ (xs : List ℕ). get_or xs c 0) e in
      let a = start-is ps starts c i s e h es in
      let from = h.from in
      let upto = h.upto in
      let k : i - s ≡ 0 + i - get_or (starts_of 0 ps) c 0 = omega arith in
      ap (λ (r : List ℕ). flat (set ps c r)) (eq ∙ ap (λ (r : List ℕ). remove r (i - s)) piece-is ∙ ap (remove (get_or ps c [])) k)
      ∙ flat-remove 0 ps c i h.among (omega arith) (omega arith)

  pub fewer : (q : List ℕ) → q ≡ remove p (i - s) → length (flat ps) ≤ 1000000 → length (flat (set ps c q)) ≤ 1000000
  fewer q eq most =
      let l = ap length (left q eq) in
      let fe = ap (λ (xs : List ℕ). get_or xs c 0) e in
      let upto = h.upto in
      let w = end-within 0 ps c h.among in
      let n = length-remove (flat ps) i (omega arith) in omega arith

pub index-requires : goal.index-requires
index-requires c = let e = same-length _ _ c.requires.starts in let w = c.requires.holds.among in omega arith

pub overflow_sub-k : goal.overflow_sub-k
overflow_sub-k c = let a = start-is c.args.pieces.now.items c.args.starts.now.items c.args.c c.args.i c.index.result.now c.requires.starts c.requires.holds c.index.ensures in let from = c.requires.holds.from in omega arith

pub remove-requires : goal.remove-requires
remove-requires c = (inside c.args.pieces.now.items c.args.starts.now.items c.args.c c.args.i c.index.result.now c.index_mut.result.now c.requires.starts c.requires.holds c.index.ensures c.index_mut.ensures.value).1

pub renumber-requires-clause-starts : goal.renumber-requires-clause-starts
renumber-requires-clause-starts c = set-starts c.args.pieces.now.items c.args.c c.remove.new.self c.args.starts.now.items c.requires.starts

pub renumber-requires-clause-length : goal.renumber-requires-clause-length
renumber-requires-clause-length c = same-length _ _ c.requires.starts ∙ sym (length-set c.args.pieces.now.items c.args.c c.remove.new.self)

pub renumber-requires-clause-count : goal.renumber-requires-clause-count
renumber-requires-clause-count c = fewer c.args.pieces.now.items c.args.starts.now.items c.args.c c.args.i c.index.result.now c.index_mut.result.now c.requires.starts c.requires.holds c.index.ensures c.index_mut.ensures.value c.remove.new.self c.remove.ensures c.requires.count

pub returns-clause-flat : goal.returns-clause-flat
returns-clause-flat c = left c.args.pieces.now.items c.args.starts.now.items c.args.c c.args.i c.index.result.now c.index_mut.result.now c.requires.starts c.requires.holds c.index.ensures c.index_mut.ensures.value c.remove.new.self c.remove.ensures
