use Rattle.std.proofs.Common.{arith, ◌≡◌, ◌<◌, length, set, ℕ, ◌+◌, List, [], ◌++◌, get_or, sym, ap, ◌∙◌}
use Rattle.std.specs.List.{remove}
use Rattle.std.proofs.lemmas.List.{get_or_default}
use Rattle.std.proofs.lemmas.List.Edits.{length-remove, get_or-remove_below}
use Rattle.inode_tree.specs.Listed.{flat, starts_of}
use Rattle.inode_tree.proofs.Pieces.{same-length}
use Rattle.inode_tree.proofs.Runs.{flat-joined, starts-joined}
use Rattle.inode_tree.proofs.order.runs.join.Goals as goal

-- what the code makes of the pieces
joined : (ps qs : List (List ℕ)) (c : ℕ) (p q r : List ℕ) → c + 1 < length ps → q ≡ get_or ps (c + 1) q → qs ≡ remove ps (c + 1) → p ≡ get_or qs c p → r ≡ p ++ q → set qs c r ≡ set (remove ps (c + 1)) c (get_or ps c [] ++ get_or ps (c + 1) [])
joined ps qs c p q r h eq es ep er =
    let n = length-remove ps (c + 1) h in
    let fq : q ≡ get_or ps (c + 1) [] = eq ∙ get_or_default ps (c + 1) q [] h in
    let fp : p ≡ get_or ps c [] = ep ∙ ap (λ (xs : List (List ℕ)). get_or xs c p) es ∙ get_or_default (remove ps (c + 1)) c p [] (omega arith) ∙ get_or-remove_below ps (c + 1) [] c (omega arith) h in
    ap (λ (xs : List (List ℕ)). set xs c r) es ∙ ap (set (remove ps (c + 1)) c) (er ∙ ap (λ (xs : List ℕ). xs ++ q) fp ∙ ap (λ (xs : List ℕ). get_or ps c [] ++ xs) fq)

pub remove-requires : goal.remove-requires
remove-requires c = let e = same-length _ _ c.requires in let t = c.if-saturating_sub-lt2.false in let n = c.len.ensures in let s = c.saturating_sub.ensures in omega arith

pub returns-clause-starts : goal.returns-clause-starts
returns-clause-starts c =
    let h : c.args.c + 1 < length c.args.pieces.now.items = let t = c.if-saturating_sub-lt2.false in let n = c.len.ensures in let s = c.saturating_sub.ensures in omega arith in
    c.remove.ensures.items ∙ ap (λ (xs : List ℕ). remove xs (c.args.c + 1)) c.requires ∙ starts-joined c.args.pieces.now.items c.args.c h
    ∙ ap (starts_of 0) (sym (joined c.args.pieces.now.items c.remove-next.new.self.items c.args.c c.index_mut.result.now c.remove-next.result c.append.new.self h c.remove-next.ensures.value c.remove-next.ensures.items c.index_mut.ensures.value c.append.ensures))

pub returns-clause-flat : goal.returns-clause-flat
returns-clause-flat c =
    let h : c.args.c + 1 < length c.args.pieces.now.items = let t = c.if-saturating_sub-lt2.false in let n = c.len.ensures in let s = c.saturating_sub.ensures in omega arith in
    ap flat (joined c.args.pieces.now.items c.remove-next.new.self.items c.args.c c.index_mut.result.now c.remove-next.result c.append.new.self h c.remove-next.ensures.value c.remove-next.ensures.items c.index_mut.ensures.value c.append.ensures)
    ∙ flat-joined c.args.pieces.now.items c.args.c h
