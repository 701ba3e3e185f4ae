use Rattle.std.proofs.Common.{arith, ◌≡◌, ◌+◌, ◌++◌, ◌∷◌, [], ℕ, List, length, sym, ap, ◌∙◌}
use Rattle.inode_tree.specs.Listed.{flat, starts_of}
use Rattle.inode_tree.proofs.Raises.{flat-more, starts-more}
use Rattle.inode_tree.proofs.order.append.Goals as goal

-- the lists with one more piece, over plain variables
more-starts : (ps ps' : List (List ℕ)) (starts starts' q : List ℕ) (s : ℕ) → ps' ≡ ps ++ q ∷ [] → starts' ≡ starts ++ s ∷ [] → starts ≡ starts_of 0 ps → s ≡ length (flat ps) → starts' ≡ starts_of 0 ps'
more-starts ps ps' starts starts' q s ep es e f =
    es ∙ ap (λ (xs : List ℕ). xs ++ s ∷ []) e ∙ ap (λ (k : ℕ). starts_of 0 ps ++ k ∷ []) (let z : s ≡ 0 + length (flat ps) = omega arith in z) ∙ sym (starts-more 0 ps q) ∙ ap (starts_of 0) (sym ep)

more-flat : (ps ps' : List (List ℕ)) (p q : List ℕ) (n : ℕ) → ps' ≡ ps ++ q ∷ [] → q ≡ n ∷ p → p ≡ [] → flat ps' ≡ flat ps ++ n ∷ []
more-flat ps ps' p q n ep eq e = ap flat ep ∙ flat-more ps q ∙ ap (λ (xs : List ℕ). flat ps ++ xs) (eq ∙ ap (λ (xs : List ℕ). n ∷ xs) e)

pub returns-clause-starts : goal.returns-clause-starts
returns-clause-starts c = more-starts c.args.pieces.now.items c.push_reserved.new.self.items c.args.starts.now.items c.push_reserved-2.new.self.items c.insert.new.self c.count-start.result c.push_reserved.ensures.items c.push_reserved-2.ensures.items c.requires.starts c.count-start.ensures

pub returns-clause-flat : goal.returns-clause-flat
returns-clause-flat c = more-flat c.args.pieces.now.items c.push_reserved.new.self.items c.take_empty-piece.result c.insert.new.self c.args.n c.push_reserved.ensures.items c.insert.ensures c.take_empty-piece.ensures.piece
