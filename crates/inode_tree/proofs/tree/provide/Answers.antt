use Rattle.std.proofs.Common.{arith, ◌∙◌, ◌≡◌, ℕ, List, [], ◌∷◌, ◌++◌, length, ap, sym, subst}
use Rattle.inode_tree.specs.Arena.{IsTree, IsFree, blank, rows_of}
use Rattle.inode_tree.specs.declared.rows.Node.{Node}
use Rattle.inode_tree.proofs.Provided.{free-provided, provided, rows-provided}
use Rattle.inode_tree.proofs.tree.provide.Goals as goal

pushed : (ns ms ks : List Node) (x : Node) → ms ≡ ns → ks ≡ ms ++ x ∷ [] → x ≡ blank → ks ≡ ns ++ blank ∷ []
pushed ns ms ks x e f g = f ∙ ap (λ (ls : List Node). ls ++ x ∷ []) e ∙ ap (λ (y : Node). ns ++ y ∷ []) g

noted : (free free' : List ℕ) (n m : ℕ) → length free ≡ 0 → free' ≡ free ++ n ∷ [] → n ≡ m → free' ≡ m ∷ []
noted [] free' n m h e f = e ∙ ap (λ (k : ℕ). k ∷ []) f
noted (k ∷ free) free' n m h e f = absurd (omega arith)

pub returns-clause-tree : goal.returns-clause-tree
returns-clause-tree c = λ ids t.
    subst (λ (ns : List Node). IsTree ns c.args.order.now.items ids) (sym (pushed c.args.nodes.now.items c.reserve.new.self.items c.push_reserved.new.self.items c.blank_node.result c.reserve.ensures.items c.push_reserved.ensures.items c.blank_node.ensures))
    (provided c.args.nodes.now.items c.args.order.now.items ids t)

pub returns-clause-rows : goal.returns-clause-rows
returns-clause-rows c =
    ap (λ (ns : List Node). rows_of ns c.args.order.now.items) (pushed c.args.nodes.now.items c.reserve.new.self.items c.push_reserved.new.self.items c.blank_node.result c.reserve.ensures.items c.push_reserved.ensures.items c.blank_node.ensures)
    ∙ rows-provided c.args.nodes.now.items c.args.order.now.items c.requires.tree.0 c.requires.tree.1

pub returns-clause-free : goal.returns-clause-free
returns-clause-free c =
    subst (λ (ns : List Node). IsFree ns c.args.order.now.items c.push_reserved-2.new.self.items) (sym (pushed c.args.nodes.now.items c.reserve.new.self.items c.push_reserved.new.self.items c.blank_node.result c.reserve.ensures.items c.push_reserved.ensures.items c.blank_node.ensures))
    (subst (IsFree (c.args.nodes.now.items ++ blank ∷ []) c.args.order.now.items)
    (sym (noted c.args.free.now.items c.push_reserved-2.new.self.items c.len-n.result (length c.args.nodes.now.items) none (c.push_reserved-2.ensures.items ∙ ap (λ (ks : List ℕ). ks ++ c.len-n.result ∷ []) c.reserve-2.ensures.items) (let e = c.len-n.ensures in omega arith)))
    (free-provided c.args.nodes.now.items c.args.order.now.items c.requires.tree.0 c.requires.tree.1 c.args.free.now.items none c.requires.free))
  where
    none : length c.args.free.now.items ≡ 0
    none = let e = c.len.ensures in let f = c.if-len-gt0.false in omega arith
