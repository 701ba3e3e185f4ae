use Rattle.std.proofs.Common.{arith, ◌∙◌, ◌≡◌, ℕ, Option, List, None, cond, length, set, ap, sym, subst, length-set}
use Rattle.std.specs.Bool.{nat_eq}
use Rattle.std.specs.HashMap.{get}
use Rattle.inode_tree.specs.Arena.{IsFree, IsTree, blank, node_at, rows_of}
use Rattle.inode_tree.specs.declared.rows.Node.{Node}
use Rattle.inode_tree.specs.declared.rows.Row.{Row}
use Rattle.inode_tree.proofs.Shrunk.{free-shrunk, shrunk, rows-shrunk}
use Rattle.inode_tree.proofs.Insides.{node-within}
use Rattle.inode_tree.proofs.tree.removal.take_out.Goals as goal

-- the parts after a row was taken out, over plain variables
after-tree : (ns ns' : List Node) (order order' : List ℕ) (ids' : ℕ → Option ℕ) → ns' ≡ ns → order' ≡ order → IsTree ns order ids' → IsTree ns' order' ids'
after-tree ns ns' order order' ids' en eo t = subst (λ (os : List ℕ). IsTree ns' os ids') (sym eo) (subst (λ (ms : List Node). IsTree ms order ids') (sym en) t)

after-free : (ns ns' : List Node) (order order' free free' : List ℕ) → ns' ≡ ns → order' ≡ order → free' ≡ free → IsFree ns order free → IsFree ns' order' free'
after-free ns ns' order order' free free' en eo ef f =
    subst (λ (os : List ℕ). IsFree ns' os free') (sym eo) (subst (λ (ms : List Node). IsFree ms order free') (sym en) (subst (IsFree ns order) (sym ef) f))

pub get-n-requires : goal.get-n-requires
get-n-requires c = c.requires.leaf.inside

pub returns-clause-kept : goal.returns-clause-kept
returns-clause-kept c = record {
  tree = after-tree _ c.set.new.self.items _ c.remove.new.self.items (get nat_eq c.forget.new.places) nodes c.remove.ensures
      (shrunk c.args.nodes.now.items c.args.order.now.items (get nat_eq c.args.places.now) c.args.at c.get-n.result c.requires.kept.tree c.requires.leaf c.get-n.ensures (get nat_eq c.forget.new.places) ids);
  free = after-free _ c.set.new.self.items _ c.remove.new.self.items _ c.push_reserved.new.self.items nodes c.remove.ensures c.push_reserved.ensures.items
      (free-shrunk c.args.nodes.now.items c.args.order.now.items (get nat_eq c.args.places.now) c.args.at c.get-n.result c.requires.kept.tree c.requires.leaf c.get-n.ensures c.args.free.now.items c.requires.kept.free);
  capacity = let a = c.requires.kept.capacity in let b = c.push_reserved.ensures.capacity in let l = ap length nodes in omega (arith, length-set c.args.nodes.now.items c.get-n.result blank);
}
  where
    nodes : c.set.new.self.items ≡ set c.args.nodes.now.items c.get-n.result blank
    nodes = c.set.ensures ∙ ap (set c.args.nodes.now.items c.get-n.result) c.blank_node.ensures

    ids : (q : ℕ) → get nat_eq c.forget.new.places q ≡ cond (nat_eq (node_at c.args.nodes.now.items c.get-n.result).row.id q) None (get nat_eq c.args.places.now q)
    ids q = c.forget.ensures q ∙ ap (λ (y : Row). cond (nat_eq y.id q) None (get nat_eq c.args.places.now q)) c.row.ensures

pub returns-clause-rows : goal.returns-clause-rows
returns-clause-rows c =
    ap (λ (ms : List Node). rows_of ms c.remove.new.self.items) (c.set.ensures ∙ ap (set c.args.nodes.now.items c.get-n.result) c.blank_node.ensures)
    ∙ ap (rows_of (set c.args.nodes.now.items c.get-n.result blank)) c.remove.ensures
    ∙ rows-shrunk c.args.nodes.now.items c.args.order.now.items (get nat_eq c.args.places.now) c.args.at c.get-n.result c.requires.kept.tree c.requires.leaf c.get-n.ensures

pub row-requires : goal.row-requires
row-requires c = node-within c.args.nodes.now.items c.args.order.now.items (get nat_eq c.args.places.now) c.requires.kept.tree c.args.at c.get-n.result c.requires.leaf.inside c.get-n.ensures

pub set-requires : goal.set-requires
set-requires c = node-within c.args.nodes.now.items c.args.order.now.items (get nat_eq c.args.places.now) c.requires.kept.tree c.args.at c.get-n.result c.requires.leaf.inside c.get-n.ensures

pub remove-requires-clause-within : goal.remove-requires-clause-within
remove-requires-clause-within c = c.requires.leaf.inside

pub remove-requires-clause-count : goal.remove-requires-clause-count
remove-requires-clause-count c = c.requires.kept.tree.few
