use Rattle.std.proofs.Common.{arith, ◌≡◌, ℕ, List, refl, sym, ap, ◌∙◌, Option, Some, None}
use Rattle.std.specs.HashMap.{get}
use Rattle.std.specs.Bool.{nat_eq}
use Rattle.inode_tree.specs.Arena.{IsTree, node_at, entry_at, rows_of}
use Rattle.inode_tree.specs.Rows.{entry_of}
use Rattle.inode_tree.proofs.Trees.{entry-number, id-below}
use Rattle.std.specs.Option.{option_map}
use Rattle.inode_tree.specs.declared.rows.Node.{Node}
use Rattle.inode_tree.specs.declared.rows.Row.{Row}
use Rattle.inode_tree.specs.Rows.{Entry}
use Rattle.inode_tree.specs.Rows.{TreeState}
use Rattle.inode_tree.proofs.tree.Tree.row.Goals as goal

held : (ns : List Node) (order : List ℕ) (ids : ℕ → Option ℕ) (id : ℕ) (o : Option ℕ) → IsTree ns order ids → o ≡ ids id → option_map (λ (n : ℕ). (node_at ns n).row) o ≡ option_map (λ (e : Entry). e.row) (entry_of (rows_of ns order) id)
held ns order ids id o t e = merge o ∙ sym (ap (option_map (λ (e : Entry). e.row)) (entry-number ns order ids id t ∙ ap (option_map (entry_at ns)) (sym e)))
  where
    merge : (o : Option ℕ) → option_map (λ (n : ℕ). (node_at ns n).row) o ≡ option_map (λ (e : Entry). e.row) (option_map (entry_at ns) o)
    merge None = refl
    merge (Some n) = refl

pub row-requires : goal.row-requires
row-requires c = let h = id-below c.self.inside.nodes.items c.self.inside.order.items (get nat_eq c.self.inside.places) c.args.id c.in-Some.n.now c.self.invariant.0.tree (sym c.in-Some.ensures.value) in omega arith

pub returns-in-Some : goal.returns-in-Some
returns-in-Some c =
    ap (λ (r : Row). Some r) c.row.ensures
    ∙ held c.self.inside.nodes.items c.self.inside.order.items (get nat_eq c.self.inside.places) c.args.id (Some c.in-Some.n.now) c.self.invariant.0.tree c.in-Some.ensures.value
    ∙ ap (λ (k : List Entry). option_map (λ (e : Entry). e.row) (entry_of k c.args.id)) (ap (λ (s : TreeState). s.rows) c.self.view_is)

pub returns-in-None : goal.returns-in-None
returns-in-None c =
    held c.self.inside.nodes.items c.self.inside.order.items (get nat_eq c.self.inside.places) c.args.id None c.self.invariant.0.tree c.in-None.ensures.value
    ∙ ap (λ (k : List Entry). option_map (λ (e : Entry). e.row) (entry_of k c.args.id)) (ap (λ (s : TreeState). s.rows) c.self.view_is)
