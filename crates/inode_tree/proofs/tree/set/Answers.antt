use Rattle.std.proofs.Common.{List, length, length-set, sym, ap, ◌∙◌, subst}
use Rattle.std.specs.HashMap.{get}
use Rattle.std.specs.Bool.{nat_eq}
use Rattle.inode_tree.specs.Arena.{IsTree, rows_of}
use Rattle.inode_tree.proofs.Shapes.{set-tree}
use Rattle.inode_tree.specs.Rows.{is_dir}
use Rattle.inode_tree.proofs.Asked.{kind-found, kind-number}
use Rattle.inode_tree.specs.declared.rows.Node.{Node}
use Rattle.inode_tree.proofs.tree.set.Goals as goal

pub set_kind-requires : goal.set_kind-requires
set_kind-requires c = (set-tree c.args.nodes.now.items c.args.order.now.items (get nat_eq c.args.places.now) c.args.id c.in-Some.n.now c.args.kind c.requires.tree (sym c.in-Some.ensures.value) (kind-number c.args.nodes.now.items c.args.order.now.items (get nat_eq c.args.places.now) c.args.id c.in-Some.n.now c.args.kind c.requires.tree c.requires.same (sym c.in-Some.ensures.value))).0

pub returns-clause-tree : goal.returns-clause-tree
returns-clause-tree c = subst (λ (ns : List Node). IsTree ns c.args.order.now.items (get nat_eq c.args.places.now)) (sym c.set_kind.ensures) (set-tree c.args.nodes.now.items c.args.order.now.items (get nat_eq c.args.places.now) c.args.id c.in-Some.n.now c.args.kind c.requires.tree (sym c.in-Some.ensures.value) (kind-number c.args.nodes.now.items c.args.order.now.items (get nat_eq c.args.places.now) c.args.id c.in-Some.n.now c.args.kind c.requires.tree c.requires.same (sym c.in-Some.ensures.value))).1

pub returns-clause-rows : goal.returns-clause-rows
returns-clause-rows c = ap (λ (ns : List Node). rows_of ns c.args.order.now.items) c.set_kind.ensures ∙ (set-tree c.args.nodes.now.items c.args.order.now.items (get nat_eq c.args.places.now) c.args.id c.in-Some.n.now c.args.kind c.requires.tree (sym c.in-Some.ensures.value) (kind-number c.args.nodes.now.items c.args.order.now.items (get nat_eq c.args.places.now) c.args.id c.in-Some.n.now c.args.kind c.requires.tree c.requires.same (sym c.in-Some.ensures.value))).2

pub unreachable-requires : goal.unreachable-requires
unreachable-requires c = kind-found c.args.nodes.now.items c.args.order.now.items (get nat_eq c.args.places.now) c.args.id (is_dir c.args.kind) c.requires.tree c.requires.same (sym c.in-None.ensures.value)

pub returns-clause-length : goal.returns-clause-length
returns-clause-length c = ap (λ (ns : List Node). length ns) c.set_kind.ensures ∙ length-set c.args.nodes.now.items c.in-Some.n.now _
