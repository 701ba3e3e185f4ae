use Rattle.std.proofs.Common.{◌∙◌, List, Some, None, ap, sym}
use Rattle.std.specs.HashMap.{get}
use Rattle.std.specs.Bool.{nat_eq}
use Rattle.inode_tree.specs.Below.{at_or_below}
use Rattle.name_calls.specs.Paths.{is_prefix}
use Rattle.inode_tree.specs.Rows.{Entry}
use Rattle.inode_tree.proofs.Places.{of-id}
use Rattle.inode_tree.proofs.Trees.{id-below}
use Rattle.inode_tree.specs.Rows.{TreeState}
use Rattle.inode_tree.proofs.tree.Tree.at_or_below.Goals as goal

pub below-requires-clause-live : goal.below-requires-clause-live
below-requires-clause-live c = id-below c.self.inside.nodes.items c.self.inside.order.items (get nat_eq c.self.inside.places) c.args.id c.in-Some.n.now c.self.invariant.0.tree (sym c.in-Some.ensures.value)

pub returns-in-Some : goal.returns-in-Some
returns-in-Some c =
    c.below.ensures
    ∙ of-id (λ (e : Entry). is_prefix c.args.path.now e.path) c.self.inside.nodes.items c.self.inside.order.items (get nat_eq c.self.inside.places) c.args.id (Some c.in-Some.n.now) c.self.invariant.0.tree c.in-Some.ensures.value
    ∙ ap (λ (rows : List Entry). at_or_below rows c.args.id c.args.path.now) (ap (λ (s : TreeState). s.rows) c.self.view_is)

pub returns-in-None : goal.returns-in-None
returns-in-None c =
    of-id (λ (e : Entry). is_prefix c.args.path.now e.path) c.self.inside.nodes.items c.self.inside.order.items (get nat_eq c.self.inside.places) c.args.id None c.self.invariant.0.tree c.in-None.ensures.value
    ∙ ap (λ (rows : List Entry). at_or_below rows c.args.id c.args.path.now) (ap (λ (s : TreeState). s.rows) c.self.view_is)
