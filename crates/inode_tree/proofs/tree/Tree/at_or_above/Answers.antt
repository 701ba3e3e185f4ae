use Rattle.std.proofs.Common.{◌∙◌, List, Some, None, ap, sym}
use Rattle.std.specs.HashMap.{get}
use Rattle.std.specs.Bool.{nat_eq}
use Rattle.inode_tree.specs.Below.{at_or_above}
use Rattle.name_calls.specs.Paths.{is_prefix}
use Rattle.inode_tree.specs.Rows.{Entry}
use Rattle.inode_tree.proofs.Places.{of-id}
use Rattle.inode_tree.proofs.Trees.{id-below}
use Rattle.inode_tree.specs.Rows.{TreeState}
use Rattle.inode_tree.proofs.tree.Tree.at_or_above.Goals as goal

pub above-requires-clause-live : goal.above-requires-clause-live
above-requires-clause-live c = id-below c.self.inside.nodes.items c.self.inside.order.items (get nat_eq c.self.inside.places) c.args.id c.in-Some.n.now c.self.invariant.0.tree (sym c.in-Some.ensures.value)

pub returns-in-Some : goal.returns-in-Some
returns-in-Some c =
    c.above.ensures
    ∙ of-id (λ (e : Entry). is_prefix e.path c.args.path.now) c.self.inside.nodes.items c.self.inside.order.items (get nat_eq c.self.inside.places) c.args.id (Some c.in-Some.n.now) c.self.invariant.0.tree c.in-Some.ensures.value
    ∙ ap (λ (rows : List Entry). at_or_above rows c.args.id c.args.path.now) (ap (λ (s : TreeState). s.rows) c.self.view_is)

pub returns-in-None : goal.returns-in-None
returns-in-None c =
    of-id (λ (e : Entry). is_prefix e.path c.args.path.now) c.self.inside.nodes.items c.self.inside.order.items (get nat_eq c.self.inside.places) c.args.id None c.self.invariant.0.tree c.in-None.ensures.value
    ∙ ap (λ (rows : List Entry). at_or_above rows c.args.id c.args.path.now) (ap (λ (s : TreeState). s.rows) c.self.view_is)
