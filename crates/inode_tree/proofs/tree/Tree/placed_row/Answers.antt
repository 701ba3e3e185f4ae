use Rattle.std.proofs.Common.{◌∙◌, ◌<◌, List, ap, sym, length}
use Rattle.std.specs.Prelude.{slice_get}
use Rattle.std.specs.Option.{option_map}
use Rattle.std.specs.HashMap.{get}
use Rattle.std.specs.Bool.{nat_eq}
use Rattle.inode_tree.specs.Below.{view_of}
use Rattle.inode_tree.specs.Rows.{Entry, TreeState}
use Rattle.inode_tree.proofs.Insides.{node-within}
use Rattle.inode_tree.proofs.Places.{at-place, live-at}
use Rattle.inode_tree.proofs.tree.Tree.placed_row.Goals as goal

pub returns : goal.returns
returns c =
    let at : c.args.at < length c.self.inside.order.items = live-at _ _ c.args.self.now.rows c.args.at (ap (λ (s : TreeState). s.rows) c.self.view_is) c.requires in
    ap (λ (rows : List Entry). option_map view_of (slice_get rows c.args.at)) (sym (ap (λ (s : TreeState). s.rows) c.self.view_is))
    ∙ at-place view_of c.self.inside.nodes.items c.self.inside.order.items c.args.at c.get_near-n.result
    (record { depth = c.depth.result; name = c.own_name.result.now; row = c.row.result.now }) at c.get_near-n.ensures
    (λ i. record { depth = c.depth.ensures i; name = c.own_name.ensures i; row = c.row.ensures i })

pub get_near-n-requires : goal.get_near-n-requires
get_near-n-requires c = live-at _ _ c.args.self.now.rows c.args.at (ap (λ (s : TreeState). s.rows) c.self.view_is) c.requires

pub depth-requires-clause-linked : goal.depth-requires-clause-linked
depth-requires-clause-linked c = c.self.invariant.0.tree.linked

pub depth-requires-clause-live : goal.depth-requires-clause-live
depth-requires-clause-live c = node-within c.self.inside.nodes.items c.self.inside.order.items (get nat_eq c.self.inside.places) c.self.invariant.0.tree c.args.at c.get_near-n.result (live-at _ _ c.args.self.now.rows c.args.at (ap (λ (s : TreeState). s.rows) c.self.view_is) c.requires) c.get_near-n.ensures

pub own_name-requires-clause-linked : goal.own_name-requires-clause-linked
own_name-requires-clause-linked c = c.self.invariant.0.tree.linked

pub own_name-requires-clause-live : goal.own_name-requires-clause-live
own_name-requires-clause-live c = node-within c.self.inside.nodes.items c.self.inside.order.items (get nat_eq c.self.inside.places) c.self.invariant.0.tree c.args.at c.get_near-n.result (live-at _ _ c.args.self.now.rows c.args.at (ap (λ (s : TreeState). s.rows) c.self.view_is) c.requires) c.get_near-n.ensures

pub row-requires : goal.row-requires
row-requires c = node-within c.self.inside.nodes.items c.self.inside.order.items (get nat_eq c.self.inside.places) c.self.invariant.0.tree c.args.at c.get_near-n.result (live-at _ _ c.args.self.now.rows c.args.at (ap (λ (s : TreeState). s.rows) c.self.view_is) c.requires) c.get_near-n.ensures
