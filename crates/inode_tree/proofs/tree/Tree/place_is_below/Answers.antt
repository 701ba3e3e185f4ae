use Rattle.std.proofs.Common.{◌∙◌, List, ap, sym}
use Rattle.std.specs.Prelude.{slice_get}
use Rattle.std.specs.Option.{option_map}
use Rattle.std.specs.HashMap.{get}
use Rattle.std.specs.Bool.{nat_eq}
use Rattle.name_calls.specs.Paths.{is_prefix}
use Rattle.inode_tree.specs.Rows.{Entry, TreeState}
use Rattle.inode_tree.proofs.Insides.{node-within}
use Rattle.inode_tree.proofs.Places.{at-place, live-at}
use Rattle.inode_tree.proofs.tree.Tree.place_is_below.Goals as goal

pub get-requires : goal.get-requires
get-requires c = live-at _ _ c.args.self.now.rows c.args.at (ap (λ (s : TreeState). s.rows) c.self.view_is) c.requires

pub below-requires-clause-linked : goal.below-requires-clause-linked
below-requires-clause-linked c = c.self.invariant.0.tree.linked

pub below-requires-clause-live : goal.below-requires-clause-live
below-requires-clause-live c = node-within c.self.inside.nodes.items c.self.inside.order.items (get nat_eq c.self.inside.places) c.self.invariant.0.tree c.args.at c.get.result (live-at _ _ c.args.self.now.rows c.args.at (ap (λ (s : TreeState). s.rows) c.self.view_is) c.requires) c.get.ensures

pub returns : goal.returns
returns c =
    ap (λ (rows : List Entry). option_map (λ (e : Entry). is_prefix c.args.path.now e.path) (slice_get rows c.args.at)) (sym (ap (λ (s : TreeState). s.rows) c.self.view_is))
    ∙ at-place (λ (e : Entry). is_prefix c.args.path.now e.path) c.self.inside.nodes.items c.self.inside.order.items c.args.at c.get.result c.below.result (live-at _ _ c.args.self.now.rows c.args.at (ap (λ (s : TreeState). s.rows) c.self.view_is) c.requires) c.get.ensures c.below.ensures
