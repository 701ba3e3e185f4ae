use Rattle.std.proofs.Common.{◌∙◌, ◌<◌, List, ap, sym, length}
use Rattle.std.specs.Prelude.{slice_get}
use Rattle.std.specs.Option.{option_map}
use Rattle.inode_tree.specs.Rows.{Entry}
use Rattle.inode_tree.proofs.Places.{at-place, live-at}
use Rattle.inode_tree.specs.Rows.{TreeState}
use Rattle.std.specs.HashMap.{get}
use Rattle.std.specs.Bool.{nat_eq}
use Rattle.inode_tree.proofs.Insides.{node-within}
use Rattle.inode_tree.proofs.tree.Tree.row_at_place.Goals as goal

pub returns : goal.returns
returns c =
    let at : c.args.at < length c.self.inside.order.items = live-at _ _ c.args.self.now.rows c.args.at (ap (λ (s : TreeState). s.rows) c.self.view_is) c.requires in
    ap (λ (rows : List Entry). option_map (λ (e : Entry). e.row) (slice_get rows c.args.at)) (sym (ap (λ (s : TreeState). s.rows) c.self.view_is))
    ∙ at-place (λ (e : Entry). e.row) c.self.inside.nodes.items c.self.inside.order.items c.args.at c.get.result c.row.result.now at c.get.ensures
    c.row.ensures

pub get-requires : goal.get-requires
get-requires c = live-at _ _ c.args.self.now.rows c.args.at (ap (λ (s : TreeState). s.rows) c.self.view_is) c.requires

pub row-requires : goal.row-requires
row-requires c = node-within c.self.inside.nodes.items c.self.inside.order.items (get nat_eq c.self.inside.places) c.self.invariant.0.tree c.args.at c.get.result (live-at _ _ c.args.self.now.rows c.args.at (ap (λ (s : TreeState). s.rows) c.self.view_is) c.requires) c.get.ensures
