use Rattle.std.proofs.Common.{◌∙◌, ◌-◌, ℕ, List, ap, sym, length, drop}
use Rattle.std.specs.Prelude.{slice_get}
use Rattle.std.specs.Option.{option_map}
use Rattle.inode_tree.specs.Arena.{path_of}
use Rattle.inode_tree.specs.Rows.{Entry}
use Rattle.inode_tree.proofs.Places.{at-place, each-ok, from-end, live-at}
use Rattle.inode_tree.specs.Rows.{TreeState}
use Rattle.std.specs.HashMap.{get}
use Rattle.std.specs.Bool.{nat_eq}
use Rattle.inode_tree.proofs.Insides.{fewer, node-relative, node-within}
use Rattle.inode_tree.proofs.tree.Tree.path_from.Goals as goal

pub returns : goal.returns
returns c = each-ok c.build_last.result (λ path e.
    ap (λ (rows : List Entry). option_map (λ (x : Entry). drop c.args.from x.path) (slice_get rows c.args.at)) (sym (ap (λ (s : TreeState). s.rows) c.self.view_is))
    ∙ at-place (λ (x : Entry). drop c.args.from x.path) c.self.inside.nodes.items c.self.inside.order.items c.args.at c.get-n.result path
    (live-at _ _ c.args.self.now.rows c.args.at (ap (λ (s : TreeState). s.rows) c.self.view_is) c.requires) c.get-n.ensures
    (e ∙ ap (λ (k : ℕ). drop (length (path_of c.self.inside.nodes.items c.get-n.result) - k) (path_of c.self.inside.nodes.items c.get-n.result)) (c.saturating_sub-count.ensures ∙ ap (λ (k : ℕ). k - c.args.from) c.depth.ensures)
    ∙ from-end (path_of c.self.inside.nodes.items c.get-n.result) c.args.from)) c.build_last.ensures

pub get-n-requires : goal.get-n-requires
get-n-requires c = live-at _ _ c.args.self.now.rows c.args.at (ap (λ (s : TreeState). s.rows) c.self.view_is) c.requires

pub depth-requires-clause-linked : goal.depth-requires-clause-linked
depth-requires-clause-linked c = c.self.invariant.0.tree.linked

pub depth-requires-clause-live : goal.depth-requires-clause-live
depth-requires-clause-live c = node-within c.self.inside.nodes.items c.self.inside.order.items (get nat_eq c.self.inside.places) c.self.invariant.0.tree c.args.at c.get-n.result (live-at _ _ c.args.self.now.rows c.args.at (ap (λ (s : TreeState). s.rows) c.self.view_is) c.requires) c.get-n.ensures

pub build_last-requires-clause-linked : goal.build_last-requires-clause-linked
build_last-requires-clause-linked c = c.self.invariant.0.tree.linked

pub build_last-requires-clause-live : goal.build_last-requires-clause-live
build_last-requires-clause-live c = node-within c.self.inside.nodes.items c.self.inside.order.items (get nat_eq c.self.inside.places) c.self.invariant.0.tree c.args.at c.get-n.result (live-at _ _ c.args.self.now.rows c.args.at (ap (λ (s : TreeState). s.rows) c.self.view_is) c.requires) c.get-n.ensures

pub build_last-requires-clause-rule : goal.build_last-requires-clause-rule
build_last-requires-clause-rule c = node-relative c.self.inside.nodes.items c.self.inside.order.items (get nat_eq c.self.inside.places) c.self.invariant.0.tree c.args.at c.get-n.result (live-at _ _ c.args.self.now.rows c.args.at (ap (λ (s : TreeState). s.rows) c.self.view_is) c.requires) c.get-n.ensures

pub build_last-requires-clause-count : goal.build_last-requires-clause-count
build_last-requires-clause-count c = fewer c.depth.result c.args.from c.saturating_sub-count.result _ c.saturating_sub-count.ensures c.depth.ensures
