use Rattle.std.proofs.Common.{◌≤◌, ap, arith, length, string_capacity, subst, sym, ◌∙◌}
use Rattle.std.specs.HashMap.{get, spare}
use Rattle.std.specs.Bool.{nat_eq}
use Rattle.inode_tree.specs.Rows.{TreeState, entry_of, is_dir_at, need, row_at}
use Rattle.name_calls.specs.Paths.{parent}
use Rattle.inode_tree.proofs.Asked.{fresh-number}
use Rattle.inode_tree.proofs.Ranks.{length-rows}
use Rattle.inode_tree.proofs.Rooms.{room-parts}
use Rattle.inode_tree.proofs.tree.Tree.mkdir.Goals as goal

pub add-requires-clause-absent : goal.add-requires-clause-absent
add-requires-clause-absent c = ap (λ (s : TreeState). row_at s.rows c.args.path.now) c.self.view_is ∙ c.requires.absent

pub add-requires-clause-housed : goal.add-requires-clause-housed
add-requires-clause-housed c = ap (λ (s : TreeState). is_dir_at (row_at s.rows (parent c.args.path.now))) c.self.view_is ∙ c.requires.parent

pub add-requires-clause-fresh : goal.add-requires-clause-fresh
add-requires-clause-fresh c = fresh-number c.self.inside.nodes.items c.self.inside.order.items (get nat_eq c.self.inside.places) c.args.id c.self.invariant.0.tree (ap (λ (s : TreeState). entry_of s.rows c.args.id) c.self.view_is ∙ c.requires.fresh)

pub add-requires-clause-count : goal.add-requires-clause-count
add-requires-clause-count c = let e = ap (λ (s : TreeState). length s.rows) c.self.view_is in let n = c.requires.count in omega (arith, length-rows c.self.inside.nodes.items c.self.inside.order.items)

pub returns-clause-room : goal.returns-clause-room
returns-clause-room c = λ h. c.add.ensures.had (room-parts (length c.self.inside.free.items) c.self.inside.order.spare (spare c.self.inside.places) (string_capacity c.self.inside.ready) c.args.path.now (subst (λ (s : TreeState). need c.args.path.now ≤ s.spare) (sym c.self.view_is) h))
