use Rattle.std.proofs.Common.{◌∙◌, ◌≤◌, ℕ, List, ap, sym, subst}
use Rattle.std.specs.Prelude.{string_capacity}
use Rattle.inode_tree.specs.Rows.{Entry, TreeState}
use Rattle.inode_tree.specs.Moves.{CanMove, renamed}
use Rattle.inode_tree.proofs.tree.Tree.rename.Goals as goal

pub make_room-requires-clause-kept : goal.make_room-requires-clause-kept
make_room-requires-clause-kept c = c.self.invariant.0

pub make_room-requires-clause-ready : goal.make_room-requires-clause-ready
make_room-requires-clause-ready c = c.self.invariant.1

pub relocate-requires-clause-kept : goal.relocate-requires-clause-kept
relocate-requires-clause-kept c = c.make_room.ensures.kept

pub relocate-requires-clause-ready : goal.relocate-requires-clause-ready
relocate-requires-clause-ready c = c.make_room.ensures.ready

pub relocate-requires-clause-room : goal.relocate-requires-clause-room
relocate-requires-clause-room c = (c.in_ok-make_room.ensures.ok.1, subst (λ (n : ℕ). n ≤ string_capacity c.make_room.new.ready) c.last_len.ensures c.in_ok-make_room.ensures.ok.3)

pub relocate-requires-clause-can : goal.relocate-requires-clause-can
relocate-requires-clause-can c = subst (λ (rows : List Entry). CanMove rows c.args.path.now c.args.to.now) (sym (c.make_room.ensures.rows ∙ ap (λ (s : TreeState). s.rows) c.self.view_is)) c.requires

pub returns-clause-ok : goal.returns-clause-ok
returns-clause-ok c = c.relocate.ensures.rows ∙ ap (renamed c.args.path.now c.args.to.now) (c.make_room.ensures.rows ∙ ap (λ (s : TreeState). s.rows) c.self.view_is)
