use Rattle.std.proofs.Common.{length, string_capacity}
use Rattle.std.specs.HashMap.{spare}
use Rattle.inode_tree.proofs.Rooms.{enough, on-ok}
use Rattle.inode_tree.proofs.tree.Tree.reserve_add_file.Goals as goal

pub returns-clause-ok : goal.returns-clause-ok
returns-clause-ok c = on-ok c.make_room.result (enough (length c.make_room.new.free.items) c.make_room.new.order.spare (spare c.make_room.new.places) (string_capacity c.make_room.new.ready) c.last_len.result c.args.path.now c.last_len.ensures) c.make_room.ensures.ok
