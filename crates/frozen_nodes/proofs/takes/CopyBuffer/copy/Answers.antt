use Rattle.std.proofs.Common.{◌≡◌, ◌∙◌, ◌-◌, ap, arith, length}
use Rattle.std.specs.Vec.{vec_capacity, vec_len}
use Rattle.inode_tree.specs.Below.{RowView}
use Rattle.frozen_nodes.specs.Copies.{CopyRoom}
use Rattle.frozen_nodes.proofs.Blocks.{block-count, copied-block}
use Rattle.frozen_nodes.proofs.Copying.{view-is}
use Rattle.frozen_nodes.proofs.takes.CopyBuffer.copy.Goals as goal

pub copy-copied-requires-clause-row : goal.copy-copied-requires-clause-row
copy-copied-requires-clause-row c = view-is c.args.tree.now.rows c.args.at (record { depth = c.placed_row-row.result.depth; name = c.placed_row-row.result.name.now; row = c.placed_row-row.result.row.now }) c.placed_row-row.ensures

pub copy-copied-requires-clause-room : goal.copy-copied-requires-clause-room
copy-copied-requires-clause-room c =
    let count = block-count c.args.tree.now.rows c.rows-count.ensures.rules c.args.path.now c.args.at c.args.end c.requires.block in
    record {
      nodes_fit = omega (arith, count, c.requires.room.nodes_fit.nodes_fit);
      kids_fit = omega (arith, count, c.requires.room.nodes_fit.kids_fit);
      bytes_fit = omega (arith, count, c.requires.room.nodes_fit.bytes_fit);
    }

pub copy-copied-requires-clause-kids_room : goal.copy-copied-requires-clause-kids_room
copy-copied-requires-clause-kids_room c =
    let count = block-count c.args.tree.now.rows c.rows-count.ensures.rules c.args.path.now c.args.at c.args.end c.requires.block in
    let room : vec_capacity c.self.inside.kids - vec_len c.self.inside.kids ≡ c.args.self.now.kids = ap (λ (r : CopyRoom). r.kids) c.self.view_is in
    omega (arith, count, room, c.requires.room.kids_fit, c.requires.block.after)

pub returns-clause-rows : goal.returns-clause-rows
returns-clause-rows c =
    copied-block c.args.tree.now.rows c.rows-count.ensures.rules c.args.path.now c.args.at c.args.end c.requires.block
    c.args.forest.now.nodes c.copy-copied.new.self.nodes c.copy-copied.result.node c.copy-copied.result.next c.placed_row-row.result.depth (ap (λ (v : RowView). v.depth) (view-is c.args.tree.now.rows c.args.at (record { depth = c.placed_row-row.result.depth; name = c.placed_row-row.result.name.now; row = c.placed_row-row.result.row.now }) c.placed_row-row.ensures) ∙ ap length c.requires.block.path) c.copy-copied.ensures.copy
