use Rattle.std.proofs.Common.{arith, length, take, ◌≤◌, ℕ, List}
use Rattle.inode_tree.specs.Arena.{HoldsRank, rows_of}
use Rattle.inode_tree.specs.declared.rows.Node.{Node}
use Rattle.inode_tree.proofs.Ranks.{rank-most, length-rows}
use Rattle.inode_tree.proofs.climbs.place_from.Goals as goal

all-places : (ns : List Node) (order : List ℕ) (p : List (List ℕ)) (high : ℕ) → length order ≤ high → high ≤ length order → HoldsRank ns order p 0 high
all-places ns order p high a b = let most = rank-most (rows_of ns order) p in (omega arith, omega (arith, length-rows ns order), omega arith)

pub narrow-after-requires-clause-around : goal.narrow-after-requires-clause-around
narrow-after-requires-clause-around c = all-places c.args.nodes.now.items c.args.order.now.items (take c.args.upto c.args.path.now) c.len.result (let e = c.len.ensures in omega arith) (let e = c.len.ensures in omega arith)
