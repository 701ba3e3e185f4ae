use Rattle.std.proofs.Common.{◌≡◌, ◌∙◌, arith}
use Rattle.inode_tree.specs.Arena.{rank, rows_of}
use Rattle.inode_tree.proofs.MovedTrees.{runs-left, runs-right}
use Rattle.inode_tree.proofs.Pasts.{rank-past}
use Rattle.inode_tree.proofs.Insides.{at-most, place-is, shifted-left, shifted-right}
use Rattle.inode_tree.proofs.tree.moves.shift.Goals as goal

pub swap_runs-requires-clause-runs : goal.swap_runs-requires-clause-runs
swap_runs-requires-clause-runs c =
    let t = c.requires.tree in
    let a : c.place-at.result ≡ rank (rows_of c.args.nodes.now.items c.args.order.now.items) c.args.to.now = place-is (rows_of c.args.nodes.now.items c.args.order.now.items) c.args.to.now c.len-2.result c.place-at.result c.len-2.ensures.len c.place-at.ensures in
    let f : c.place-from.result ≡ rank (rows_of c.args.nodes.now.items c.args.order.now.items) c.args.path.now = place-is (rows_of c.args.nodes.now.items c.args.order.now.items) c.args.path.now c.len.result c.place-from.result c.len.ensures.len c.place-from.ensures in
    let e = c.past-end.ensures in
    let b = c.if-at-from.true in
    let w = runs-left c.args.nodes.now.items c.args.order.now.items t.0 t.1 c.args.path.now c.args.to.now c.requires.can (omega arith) in
    (b, let x = w.1 in omega arith, let x = w.2 in omega arith)

pub swap_runs-requires-else-at-from-clause-runs : goal.swap_runs-requires-else-at-from-clause-runs
swap_runs-requires-else-at-from-clause-runs c =
    let t = c.requires.tree in
    let a : c.place-at.result ≡ rank (rows_of c.args.nodes.now.items c.args.order.now.items) c.args.to.now = place-is (rows_of c.args.nodes.now.items c.args.order.now.items) c.args.to.now c.len-2.result c.place-at.result c.len-2.ensures.len c.place-at.ensures in
    let f : c.place-from.result ≡ rank (rows_of c.args.nodes.now.items c.args.order.now.items) c.args.path.now = place-is (rows_of c.args.nodes.now.items c.args.order.now.items) c.args.path.now c.len.result c.place-from.result c.len.ensures.len c.place-from.ensures in
    let e = c.past-end.ensures in
    let b = c.if-at-from.false in
    let w = runs-right c.args.nodes.now.items c.args.order.now.items t.0 t.1 c.args.path.now c.args.to.now c.requires.can (λ k. omega arith) in
    (let x = w.0 in omega arith, let x = w.1 in omega arith, let x = w.2 in omega arith)

pub past-end-requires-clause-from : goal.past-end-requires-clause-from
past-end-requires-clause-from c =
    let e = place-is (rows_of c.args.nodes.now.items c.args.order.now.items) c.args.path.now c.len.result c.place-from.result c.len.ensures.len c.place-from.ensures in
    let f = rank-past (rows_of c.args.nodes.now.items c.args.order.now.items) c.args.path.now in omega arith

pub place-from-requires-clause-upto : goal.place-from-requires-clause-upto
place-from-requires-clause-upto c = at-most _ _ c.len.ensures.len

pub place-at-requires-clause-upto : goal.place-at-requires-clause-upto
place-at-requires-clause-upto c = at-most _ _ c.len-2.ensures.len

pub past-end-requires-clause-linked : goal.past-end-requires-clause-linked
past-end-requires-clause-linked c = c.requires.tree.1.linked

pub past-end-requires-clause-within : goal.past-end-requires-clause-within
past-end-requires-clause-within c = c.requires.tree.1.within

pub past-end-requires-clause-rising : goal.past-end-requires-clause-rising
past-end-requires-clause-rising c = c.requires.tree.1.rising

pub swap_runs-requires-clause-room : goal.swap_runs-requires-clause-room
swap_runs-requires-clause-room c = c.requires.room

pub swap_runs-requires-clause-count : goal.swap_runs-requires-clause-count
swap_runs-requires-clause-count c = c.requires.tree.1.few

pub swap_runs-requires-else-at-from-clause-room : goal.swap_runs-requires-else-at-from-clause-room
swap_runs-requires-else-at-from-clause-room c = c.requires.room

pub swap_runs-requires-else-at-from-clause-count : goal.swap_runs-requires-else-at-from-clause-count
swap_runs-requires-else-at-from-clause-count c = c.requires.tree.1.few

pub returns-then-at-from : goal.returns-then-at-from
returns-then-at-from c = c.swap_runs.ensures ∙ shifted-left c.place-from.result c.past-end.result c.place-at.result _ _ _ c.args.order.now.items (place-is (rows_of c.args.nodes.now.items c.args.order.now.items) c.args.path.now c.len.result c.place-from.result c.len.ensures.len c.place-from.ensures) c.past-end.ensures (place-is (rows_of c.args.nodes.now.items c.args.order.now.items) c.args.to.now c.len-2.result c.place-at.result c.len-2.ensures.len c.place-at.ensures) c.if-at-from.true

pub returns-else-at-from : goal.returns-else-at-from
returns-else-at-from c = c.swap_runs-else-at-from.ensures ∙ shifted-right c.place-from.result c.past-end.result c.place-at.result _ _ _ c.args.order.now.items (place-is (rows_of c.args.nodes.now.items c.args.order.now.items) c.args.path.now c.len.result c.place-from.result c.len.ensures.len c.place-from.ensures) c.past-end.ensures (place-is (rows_of c.args.nodes.now.items c.args.order.now.items) c.args.to.now c.len-2.result c.place-at.result c.len-2.ensures.len c.place-at.ensures) c.if-at-from.false
