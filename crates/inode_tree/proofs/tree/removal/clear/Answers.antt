use Rattle.std.proofs.Common.{arith, ◌≡◌, ◌∙◌, ◌≤◌, ◌+◌, ◌-◌, List, refl, sym, ap, take_all}
use Rattle.std.specs.Bool.{nat_eq}
use Rattle.std.specs.HashMap.{get}
use Rattle.inode_tree.specs.Arena.{rank, rank_past, rows_of}
use Rattle.inode_tree.specs.Rows.{Entry, removed}
use Rattle.inode_tree.proofs.Pasts.{block-at, last-leaf, past-most, past-remove, rank-past, rank-remove, removed-none, removed-remove}
use Rattle.inode_tree.proofs.tree.removal.clear.Goals as goal

pub past-end-requires-clause-from : goal.past-end-requires-clause-from
past-end-requires-clause-from c =
    let e = c.place-from.ensures ∙ ap (rank (rows_of c.args.nodes.now.items c.args.order.now.items)) (take_all c.len.result c.args.path.now (let l = c.len.ensures.len in omega arith)) in
    let f = rank-past (rows_of c.args.nodes.now.items c.args.order.now.items) c.args.path.now in omega arith

pub each-init : goal.each-init
each-init c = record {
  kept = c.requires.kept;
  from = c.place-from.ensures ∙ ap (rank (rows_of c.args.nodes.now.items c.args.order.now.items)) (take_all c.len.result c.args.path.now (let e = c.len.ensures.len in omega arith));
  end = c.past-end.ensures;
  rows = refl;
}

pub take_out-requires-clause-leaf : goal.take_out-requires-clause-leaf
take_out-requires-clause-leaf c =
    last-leaf c.each.nodes.items c.each.order.items (get nat_eq c.each.places) c.args.path.now (c.each.end - 1) c.each.invariant.kept.tree c.requires.deep
    (let f = c.each.invariant.from in let t = c.each-test.true in omega arith) (let e = c.each.invariant.end in let t = c.each-test.true in omega arith)

pub each-preserved : goal.each-preserved
each-preserved c =
    let rising = c.each.invariant.kept.tree.rising in
    let high : rank_past (rows_of c.each.nodes.items c.each.order.items) c.args.path.now ≡ c.each.end - 1 + 1 = let e = c.each.invariant.end in let t = c.each-test.true in omega arith in
    let low : rank (rows_of c.each.nodes.items c.each.order.items) c.args.path.now ≤ c.each.end - 1 = let f = c.each.invariant.from in let t = c.each-test.true in omega arith in
    record {
      kept = c.take_out.ensures.kept;
      from = c.each.invariant.from ∙ sym (rank-remove (rows_of c.each.nodes.items c.each.order.items) c.args.path.now (c.each.end - 1) rising low) ∙ ap (λ (es : List Entry). rank es c.args.path.now) (sym c.take_out.ensures.rows);
      end = sym (past-remove (rows_of c.each.nodes.items c.each.order.items) c.args.path.now (c.each.end - 1) high) ∙ ap (λ (es : List Entry). rank_past es c.args.path.now) (sym c.take_out.ensures.rows);
      rows = ap (removed c.args.path.now) c.take_out.ensures.rows
          ∙ removed-remove (rows_of c.each.nodes.items c.each.order.items) c.args.path.now (c.each.end - 1) (let m = past-most (rows_of c.each.nodes.items c.each.order.items) c.args.path.now in omega arith)
          (block-at (rows_of c.each.nodes.items c.each.order.items) c.args.path.now (c.each.end - 1) rising low (omega arith))
          ∙ c.each.invariant.rows;
    }

pub returns-clause-rows : goal.returns-clause-rows
returns-clause-rows c =
    sym (removed-none (rows_of c.each.nodes.items c.each.order.items) c.args.path.now c.each.invariant.kept.tree.rising (let f = c.each.invariant.from in let e = c.each.invariant.end in let t = c.each-test.false in omega arith))
    ∙ c.each.invariant.rows
