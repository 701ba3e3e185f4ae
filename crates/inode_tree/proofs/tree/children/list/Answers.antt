use Rattle.std.proofs.Common.{arith, ◌≡◌, ◌∙◌, ◌<◌, ◌+◌, ◌++◌, ◌∷◌, [], ℕ, List, length, get_or, sym, ap, take_all, drop, append_assoc}
use Rattle.std.proofs.lemmas.List.{append-nil}
use Rattle.inode_tree.specs.declared.rows.Link.{Link}
use Rattle.inode_tree.specs.declared.rows.Node.{Node}
use Rattle.inode_tree.specs.declared.rows.Row.{Row}
use Rattle.name_calls.specs.declared.listing.Child.{Child}
use Rattle.inode_tree.specs.Arena.{IsSkip, link_at, node_at, path_of, rank, rank_past, rows_of}
use Rattle.inode_tree.specs.Listing.{children}
use Rattle.inode_tree.specs.Rows.{is_dir}
use Rattle.inode_tree.proofs.Listings.{children-past, children-rank, passed, taken}
use Rattle.inode_tree.proofs.Pasts.{past-most, rank-past}
use Rattle.inode_tree.proofs.Ranks.{length-rows}
use Rattle.inode_tree.proofs.Insides.{after, at-most, nearer, node-within}
use Rattle.inode_tree.proofs.tree.children.list.Goals as goal

-- a place before the last below the path
inside : (ns : List Node) (order : List ℕ) (p : List (List ℕ)) (at end : ℕ) → end ≡ rank_past (rows_of ns order) p → at < end → at < length order
inside ns order p at end e h = let m = past-most (rows_of ns order) p in omega (arith, length-rows ns order)

-- the list with one more child
with-child : (list list' rest all : List Child) (x y : Child) → list' ≡ list ++ x ∷ [] → x ≡ y → list ++ y ∷ rest ≡ all → list' ++ rest ≡ all
with-child list list' rest all x y e f g = ap (λ (cs : List Child). cs ++ rest) (e ∙ ap (λ (z : Child). list ++ z ∷ []) f) ∙ append_assoc list (y ∷ []) rest ∙ g

pub past-end-requires-clause-from : goal.past-end-requires-clause-from
past-end-requires-clause-from c =
    let e = c.place-at.ensures ∙ ap (rank (rows_of c.args.nodes.now.items c.args.order.now.items)) (take_all c.len.result c.args.path.now (let l = c.len.ensures.len in omega arith)) in
    let f = rank-past (rows_of c.args.nodes.now.items c.args.order.now.items) c.args.path.now in omega arith

pub each-init : goal.each-init
each-init c =
    let e : c.place-at.result ≡ rank (rows_of c.args.nodes.now.items c.args.order.now.items) c.args.path.now = c.place-at.ensures ∙ ap (rank (rows_of c.args.nodes.now.items c.args.order.now.items)) (take_all c.len.result c.args.path.now (let l = c.len.ensures.len in omega arith)) in
    record {
      low = omega arith;
      rest = ap (λ (cs : List Child). cs ++ children (drop c.place-at.result (rows_of c.args.nodes.now.items c.args.order.now.items)) c.args.path.now) c.new-list.ensures
          ∙ ap (λ (k : ℕ). children (drop k (rows_of c.args.nodes.now.items c.args.order.now.items)) c.args.path.now) e
          ∙ children-rank (rows_of c.args.nodes.now.items c.args.order.now.items) c.args.path.now;
    }

pub get-n-requires : goal.get-n-requires
get-n-requires c = inside c.args.nodes.now.items c.args.order.now.items c.args.path.now c.each.at c.past-end.result c.past-end.ensures c.each-test.true

pub skip-requires-clause-at : goal.skip-requires-clause-at
skip-requires-clause-at c = inside c.args.nodes.now.items c.args.order.now.items c.args.path.now c.each.at c.past-end.result c.past-end.ensures c.each-test.true

pub each-preserved : goal.each-preserved
each-preserved c =
    let high : c.each.at < rank_past (rows_of c.args.nodes.now.items c.args.order.now.items) c.args.path.now = let e = c.past-end.ensures in let t = c.each-test.true in omega arith in
    record {
      low = let l = c.each.invariant.low in omega arith;
      rest = ap (λ (cs : List Child). c.each.list ++ cs)
          (sym (passed c.args.nodes.now.items c.args.order.now.items c.requires.tree.0 c.requires.tree.1 c.each.at (inside c.args.nodes.now.items c.args.order.now.items c.args.path.now c.each.at c.past-end.result c.past-end.ensures c.each-test.true) c.args.path.now c.each.invariant.low high
          (λ e. c.if-depth-len.false (c.depth.ensures ∙ ap (λ (m : ℕ). length (path_of c.args.nodes.now.items m)) c.get-n.ensures ∙ e ∙ ap (λ (k : ℕ). k + 1) (sym c.len-in-each.ensures.len)))))
          ∙ c.each.invariant.rest;
    }

pub each-preserved-then-depth-len : goal.each-preserved-then-depth-len
each-preserved-then-depth-len c =
    let high : c.each.at < rank_past (rows_of c.args.nodes.now.items c.args.order.now.items) c.args.path.now = let e = c.past-end.ensures in let t = c.each-test.true in omega arith in
    let within : c.each.at < length c.args.order.now.items = inside c.args.nodes.now.items c.args.order.now.items c.args.path.now c.each.at c.past-end.result c.past-end.ensures c.each-test.true in
    let skip : IsSkip c.args.nodes.now.items c.args.order.now.items c.each.at c.in_ok-at.at = c.in_ok-at.ensures in
    let long : length (path_of c.args.nodes.now.items (get_or c.args.order.now.items c.each.at 0)) ≡ length c.args.path.now + 1 =
    ap (λ (m : ℕ). length (path_of c.args.nodes.now.items m)) (sym c.get-n.ensures) ∙ sym c.depth.ensures ∙ c.if-depth-len.true ∙ ap (λ (k : ℕ). k + 1) c.len-in-each.ensures.len in
    let link : c.link.result.now ≡ link_at c.args.nodes.now.items (get_or c.args.order.now.items c.each.at 0) = c.link.ensures ∙ ap (link_at c.args.nodes.now.items) c.get-n.ensures in
    let row : c.row.result.now ≡ (node_at c.args.nodes.now.items (get_or c.args.order.now.items c.each.at 0)).row = c.row.ensures ∙ ap (λ (m : ℕ). (node_at c.args.nodes.now.items m).row) c.get-n.ensures in
    record {
      low = let l = c.each.invariant.low in let a = skip.after in omega arith;
      rest = with-child c.each.list c.push.new.list (children (drop c.in_ok-at.at (rows_of c.args.nodes.now.items c.args.order.now.items)) c.args.path.now) _ (record { name = c.link.result.now.name; directory = is_dir c.row.result.now.kind }) _ c.in_ok-push.ensures
          (ap (λ (x : Link). record { name = x.name; directory = is_dir c.row.result.now.kind }) link ∙ ap (λ (x : Row). record { name = (node_at c.args.nodes.now.items (get_or c.args.order.now.items c.each.at 0)).name; directory = is_dir x.kind }) row)
          (ap (λ (cs : List Child). c.each.list ++ cs) (sym (taken c.args.nodes.now.items c.args.order.now.items c.requires.tree.0 c.requires.tree.1 c.each.at within c.args.path.now c.each.invariant.low high c.in_ok-at.at skip long)) ∙ c.each.invariant.rest);
    }

pub returns : goal.returns
returns c =
    sym (append-nil c.each.list)
    ∙ ap (λ (cs : List Child). c.each.list ++ cs) (sym (children-past (rows_of c.args.nodes.now.items c.args.order.now.items) c.args.path.now c.each.at c.requires.tree.1.rising (let e = c.past-end.ensures in let t = c.each-test.false in omega arith)))
    ∙ c.each.invariant.rest

pub place-at-requires-clause-upto : goal.place-at-requires-clause-upto
place-at-requires-clause-upto c = at-most _ _ c.len.ensures.len

pub past-end-requires-clause-linked : goal.past-end-requires-clause-linked
past-end-requires-clause-linked c = c.requires.tree.1.linked

pub past-end-requires-clause-within : goal.past-end-requires-clause-within
past-end-requires-clause-within c = c.requires.tree.1.within

pub past-end-requires-clause-rising : goal.past-end-requires-clause-rising
past-end-requires-clause-rising c = c.requires.tree.1.rising

pub depth-requires-clause-linked : goal.depth-requires-clause-linked
depth-requires-clause-linked c = c.requires.tree.1.linked

pub depth-requires-clause-live : goal.depth-requires-clause-live
depth-requires-clause-live c = node-within c.args.nodes.now.items c.args.order.now.items c.requires.tree.0 c.requires.tree.1 c.each.at c.get-n.result (inside c.args.nodes.now.items c.args.order.now.items c.args.path.now c.each.at c.past-end.result c.past-end.ensures c.each-test.true) c.get-n.ensures

pub link-requires : goal.link-requires
link-requires c = node-within c.args.nodes.now.items c.args.order.now.items c.requires.tree.0 c.requires.tree.1 c.each.at c.get-n.result (inside c.args.nodes.now.items c.args.order.now.items c.args.path.now c.each.at c.past-end.result c.past-end.ensures c.each-test.true) c.get-n.ensures

pub row-requires : goal.row-requires
row-requires c = node-within c.args.nodes.now.items c.args.order.now.items c.requires.tree.0 c.requires.tree.1 c.each.at c.get-n.result (inside c.args.nodes.now.items c.args.order.now.items c.args.path.now c.each.at c.past-end.result c.past-end.ensures c.each-test.true) c.get-n.ensures

pub each-smaller : goal.each-smaller
each-smaller c = nearer c.each.at (c.each.at + 1) c.past-end.result (after c.each.at) c.each-test.true

pub each-smaller-then-depth-len : goal.each-smaller-then-depth-len
each-smaller-then-depth-len c = nearer c.each.at c.in_ok-at.at c.past-end.result c.in_ok-at.ensures.after c.each-test.true
