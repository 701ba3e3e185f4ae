use Rattle.std.proofs.Common.{◌≡◌, ◌≤◌, ◌<◌, ◌-◌, ℕ, Option, List, length, get_or, take, drop, map, true, sym, ap, ◌∙◌, arith, take_all}
use Rattle.std.specs.Prelude.{max}
use Rattle.std.specs.List.{between}
use Rattle.name_calls.specs.Paths.{is_prefix, is_relative, names_text}
use Rattle.name_calls.proofs.PathLemmas.{relative-short}
use Rattle.inode_tree.specs.declared.rows.Node.{Node}
use Rattle.inode_tree.specs.Rows.{Entry}
use Rattle.inode_tree.specs.Arena.{IsTree, path_of, rank, rank_past, rows_of}
use Rattle.inode_tree.specs.Moves.{greatest}
use Rattle.inode_tree.proofs.MovedLengths.{bytes-run, names_below, size_below, names-number, names-run, none-from-end, one-more, size-last}
use Rattle.inode_tree.proofs.MovedPlaces.{rank-upto}
use Rattle.inode_tree.proofs.Pasts.{block-at, past-most, rank-past}
use Rattle.inode_tree.proofs.Ranks.{length-rows, rows-at}
use Rattle.inode_tree.proofs.ZoneLemmas.{prefix-length}
use Rattle.inode_tree.proofs.Insides.{at-most, fewer, node-within, shorter}
use Rattle.std.proofs.Common.{refl}
use Rattle.inode_tree.proofs.tree.lengths.scan.Goals as goal

-- values that the code reads, over plain variables
module _ (ns : List Node) (order : List ℕ) (ids : ℕ → Option ℕ) (t : IsTree ns order ids) (p : List (List ℕ)) (from at : ℕ) (ef : from ≡ rank (rows_of ns order) p) (low : rank (rows_of ns order) p ≤ at) (high : at ≤ rank_past (rows_of ns order) p) (more : from < at) where
  pub inside : at - 1 < length order
  inside = let m = past-most (rows_of ns order) p in omega (arith, length-rows ns order)

  module _ (n : ℕ) (en : n ≡ get_or order (at - 1) 0) where
    pub below : is_prefix p (path_of ns n) ≡ true
    below =
        ap (λ (k : ℕ). is_prefix p (path_of ns k)) en ∙ ap (λ (e : Entry). is_prefix p e.path) (sym (rows-at ns order (at - 1) inside))
        ∙ block-at (rows_of ns order) p (at - 1) t.rising (omega arith) (omega arith)

    pub ruled : is_relative (path_of ns n) ≡ true
    ruled = ap (λ (k : ℕ). is_relative (path_of ns k)) en ∙ t.ruled (at - 1) inside

    pub longer : length p ≤ length (path_of ns n)
    longer = prefix-length p (path_of ns n) below

    module _ (depth len : ℕ) (ed : depth ≡ length (path_of ns n)) (el : len ≡ length p) where
      pub fits : (len ≤ depth) × (depth - len ≤ 100)
      fits = let s = relative-short (path_of ns n) ruled in let l = longer in (omega arith, omega arith)

      count-is : depth - len ≡ length (path_of ns n) - length p
      count-is = omega arith

      pub names : (old : ℕ) → old ≡ greatest (map (names_below p) (between at (rank_past (rows_of ns order) p) (rows_of ns order))) → max old (depth - len) ≡ greatest (map (names_below p) (between (at - 1) (rank_past (rows_of ns order) p) (rows_of ns order)))
      names old e =
          let m = past-most (rows_of ns order) p in
          let f = one-more (names_below p) ns order at (rank_past (rows_of ns order) p) n (omega arith) high (omega (arith, length-rows ns order)) en in
          let g = names-number ns p n in
          let i = count-is in omega arith

      pub bytes : (old size : ℕ) → old ≡ greatest (map (size_below p) (between at (rank_past (rows_of ns order) p) (rows_of ns order))) → size ≡ length (names_text (drop (length (path_of ns n) - (depth - len)) (path_of ns n))) → max old size ≡ greatest (map (size_below p) (between (at - 1) (rank_past (rows_of ns order) p) (rows_of ns order)))
      bytes old size e es =
          let m = past-most (rows_of ns order) p in
          let f = one-more (size_below p) ns order at (rank_past (rows_of ns order) p) n (omega arith) high (omega (arith, length-rows ns order)) en in
          let g = size-last ns p n (depth - len) below count-is in omega arith

start : (ns : List Node) (order : List ℕ) (p : List (List ℕ)) (len from : ℕ) → len ≡ length p → from ≡ rank (rows_of ns order) (take len p) → from ≡ rank (rows_of ns order) p
start ns order p len from el ef = ef ∙ ap (rank (rows_of ns order)) (take_all len p (omega arith))

none-left : (es : List Entry) (f : Entry → ℕ) (at end : ℕ) → at ≡ end → greatest (map f (between at end es)) ≡ 0
none-left es f at end e = ap (λ (k : ℕ). greatest (map f (between k end es))) e ∙ none-from-end es f end

-- at the end of the loop all rows below the path have been looked at
at-end : (es : List Entry) (f : Entry → ℕ) (p : List (List ℕ)) (from at old : ℕ) → from ≡ rank es p → rank es p ≤ at → (from < at → ⊥) → old ≡ greatest (map f (between at (rank_past es p) es)) → old ≡ greatest (map f (between (rank es p) (rank_past es p) es))
at-end es f p from at old ef low stop e = e ∙ ap (λ (k : ℕ). greatest (map f (between k (rank_past es p) es))) (same from at (rank es p) ef low stop)
  where
    same : (a b c : ℕ) → a ≡ c → c ≤ b → (a < b → ⊥) → b ≡ c
    same a b c e l s = grind arith

pub rows-init : goal.rows-init
rows-init c =
    let e = start c.args.nodes.now.items c.args.order.now.items c.args.path.now c.len.result c.place-from.result c.len.ensures.len c.place-from.ensures in
    let u = rank-upto (rows_of c.args.nodes.now.items c.args.order.now.items) c.args.path.now in
    let f = c.past-at.ensures in
    record {
      low = omega arith;
      high = omega arith;
      bytes = sym (none-left (rows_of c.args.nodes.now.items c.args.order.now.items) (size_below c.args.path.now) c.past-at.result _ f);
      names = sym (none-left (rows_of c.args.nodes.now.items c.args.order.now.items) (names_below c.args.path.now) c.past-at.result _ f);
    }

pub get-n-requires : goal.get-n-requires
get-n-requires c =
    inside c.args.nodes.now.items c.args.order.now.items c.requires.tree.0 c.requires.tree.1 c.args.path.now c.place-from.result c.rows.at (start c.args.nodes.now.items c.args.order.now.items c.args.path.now c.len.result c.place-from.result c.len.ensures.len c.place-from.ensures) c.rows.invariant.low c.rows.invariant.high c.rows-test.true

pub overflow_sub-count : goal.overflow_sub-count
overflow_sub-count c =
    (fits c.args.nodes.now.items c.args.order.now.items c.requires.tree.0 c.requires.tree.1 c.args.path.now c.place-from.result c.rows.at (start c.args.nodes.now.items c.args.order.now.items c.args.path.now c.len.result c.place-from.result c.len.ensures.len c.place-from.ensures) c.rows.invariant.low c.rows.invariant.high c.rows-test.true
    c.get-n.result c.get-n.ensures c.depth.result c.len-in-rows.result c.depth.ensures c.len-in-rows.ensures.len).0

pub last_size-requires-clause-rule : goal.last_size-requires-clause-rule
last_size-requires-clause-rule c =
    ruled c.args.nodes.now.items c.args.order.now.items c.requires.tree.0 c.requires.tree.1 c.args.path.now c.place-from.result c.rows.at (start c.args.nodes.now.items c.args.order.now.items c.args.path.now c.len.result c.place-from.result c.len.ensures.len c.place-from.ensures) c.rows.invariant.low c.rows.invariant.high c.rows-test.true
    c.get-n.result c.get-n.ensures

pub overflow_cast-count : goal.overflow_cast-count
overflow_cast-count c =
    let f = (fits c.args.nodes.now.items c.args.order.now.items c.requires.tree.0 c.requires.tree.1 c.args.path.now c.place-from.result c.rows.at (start c.args.nodes.now.items c.args.order.now.items c.args.path.now c.len.result c.place-from.result c.len.ensures.len c.place-from.ensures) c.rows.invariant.low c.rows.invariant.high c.rows-test.true
    c.get-n.result c.get-n.ensures c.depth.result c.len-in-rows.result c.depth.ensures c.len-in-rows.ensures.len).1 in omega arith

pub rows-preserved : goal.rows-preserved
rows-preserved c = record {
  low = let e = start c.args.nodes.now.items c.args.order.now.items c.args.path.now c.len.result c.place-from.result c.len.ensures.len c.place-from.ensures in let t = c.rows-test.true in omega arith;
  high = let h = c.rows.invariant.high in omega arith;
  bytes = c.max-bytes.ensures ∙ bytes c.args.nodes.now.items c.args.order.now.items c.requires.tree.0 c.requires.tree.1 c.args.path.now c.place-from.result c.rows.at (start c.args.nodes.now.items c.args.order.now.items c.args.path.now c.len.result c.place-from.result c.len.ensures.len c.place-from.ensures) c.rows.invariant.low c.rows.invariant.high c.rows-test.true
      c.get-n.result c.get-n.ensures c.depth.result c.len-in-rows.result c.depth.ensures c.len-in-rows.ensures.len c.rows.bytes c.last_size.result c.rows.invariant.bytes c.last_size.ensures.size;
  names = c.max-names.ensures ∙ names c.args.nodes.now.items c.args.order.now.items c.requires.tree.0 c.requires.tree.1 c.args.path.now c.place-from.result c.rows.at (start c.args.nodes.now.items c.args.order.now.items c.args.path.now c.len.result c.place-from.result c.len.ensures.len c.place-from.ensures) c.rows.invariant.low c.rows.invariant.high c.rows-test.true
      c.get-n.result c.get-n.ensures c.depth.result c.len-in-rows.result c.depth.ensures c.len-in-rows.ensures.len c.rows.names c.rows.invariant.names;
}

pub returns-clause-bytes : goal.returns-clause-bytes
returns-clause-bytes c =
    at-end (rows_of c.args.nodes.now.items c.args.order.now.items) (size_below c.args.path.now) c.args.path.now c.place-from.result c.rows.at c.rows.bytes (start c.args.nodes.now.items c.args.order.now.items c.args.path.now c.len.result c.place-from.result c.len.ensures.len c.place-from.ensures) c.rows.invariant.low (λ k. let t = c.rows-test.false in omega arith) c.rows.invariant.bytes
    ∙ bytes-run c.args.path.now (rows_of c.args.nodes.now.items c.args.order.now.items) c.requires.tree.1.rising

pub returns-clause-names : goal.returns-clause-names
returns-clause-names c =
    at-end (rows_of c.args.nodes.now.items c.args.order.now.items) (names_below c.args.path.now) c.args.path.now c.place-from.result c.rows.at c.rows.names (start c.args.nodes.now.items c.args.order.now.items c.args.path.now c.len.result c.place-from.result c.len.ensures.len c.place-from.ensures) c.rows.invariant.low (λ k. let t = c.rows-test.false in omega arith) c.rows.invariant.names
    ∙ names-run c.args.path.now (rows_of c.args.nodes.now.items c.args.order.now.items) c.requires.tree.1.rising

pub past-at-requires-clause-from : goal.past-at-requires-clause-from
past-at-requires-clause-from c =
    let e = c.place-from.ensures ∙ ap (rank (rows_of c.args.nodes.now.items c.args.order.now.items)) (take_all c.len.result c.args.path.now (let l = c.len.ensures.len in omega arith)) in
    let f = rank-past (rows_of c.args.nodes.now.items c.args.order.now.items) c.args.path.now in omega arith

pub place-from-requires-clause-upto : goal.place-from-requires-clause-upto
place-from-requires-clause-upto c = at-most _ _ c.len.ensures.len

pub past-at-requires-clause-linked : goal.past-at-requires-clause-linked
past-at-requires-clause-linked c = c.requires.tree.1.linked

pub past-at-requires-clause-within : goal.past-at-requires-clause-within
past-at-requires-clause-within c = c.requires.tree.1.within

pub past-at-requires-clause-rising : goal.past-at-requires-clause-rising
past-at-requires-clause-rising c = c.requires.tree.1.rising

pub depth-requires-clause-linked : goal.depth-requires-clause-linked
depth-requires-clause-linked c = c.requires.tree.1.linked

pub depth-requires-clause-live : goal.depth-requires-clause-live
depth-requires-clause-live c = node-within c.args.nodes.now.items c.args.order.now.items c.requires.tree.0 c.requires.tree.1 (c.rows.at - 1) c.get-n.result (inside c.args.nodes.now.items c.args.order.now.items c.requires.tree.0 c.requires.tree.1 c.args.path.now c.place-from.result c.rows.at (start c.args.nodes.now.items c.args.order.now.items c.args.path.now c.len.result c.place-from.result c.len.ensures.len c.place-from.ensures) c.rows.invariant.low c.rows.invariant.high c.rows-test.true) c.get-n.ensures

pub last_size-requires-clause-linked : goal.last_size-requires-clause-linked
last_size-requires-clause-linked c = c.requires.tree.1.linked

pub last_size-requires-clause-live : goal.last_size-requires-clause-live
last_size-requires-clause-live c = node-within c.args.nodes.now.items c.args.order.now.items c.requires.tree.0 c.requires.tree.1 (c.rows.at - 1) c.get-n.result (inside c.args.nodes.now.items c.args.order.now.items c.requires.tree.0 c.requires.tree.1 c.args.path.now c.place-from.result c.rows.at (start c.args.nodes.now.items c.args.order.now.items c.args.path.now c.len.result c.place-from.result c.len.ensures.len c.place-from.ensures) c.rows.invariant.low c.rows.invariant.high c.rows-test.true) c.get-n.ensures

pub last_size-requires-clause-count : goal.last_size-requires-clause-count
last_size-requires-clause-count c = fewer c.depth.result c.len-in-rows.result _ _ refl c.depth.ensures

pub rows-smaller : goal.rows-smaller
rows-smaller c = shorter _ c.rows.at c.rows-test.true
