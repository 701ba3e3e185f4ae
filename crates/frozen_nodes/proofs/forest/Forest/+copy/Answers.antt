use Rattle.std.proofs.Common.{◌≡◌, ◌∙◌, ◌+◌, ◌<◌, ◌≤◌, ◌++◌, ◌∷◌, [], ℕ, List, true, ap, sym, subst, arith, length, length-append, drop, take, take_all, inl, inr}
use Rattle.std.proofs.lemmas.Bool.{cases_lt}
use Rattle.name_calls.specs.Paths.{last_name}
use Rattle.inode_tree.specs.Below.{RowView}
use Rattle.inode_tree.specs.Rows.{Entry}
use Rattle.frozen_nodes.specs.Copies.{AreCopied, IsCopy, no_entry, path_at, view_at}
use Rattle.frozen_nodes.specs.Forest.{rows_of_node}
use Rattle.frozen_nodes.proofs.Copying.{copied-more, copied-none, drop-end, drop-joined, is-copy, is-kid, keeps-both, long-enough, places-first, places-more, row-is, take-joined}
use Rattle.frozen_nodes.proofs.Grown.{keeps-itself}
use Rattle.frozen_nodes.proofs.PathFacts.{last-short}
use Rattle.frozen_nodes.proofs.forest.Forest.+copy.Goals as goal

-- the depth and the name of a row, by what is read of it
depth-is : (rows : List Entry) (at : ℕ) {v : RowView} → v ≡ view_at rows at → v.depth ≡ length (path_at rows at)
depth-is rows at is = ap (λ (v : RowView). v.depth) is

name-is : (rows : List Entry) (at : ℕ) {v : RowView} → v ≡ view_at rows at → v.name ≡ last_name (path_at rows at)
name-is rows at is = ap (λ (v : RowView). v.name) is

-- a row of some depth is before the end
before : (next end depth below : ℕ) → (end ≤ next → below ≡ 0) → depth < below → next < end
before next end depth below none less = elim (cases_lt next end) [
  | inl lt ↦ lt
  | inr le ↦ absurd (omega (arith, none le, less))
]

pub below-init : goal.below-init
below-init t c =
    let start = ap length c.as_slice-start.ensures.value in
    let long = c.as_slice-start.ensures.len in
    let none : drop (length c.as_slice-start.result.now) c.args.kids.now.items ≡ [] = drop-end c.args.kids.now.items (length c.as_slice-start.result.now) (omega (arith, start)) in
    let empty : length (drop (length c.as_slice-start.result.now) c.args.kids.now.items) ≡ 0 = ap length none in
    record {
      start = start;
      start_len = long;
      after = omega arith;
      most = omega (arith, c.requires.at);
      same = take_all (length c.as_slice-start.result.now) c.args.kids.now.items (omega (arith, start));
      copied = subst (λ (ks : List ℕ). AreCopied c.args.tree.now.rows c.args.at (c.args.at + 1) c.args.row.depth c.args.self.now.nodes ks) (sym none) (copied-none c.args.tree.now.rows c.args.at c.args.row.depth c.args.self.now.nodes);
      places = places-first c.args.tree.now.rows c.rows-count.ensures.rules c.args.at;
      low = λ h. absurd (omega (arith, h));
      view = c.row_before-below.ensures.row;
      none = c.row_before-below.ensures.none;
      kept = keeps-itself c.args.self.now.nodes;
      count = omega (arith, empty);
      nodes = omega arith;
      kids_left = omega (arith, empty);
      bytes = omega arith;
      kids_len = omega (arith, long);
      kids_start = omega (arith, long);
      kids_capacity = omega arith;
    }

pub copy-kid-requires : goal.copy-kid-requires
copy-kid-requires t c =
    let next = before c.below.next c.args.end c.args.row.depth c.below.below.depth c.below.invariant.none c.below-test.true in (
      omega (arith, next, c.below.invariant.after),
      (
        next,
        (
          c.requires.end,
          (
            c.below.invariant.view next,
            (
              record {
                nodes_fit = omega (arith, c.below.invariant.nodes, c.requires.room.nodes_fit);
                kids_fit = omega (arith, c.below.invariant.kids_left, c.requires.room.kids_fit);
                bytes_fit = omega (arith, c.below.invariant.bytes, c.requires.room.bytes_fit);
              },
              omega (arith, c.below.invariant.kids_len, c.below.invariant.kids_capacity, c.below.invariant.start_len, c.requires.kids_room),
            ),
          ),
        ),
      ),
    )

pub below-preserved : goal.below-preserved
below-preserved t c =
    let next = before c.below.next c.args.end c.args.row.depth c.below.below.depth c.below.invariant.none c.below-test.true in
    let own = depth-is c.args.tree.now.rows c.args.at c.requires.row in
    let deep = depth-is c.args.tree.now.rows c.below.next (c.below.invariant.view next) in
    let long : c.args.row.depth < length (path_at c.args.tree.now.rows c.below.next) = omega (arith, deep, c.below-test.true) in
    let inside : c.below.next < length c.args.tree.now.rows = omega (arith, next, c.requires.end) in
    let kid = is-kid c.args.tree.now.rows c.rows-count.ensures.rules c.args.at c.below.next c.args.row.depth c.below.invariant.after inside own c.below.invariant.places (λ h. c.below.invariant.low h next) long in
    let size : length (path_at c.args.tree.now.rows c.below.next) ≡ length (path_at c.args.tree.now.rows c.args.at ++ last_name (path_at c.args.tree.now.rows c.below.next) ∷ []) = ap length kid.1 in
    let one_deeper : c.below.below.depth ≡ c.args.row.depth + 1 = omega (arith, deep, size, length-append (path_at c.args.tree.now.rows c.args.at) (last_name (path_at c.args.tree.now.rows c.below.next) ∷ []), own) in
    let copied = subst (λ (d : ℕ). IsCopy c.args.tree.now.rows c.below.next c.args.end d c.below.self.nodes c.copy-kid.new.self.nodes c.copy-kid.result.node c.copy-kid.result.next) one_deeper c.copy-kid.ensures.copy in
    let enough = long-enough c.below.kids.items c.args.kids.now.items (length c.as_slice-start.result.now) c.below.invariant.same c.below.invariant.start in
    let items : c.push_reserved.new.self.items ≡ c.below.kids.items ++ c.copy-kid.result.node ∷ [] = c.push_reserved.ensures.items ∙ ap (λ (ks : List ℕ). ks ++ c.copy-kid.result.node ∷ []) c.copy-kid.ensures.kids in
    let own_kids : drop (length c.as_slice-start.result.now) c.push_reserved.new.self.items ≡ drop (length c.as_slice-start.result.now) c.below.kids.items ++ c.copy-kid.result.node ∷ [] =
    ap (drop (length c.as_slice-start.result.now)) items ∙ drop-joined c.below.kids.items (c.copy-kid.result.node ∷ []) (length c.as_slice-start.result.now) enough in
    let more : length (drop (length c.as_slice-start.result.now) c.push_reserved.new.self.items) ≡ length (drop (length c.as_slice-start.result.now) c.below.kids.items ++ c.copy-kid.result.node ∷ []) = ap length own_kids in
    let one = length-append (drop (length c.as_slice-start.result.now) c.below.kids.items) (c.copy-kid.result.node ∷ []) in
    record {
      start = c.below.invariant.start;
      start_len = c.below.invariant.start_len;
      after = omega (arith, c.below.invariant.after, c.copy-kid.ensures.copy.after);
      most = c.copy-kid.ensures.copy.most;
      same = ap (take (length c.as_slice-start.result.now)) items ∙ take-joined c.below.kids.items (c.copy-kid.result.node ∷ []) (length c.as_slice-start.result.now) enough ∙ c.below.invariant.same;
      copied = subst (λ (ks : List ℕ). AreCopied c.args.tree.now.rows c.args.at c.copy-kid.result.next c.args.row.depth c.copy-kid.new.self.nodes ks) (sym own_kids)
          (copied-more c.args.tree.now.rows c.rows-count.ensures.rules c.args.at c.below.next c.args.end c.args.row.depth c.below.self.nodes c.copy-kid.new.self.nodes (drop (length c.as_slice-start.result.now) c.below.kids.items) c.copy-kid.result.node c.copy-kid.result.next
          c.below.invariant.after inside own kid.1 c.below.invariant.copied copied);
      places = places-more c.args.tree.now.rows c.rows-count.ensures.rules c.args.at c.below.next c.copy-kid.result.next kid.0 c.below.invariant.places c.copy-kid.ensures.copy.places;
      low = λ h b. copied.stop b;
      view = c.copy-kid.ensures.row;
      none = c.copy-kid.ensures.none;
      kept = keeps-both c.args.self.now.nodes c.below.self.nodes c.copy-kid.new.self.nodes c.below.invariant.kept c.copy-kid.ensures.copy.kept;
      count = omega (arith, more, one, c.below.invariant.count, c.copy-kid.ensures.copy.after);
      nodes = omega (arith, c.below.invariant.nodes, c.copy-kid.ensures.spent.nodes_less);
      kids_left = omega (arith, more, one, c.below.invariant.kids_left, c.copy-kid.ensures.spent.kids_less);
      bytes = omega (arith, c.below.invariant.bytes, c.copy-kid.ensures.spent.bytes_less);
      kids_len = omega (arith, c.push_reserved.ensures.len, c.copy-kid.ensures.kids_room.0, c.below.invariant.kids_len, c.copy-kid.ensures.copy.after);
      kids_start = omega (arith, c.push_reserved.ensures.len, c.copy-kid.ensures.kids_room.0, c.below.invariant.kids_start);
      kids_capacity = omega (arith, c.push_reserved.ensures.capacity, c.copy-kid.ensures.kids_room.1, c.below.invariant.kids_capacity);
    }

pub copy_row-node-requires-clause-short : goal.copy_row-node-requires-clause-short
copy_row-node-requires-clause-short t c =
    let named = ap length (name-is c.args.tree.now.rows c.args.at c.requires.row) in
    omega (arith, named, last-short (path_at c.args.tree.now.rows c.args.at) (c.rows-count.ensures.rules.ruled c.args.at no_entry (omega (arith, c.requires.at, c.requires.end))))

pub returns-clause-copy : goal.returns-clause-copy
returns-clause-copy t c =
    let own : c.after-own.result.now ≡ drop (length c.as_slice-start.result.now) c.below.kids.items = c.after-own.ensures ∙ ap (drop (length c.as_slice-start.result.now)) c.as_slice.ensures.value in
    let named = name-is c.args.tree.now.rows c.args.at c.requires.row in
    is-copy c.args.tree.now.rows c.rows-count.ensures.rules c.args.at c.below.next c.args.end c.args.row.depth c.args.self.now.nodes c.below.self.nodes c.copy_row-node.new.self.nodes c.after-own.result.now c.copy_row-node.result
    c.below.invariant.after c.below.invariant.most (omega (arith, c.requires.at, c.requires.end)) (depth-is c.args.tree.now.rows c.args.at c.requires.row)
    (subst (λ (ks : List ℕ). AreCopied c.args.tree.now.rows c.args.at c.below.next c.args.row.depth c.below.self.nodes ks) (sym own) c.below.invariant.copied)
    c.below.invariant.places
    (λ lt. let deep = depth-is c.args.tree.now.rows c.below.next (c.below.invariant.view lt) in omega (arith, deep, c.below-test.false))
    c.below.invariant.kept c.copy_row-node.ensures.others c.copy_row-node.ensures.within (c.copy_row-node.ensures.name ∙ named)
    (λ row is.
    let same : c.args.row.row.now ≡ row = ap (λ (v : RowView). v.row) c.requires.row ∙ row-is c.args.tree.now.rows c.args.at row is in
    c.copy_row-node.ensures.rows ∙ (λ i. rows_of_node c.below.self.nodes (record { name = named i; row = same i; kids = c.after-own.result.now })))
