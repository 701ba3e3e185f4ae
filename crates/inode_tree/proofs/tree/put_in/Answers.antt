use Rattle.std.proofs.Common.{arith, ◌≡◌, length, take, ℕ, ◌+◌, ◌-◌, true, List, [], ◌∷◌, ◌++◌, get_or, set, refl, sym, ap, ◌∙◌, subst, Option, Some, None, take_all, cond, ◌<◌, ◌≤◌, length-set}
use Rattle.std.specs.HashMap.{get}
use Rattle.std.specs.Bool.{nat_eq}
use Rattle.std.specs.List.{insert}
use Rattle.inode_tree.specs.Arena.{IsFree, IsTree, rows_of, rank, number_of}
use Rattle.inode_tree.specs.Rows.{is_dir_at, put, row_at}
use Rattle.name_calls.specs.Paths.{is_relative, parent, last_name}
use Rattle.inode_tree.proofs.Asked.{absent-number, deep-number, directory-found, directory-number, parent-take}
use Rattle.inode_tree.proofs.Ranks.{rank-most, length-rows}
use Rattle.inode_tree.proofs.Grown.{HasGrown, free-grown, grown, rows-grown}
use Rattle.inode_tree.proofs.Lasts.{last-name, last-split}
use Rattle.inode_tree.specs.declared.rows.Node.{Node}
use Rattle.inode_tree.specs.declared.rows.Row.{Row}
use Rattle.inode_tree.proofs.tree.put_in.Goals as goal

-- facts that the code has found, over plain variables
record HasFound (ns : List Node) (order free : List ℕ) (ids : ℕ → Option ℕ) (p : List (List ℕ)) (len m at : ℕ) (row : Row) (name : List ℕ) : Type 0 where
  tree : IsTree ns order ids
  unused : IsFree ns order free
  some : 0 < length free
  few : length order < 1000000
  ruled : is_relative p ≡ true
  len_is : len ≡ length p
  absent : row_at (rows_of ns order) p ≡ None
  directory : is_dir_at (row_at (rows_of ns order) (parent p)) ≡ true
  fresh : ids row.id ≡ None
  found : Some m ≡ number_of ns order (take (len - 1) p)
  at_is : at ≡ rank (rows_of ns order) (take (len - 1 + 1) p)
  name_is : name ≡ get_or p (len - 1) []

in-parent : (ns : List Node) (order : List ℕ) (p : List (List ℕ)) (len : ℕ) → len ≡ length p → is_dir_at (row_at (rows_of ns order) (parent p)) ≡ true → is_dir_at (row_at (rows_of ns order) (take (len - 1) p)) ≡ true
in-parent ns order p len e h = ap (λ (q : List (List ℕ)). is_dir_at (row_at (rows_of ns order) q)) (ap (λ (n : ℕ). take (n - 1) p) e ∙ sym (parent-take p)) ∙ h

deep : (ns : List Node) (order : List ℕ) (ids : ℕ → Option ℕ) (p : List (List ℕ)) (len : ℕ) → IsTree ns order ids → len ≡ length p → row_at (rows_of ns order) p ≡ None → length p ≡ len - 1 + 1
deep ns order ids p len t e h = let d = deep-number ns order ids p t (absent-number ns order p h) in omega arith

module _ (ns : List Node) (order free : List ℕ) (ids : ℕ → Option ℕ) (p : List (List ℕ)) (len m at : ℕ) (row : Row) (name : List ℕ) (h : HasFound ns order free ids p len m at row name) where
  length_is : length p ≡ len - 1 + 1
  length_is = deep ns order ids p len h.tree h.len_is h.absent

  abbrev slot : ℕ
  slot = get_or free (length free - 1) 0

  abbrev node : Node
  node = record { parent = m; name = name; row = row }

  last-below : slot < length ns
  last-below = let s = h.some in h.unused.below (length free - 1) (omega arith)

  has : HasGrown ns order ids slot p (take (len - 1) p) node
  has = record {
    old = h.tree;
    slot = last-below;
    apart = λ k b e. let s = h.some in h.unused.unused (length free - 1) k (omega arith) b (sym e);
    room = let s = h.some in let c = h.unused.count in omega arith;
    at = last-split p (len - 1) length_is ∙ ap (λ (x : List ℕ). take (len - 1) p ++ (x ∷ [])) (sym h.name_is);
    ruled = h.ruled;
    absent = absent-number ns order p h.absent;
    housed = sym h.found;
    few = h.few;
    directory = directory-number ns order (take (len - 1) p) m (in-parent ns order p len h.len_is h.directory) (sym h.found);
    fresh = h.fresh;
  }

  place-is : at ≡ rank (rows_of ns order) p
  place-is = h.at_is ∙ ap (rank (rows_of ns order)) (take_all (len - 1 + 1) p (let e = length_is in omega arith))

  at-most : at ≤ length order
  at-most = let e = place-is in let r = rank-most (rows_of ns order) p in omega (arith, length-rows ns order)

  tree-after : (ids' : ℕ → Option ℕ) → ((id : ℕ) → ids' id ≡ cond (nat_eq row.id id) (Some slot) (ids id)) → IsTree (set ns slot node) (insert order at slot) ids'
  tree-after ids' new = subst (λ (k : ℕ). IsTree (set ns slot node) (insert order k slot) ids') (sym place-is) (grown ns order ids slot p (take (len - 1) p) node has ids' new)

  rows-after : rows_of (set ns slot node) (insert order at slot) ≡ put (record { path = p; row = row }) (rows_of ns order)
  rows-after = ap (λ (k : ℕ). rows_of (set ns slot node) (insert order k slot)) place-is ∙ rows-grown ns order ids slot p (take (len - 1) p) node has

  free-after : IsFree (set ns slot node) (insert order at slot) (take (length free - 1) free)
  free-after = free-grown ns order free at slot node h.unused h.some refl at-most

-- the parts afterwards
module _ (ns ns' : List Node) (order order' free free' : List ℕ) (ids ids' : ℕ → Option ℕ) (p : List (List ℕ)) (len m at : ℕ) (row : Row) (name : List ℕ) (h : HasFound ns order free ids p len m at row name)
    (en : ns' ≡ set ns (get_or free (length free - 1) 0) (record { parent = m; name = name; row = row })) (eo : order' ≡ insert order at (get_or free (length free - 1) 0)) where
  after-tree : ((id : ℕ) → ids' id ≡ cond (nat_eq row.id id) (Some (get_or free (length free - 1) 0)) (ids id)) → IsTree ns' order' ids'
  after-tree new = subst (λ (ms : List Node). IsTree ms order' ids') (sym en) (subst (λ (os : List ℕ). IsTree (set ns (get_or free (length free - 1) 0) (record { parent = m; name = name; row = row })) os ids') (sym eo) (tree-after ns order free ids p len m at row name h ids' new))

  after-free : free' ≡ take (length free - 1) free → IsFree ns' order' free'
  after-free ef =
      subst (λ (ms : List Node). IsFree ms order' free') (sym en) (subst (λ (os : List ℕ). IsFree (set ns (get_or free (length free - 1) 0) (record { parent = m; name = name; row = row })) os free') (sym eo)
      (subst (IsFree (set ns (get_or free (length free - 1) 0) (record { parent = m; name = name; row = row })) (insert order at (get_or free (length free - 1) 0))) (sym ef) (free-after ns order free ids p len m at row name h)))

  after-rows : rows_of ns' order' ≡ put (record { path = p; row = row }) (rows_of ns order)
  after-rows = ap (λ (ms : List Node). rows_of ms order') en ∙ ap (rows_of (set ns (get_or free (length free - 1) 0) (record { parent = m; name = name; row = row }))) eo ∙ rows-after ns order free ids p len m at row name h

found : (c : goal.After-commit) → HasFound c.args.nodes.now.items c.args.order.now.items c.args.free.now.items (get nat_eq c.args.places.now) c.args.path.now c.len-upto.result c.in-Some.n c.place_near-at.result c.args.row c.name_in-name.result
found c = record {
  tree = c.requires.kept.tree;
  unused = c.requires.kept.free;
  some = c.requires.room.0;
  few = c.requires.count;
  ruled = c.len-upto.ensures.rule;
  len_is = c.len-upto.ensures.len;
  absent = c.requires.absent;
  directory = c.requires.housed;
  fresh = c.requires.fresh;
  found = c.in-Some.ensures;
  at_is = c.place_near-at.ensures;
  name_is = c.name_in-name.ensures.name ∙ c.name.ensures;
}

pub overflow_sub-upto : goal.overflow_sub-upto
overflow_sub-upto c = let d = deep c.args.nodes.now.items c.args.order.now.items (get nat_eq c.args.places.now) c.args.path.now c.len-upto.result c.requires.kept.tree c.len-upto.ensures.len c.requires.absent in let e = c.len-upto.ensures.len in omega arith

pub unreachable-requires : goal.unreachable-requires
unreachable-requires c =
    directory-found c.args.nodes.now.items c.args.order.now.items (take (c.len-upto.result - 1) c.args.path.now)
    (in-parent c.args.nodes.now.items c.args.order.now.items c.args.path.now c.len-upto.result c.len-upto.ensures.len c.requires.housed) (sym c.in-None.ensures)

pub name_in-name-requires-clause-room : goal.name_in-name-requires-clause-room
name_in-name-requires-clause-room c =
    let d = deep c.args.nodes.now.items c.args.order.now.items (get nat_eq c.args.places.now) c.args.path.now c.len-upto.result c.requires.kept.tree c.len-upto.ensures.len c.requires.absent in
    let e : length (last_name c.args.path.now) ≡ length c.name.result.now = ap length (last-name c.args.path.now (c.len-upto.result - 1) d ∙ sym c.name.ensures) in
    let r = c.requires.room.3 in omega arith

pub commit-requires-clause-at : goal.commit-requires-clause-at
commit-requires-clause-at c =
    let most = rank-most (rows_of c.args.nodes.now.items c.args.order.now.items) (take (c.len-upto.result - 1 + 1) c.args.path.now) in
    let e = c.place_near-at.ensures in
    omega (arith, length-rows c.args.nodes.now.items c.args.order.now.items)

pub returns-clause-kept : goal.returns-clause-kept
returns-clause-kept c = record {
  tree = after-tree _ _ _ _ _ c.commit.new.free.items (get nat_eq c.args.places.now) (get nat_eq c.commit.new.places) c.args.path.now c.len-upto.result c.in-Some.n c.place_near-at.result c.args.row c.name_in-name.result (found c) c.commit.ensures.nodes c.commit.ensures.order c.commit.ensures.places;
  free = after-free _ _ _ _ _ _ (get nat_eq c.args.places.now) (get nat_eq c.args.places.now) c.args.path.now c.len-upto.result c.in-Some.n c.place_near-at.result c.args.row c.name_in-name.result (found c) c.commit.ensures.nodes c.commit.ensures.order c.commit.ensures.free;
  capacity =
      let a = c.requires.kept.capacity in
      let b = c.commit.ensures.capacity in
      let e = ap length c.commit.ensures.nodes in
      omega (arith, length-set c.args.nodes.now.items (get_or c.args.free.now.items (length c.args.free.now.items - 1) 0) (record { parent = c.in-Some.n; name = c.name_in-name.result; row = c.args.row }));
}

pub returns-clause-rows : goal.returns-clause-rows
returns-clause-rows c = after-rows _ _ _ _ c.args.free.now.items c.commit.new.free.items (get nat_eq c.args.places.now) (get nat_eq c.args.places.now) c.args.path.now c.len-upto.result c.in-Some.n c.place_near-at.result c.args.row c.name_in-name.result (found c) c.commit.ensures.nodes c.commit.ensures.order
