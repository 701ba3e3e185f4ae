-- Copies of rows: the kids of a row so far, one kid more, and the row with its kids.
use Rattle.std.proofs.Common.{◌≡◌, ℕ, ◌+◌, ◌<◌, ◌≤◌, zero, suc, Bool, true, false, List, [], ◌∷◌, ◌++◌, length, get_or, map, take, take_all, drop, Some, refl, sym, ◌∙◌, ap, subst, arith, append_assoc, length-append, inl, inr}
use Rattle.std.specs.Prelude.{slice_get}
use Rattle.std.specs.Option.{option_map}
use Rattle.std.specs.Ordering.{is_lt, nat_cmp}
use Rattle.std.specs.Cmp.Lexicographic.{slice_cmp}
use Rattle.std.proofs.lemmas.Bool.{cases_lt}
use Rattle.std.proofs.lemmas.List.{append-nil}
use Rattle.name_calls.specs.Paths.{is_before, is_component, is_prefix, last_name, parent}
use Rattle.inode_tree.proofs.Blocks.{prefix-not-before}
use Rattle.inode_tree.proofs.ZoneLemmas.{prefix-itself, prefix-whole}
use Rattle.inode_tree.specs.Below.{RowView, seen_from, view_of}
use Rattle.inode_tree.specs.Rows.{Entry, IsRows}
use Rattle.inode_tree.specs.declared.rows.Row.{Row}
use Rattle.frozen_nodes.specs.Copies.{AllAtOrBelow, AllPlaced, AreCopied, IsCopy, IsPlaced, no_entry, path_at, view_at}
use Rattle.frozen_nodes.specs.Forest.{AllNamedAfter, AreBelow, AreKids, AreNamedInOrder, FrozenNode, HaveNames, KeepsNodes, Subtree, kid_rows, node_at, rows_from, rows_of_node, subtree_at, subtrees, under}
use Rattle.frozen_nodes.proofs.PathFacts.{all-above, all-joined, drop-all, last-ruled, parent-last, prefix-more, prefix-trans, seen-under, snoc-before}
use Rattle.frozen_nodes.proofs.Preorder.{child-next, deeper-below, rising-at}
use Rattle.frozen_nodes.proofs.Subtrees.{name-is, same-kids}

pub at-drop : (rows : List Entry) (k : ℕ) → k < length rows → drop k rows ≡ get_or rows k no_entry ∷ drop (k + 1) rows
at-drop [] k lt = absurd (omega arith)
at-drop (e ∷ rows) zero lt = refl
at-drop (e ∷ rows) (suc k) lt = at-drop rows k (omega arith) ∙ ap (λ (n : ℕ). get_or rows k no_entry ∷ drop n (e ∷ rows)) (more k)
  where
    more : (j : ℕ) → suc (j + 1) ≡ suc j + 1
    more j = omega arith

-- the nodes that are kept have the same kids

abbrev pub all-kept : (ns ms : List FrozenNode) → Type 0
all-kept ns ms = (k : ℕ) → k < length ns → node_at ms k ≡ node_at ns k

after-kept : (ns ms : List FrozenNode) → all-kept ns ms → (name : List ℕ) (ks : List ℕ) → AreBelow (length ns) ks → AllNamedAfter ns name ks → AllNamedAfter ms name ks
after-kept ns ms same name [] b a = tt
after-kept ns ms same name (k ∷ ks) b a = (ap (λ (m : FrozenNode). is_lt (slice_cmp nat_cmp name m.name)) (same k b.0) ∙ a.0, after-kept ns ms same name ks b.1 a.1)

order-kept : (ns ms : List FrozenNode) → all-kept ns ms → (ks : List ℕ) → AreBelow (length ns) ks → AreNamedInOrder ns ks → AreNamedInOrder ms ks
order-kept ns ms same [] b o = tt
order-kept ns ms same (k ∷ ks) b o = (subst (λ (m : FrozenNode). AllNamedAfter ms m.name ks) (sym (same k b.0)) (after-kept ns ms same (node_at ns k).name ks b.1 o.0), order-kept ns ms same ks b.1 o.1)

names-kept : (ns ms : List FrozenNode) → all-kept ns ms → (ks : List ℕ) → AreBelow (length ns) ks → HaveNames ns ks → HaveNames ms ks
names-kept ns ms same [] b h = tt
names-kept ns ms same (k ∷ ks) b h = (ap (λ (m : FrozenNode). is_component m.name) (same k b.0) ∙ h.0, names-kept ns ms same ks b.1 h.1)

below-more : (n m : ℕ) (ks : List ℕ) → n ≤ m → AreBelow n ks → AreBelow m ks
below-more n m [] le b = tt
below-more n m (k ∷ ks) le b = (let lt = b.0 in omega arith, below-more n m ks le b.1)

placed-kept : (rows : List Entry) (at next m : ℕ) (ns ms : List FrozenNode) → next ≤ m → all-kept ns ms → (ks : List ℕ) → AreBelow (length ns) ks → AllPlaced rows at next ns ks → AllPlaced rows at m ms ks
placed-kept rows at next m ns ms le same [] b a = tt
placed-kept rows at next m ns ms le same (k ∷ ks) b a = (
  record { place = a.0.place; after = a.0.after; before = let lt = a.0.before in omega arith; path = a.0.path ∙ ap (λ (n : FrozenNode). path_at rows at ++ n.name ∷ []) (sym (same k b.0)) },
  placed-kept rows at next m ns ms le same ks b.1 a.1,
)

subtree-rows : (ns : List FrozenNode) (n : ℕ) → (subtree_at (subtrees ns) n).rows ≡ rows_from ns n
unfolding rows_from
subtree-rows ns n = refl

pub subtree-kept : (ns ms : List FrozenNode) → KeepsNodes ns ms → (k : ℕ) → k < length ns → subtree_at (subtrees ms) k ≡ subtree_at (subtrees ns) k
unfolding rows_from
subtree-kept ns ms keeps k lt =
    let name : (subtree_at (subtrees ms) k).name ≡ (subtree_at (subtrees ns) k).name = name-is ms k ∙ ap (λ (n : FrozenNode). n.name) (keeps.nodes k lt) ∙ sym (name-is ns k) in
    let rows : (subtree_at (subtrees ms) k).rows ≡ (subtree_at (subtrees ns) k).rows = keeps.rows k lt in
    λ i. record { name = name i; rows = rows i }

pub kids-kept : (ns ms : List FrozenNode) → KeepsNodes ns ms → (ks : List ℕ) → AreKids ns (length ns) ks → AreKids ms (length ms) ks
kids-kept ns ms keeps ks kids = record {
  below = below-more (length ns) (length ms) ks keeps.most kids.below;
  order = order-kept ns ms keeps.nodes ks kids.below kids.order;
  ruled = names-kept ns ms keeps.nodes ks kids.below kids.ruled;
}

pub copied-kept : (rows : List Entry) (at next depth : ℕ) (ns ms : List FrozenNode) (ks : List ℕ) → KeepsNodes ns ms → AreCopied rows at next depth ns ks → AreCopied rows at next depth ms ks
copied-kept rows at next depth ns ms ks keeps c = record {
  block = c.block;
  split = c.split;
  below = c.below;
  rows_are = same-kids (subtree_at (subtrees ms)) (subtree_at (subtrees ns)) (length ns) ks (subtree-kept ns ms keeps) c.kids.below ∙ c.rows_are;
  placed = placed-kept rows at next next ns ms (omega arith) keeps.nodes ks c.kids.below c.placed;
  kids = kids-kept ns ms keeps ks c.kids;
}

pub keeps-both : (ns ms os : List FrozenNode) → KeepsNodes ns ms → KeepsNodes ms os → KeepsNodes ns os
keeps-both ns ms os a b = record {
  most = let p = a.most in let q = b.most in omega arith;
  nodes = λ n lt. b.nodes n (let p = a.most in omega arith) ∙ a.nodes n lt;
  rows = λ n lt. b.rows n (let p = a.most in omega arith) ∙ a.rows n lt;
}

-- no kids yet
pub copied-none : (rows : List Entry) (at depth : ℕ) (ns : List FrozenNode) → AreCopied rows at (at + 1) depth ns []
copied-none rows at depth ns = record { block = []; split = refl; below = tt; rows_are = refl; placed = tt; kids = record { below = tt; order = tt; ruled = tt } }

-- one kid more

kid-rows-joined : (f : ℕ → Subtree) (ks js : List ℕ) → kid_rows f (ks ++ js) ≡ kid_rows f ks ++ kid_rows f js
kid-rows-joined f [] js = refl
kid-rows-joined f (k ∷ ks) js = ap (λ (es : List Entry). map (under (f k).name) (f k).rows ++ es) (kid-rows-joined f ks js) ∙ sym (append_assoc (map (under (f k).name) (f k).rows) (kid_rows f ks) (kid_rows f js))

map-joined : (f : Entry → Entry) (xs ys : List Entry) → map f (xs ++ ys) ≡ map f xs ++ map f ys
map-joined f [] ys = refl
map-joined f (x ∷ xs) ys = λ i. f x ∷ map-joined f xs ys i

below-joined : (n : ℕ) (ks : List ℕ) (k : ℕ) → AreBelow n ks → k < n → AreBelow n (ks ++ k ∷ [])
below-joined n [] k b lt = (lt, tt)
below-joined n (j ∷ ks) k b lt = (b.0, below-joined n ks k b.1 lt)

names-joined : (ns : List FrozenNode) (ks : List ℕ) (k : ℕ) → HaveNames ns ks → is_component (node_at ns k).name ≡ true → HaveNames ns (ks ++ k ∷ [])
names-joined ns [] k h is = (is, tt)
names-joined ns (j ∷ ks) k h is = (h.0, names-joined ns ks k h.1 is)

after-joined : (ns : List FrozenNode) (name : List ℕ) (ks : List ℕ) (k : ℕ) → AllNamedAfter ns name ks → is_lt (slice_cmp nat_cmp name (node_at ns k).name) ≡ true → AllNamedAfter ns name (ks ++ k ∷ [])
after-joined ns name [] k a lt = (lt, tt)
after-joined ns name (j ∷ ks) k a lt = (a.0, after-joined ns name ks k a.1 lt)

placed-joined : (rows : List Entry) (at next : ℕ) (ns : List FrozenNode) (ks : List ℕ) (k : ℕ) → AllPlaced rows at next ns ks → IsPlaced rows at next ns k → AllPlaced rows at next ns (ks ++ k ∷ [])
placed-joined rows at next ns [] k a p = (p, tt)
placed-joined rows at next ns (j ∷ ks) k a p = (a.0, placed-joined rows at next ns ks k a.1 p)

-- a row that is found is the one at the place
pub row-is : (rows : List Entry) (at : ℕ) (row : Row) → option_map (λ (e : Entry). e.row) (slice_get rows at) ≡ Some row → (get_or rows at no_entry).row ≡ row
row-is [] zero row h = cc
row-is [] (suc at) row h = cc
row-is (e ∷ rows) zero row h = cc
row-is (e ∷ rows) (suc at) row h = row-is rows at row h

pub view-is : (rows : List Entry) (at : ℕ) (v : RowView) → option_map view_of (slice_get rows at) ≡ Some v → v ≡ view_at rows at
view-is [] zero v h = cc
view-is [] (suc at) v h = cc
view-is (e ∷ rows) zero v h = cc
view-is (e ∷ rows) (suc at) v h = view-is rows at v h

pub some-at : (rows : List Entry) (at : ℕ) → at < length rows → slice_get rows at ≡ Some (get_or rows at no_entry)
some-at [] at lt = absurd (omega arith)
some-at (e ∷ rows) zero lt = refl
some-at (e ∷ rows) (suc at) lt = some-at rows at (omega arith)

-- lists that grow at their end

pub drop-end : {X : Type 0} (xs : List X) (n : ℕ) → length xs ≤ n → drop n xs ≡ []
drop-end [] zero le = refl
drop-end [] (suc n) le = refl
drop-end (x ∷ xs) zero le = absurd (omega arith)
drop-end (x ∷ xs) (suc n) le = drop-end xs n (omega arith)

pub drop-joined : {X : Type 0} (xs ys : List X) (n : ℕ) → n ≤ length xs → drop n (xs ++ ys) ≡ drop n xs ++ ys
drop-joined [] ys zero le = refl
drop-joined [] ys (suc n) le = absurd (omega arith)
drop-joined (x ∷ xs) ys zero le = refl
drop-joined (x ∷ xs) ys (suc n) le = drop-joined xs ys n (omega arith)

pub take-joined : {X : Type 0} (xs ys : List X) (n : ℕ) → n ≤ length xs → take n (xs ++ ys) ≡ take n xs
take-joined [] ys zero le = refl
take-joined [] ys (suc n) le = absurd (omega arith)
take-joined (x ∷ xs) ys zero le = refl
take-joined (x ∷ xs) ys (suc n) le = λ i. x ∷ take-joined xs ys n (omega arith) i

pub long-enough : {X : Type 0} (xs ys : List X) (n : ℕ) → take n xs ≡ ys → n ≡ length ys → n ≤ length xs
long-enough xs ys n e l = elim (cases_lt (length xs) n) [
  | inl short ↦
      let f : length (take n xs) ≡ length ys = ap length e in
      let g : length (take n xs) ≡ length xs = ap length (take_all n xs (omega arith)) in
      absurd (omega (arith, f, g, l, short))
  | inr enough ↦ enough
]

module _ (rows : List Entry) (rules : IsRows rows) where
  earlier : (j k : ℕ) → j < k → k < length rows → path_at rows k ≡ path_at rows j → ⊥
  earlier j k less lt e =
      let one : is_before (path_at rows j) (path_at rows k) ≡ true = rising-at rows no_entry j k rules.rising less lt in
      let two : is_before (path_at rows j) (path_at rows k) ≡ false =
      subst (λ (q : List (List ℕ)). is_before (path_at rows j) q ≡ false) (sym e) (prefix-not-before (path_at rows j) (path_at rows j) (prefix-itself (path_at rows j))) in
      cc (one, two)

  -- what is below a row, and not it, is deeper
  pub deeper : (at j : ℕ) → at < j → j < length rows → is_prefix (path_at rows at) (path_at rows j) ≡ true → length (path_at rows at) < length (path_at rows j)
  deeper at j less lt below = elim (cases_lt (length (path_at rows at)) (length (path_at rows j))) [
    | inl longer ↦ longer
    | inr short ↦ absurd (earlier at j less lt (sym (prefix-whole (path_at rows at) (path_at rows j) below short)))
  ]

  -- the next row, if it is deeper, is a child
  pub is-kid : (at next depth : ℕ) → at < next → next < length rows → depth ≡ length (path_at rows at) → ((j : ℕ) → at ≤ j → j < next → is_prefix (path_at rows at) (path_at rows j) ≡ true)
      → (at + 1 < next → length (path_at rows next) ≤ depth + 1) → depth < length (path_at rows next) → (is_prefix (path_at rows at) (path_at rows next) ≡ true) × (path_at rows next ≡ path_at rows at ++ last_name (path_at rows next) ∷ [])
  is-kid at next depth less lt d below low long = (inside, parent-last (path_at rows next) (omega arith) ∙ ap (λ (q : List (List ℕ)). q ++ last_name (path_at rows next) ∷ []) up)
    where
      longer : length (path_at rows at) < length (path_at rows next)
      longer = omega (arith, d, long)

      inside : is_prefix (path_at rows at) (path_at rows next) ≡ true
      inside = deeper-below rows no_entry rules.rising rules.housed at next less lt (λ j a b. below j (omega arith) b) longer

      apart : (j : ℕ) → at < j → j < next → is_prefix (path_at rows j) (path_at rows next) ≡ false
      apart j a b = go (is_prefix (path_at rows j) (path_at rows next)) refl
        where
          go : (t : Bool) → is_prefix (path_at rows j) (path_at rows next) ≡ t → t ≡ false
          go false e = refl
          go true e =
              let l = low (omega arith) in
              let m = deeper at j a (omega arith) (below j (omega arith) b) in
              absurd (earlier j next b lt (sym (prefix-whole (path_at rows j) (path_at rows next) e (omega (arith, l, m, d)))))

      up : parent (path_at rows next) ≡ path_at rows at
      up = child-next rows no_entry rules.rising rules.housed at next less lt apart inside longer

  -- the row at a place is at it
  pub places-first : (at : ℕ) (j : ℕ) → at ≤ j → j < at + 1 → is_prefix (path_at rows at) (path_at rows j) ≡ true
  places-first at j a b = let e : at ≡ j = omega arith in subst (λ (k : ℕ). is_prefix (path_at rows at) (path_at rows k) ≡ true) e (prefix-itself (path_at rows at))

  -- and the rows of one kid more are below it
  pub places-more : (at next further : ℕ) → is_prefix (path_at rows at) (path_at rows next) ≡ true → ((j : ℕ) → at ≤ j → j < next → is_prefix (path_at rows at) (path_at rows j) ≡ true)
      → ((j : ℕ) → next ≤ j → j < further → is_prefix (path_at rows next) (path_at rows j) ≡ true) → (j : ℕ) → at ≤ j → j < further → is_prefix (path_at rows at) (path_at rows j) ≡ true
  places-more at next further below old new j a b = elim (cases_lt j next) [
    | inl early ↦ old j a early
    | inr late ↦ prefix-trans (path_at rows at) (path_at rows next) (path_at rows j) below (new j late b)
  ]

  order-joined : (at next : ℕ) (ns : List FrozenNode) (ks : List ℕ) (k : ℕ) → next < length rows → AreNamedInOrder ns ks → AllPlaced rows at next ns ks → path_at rows next ≡ path_at rows at ++ (node_at ns k).name ∷ [] → AreNamedInOrder ns (ks ++ k ∷ [])
  order-joined at next ns [] k lt o a is = (tt, tt)
  order-joined at next ns (j ∷ ks) k lt o a is =
      let before : is_before (path_at rows a.0.place) (path_at rows next) ≡ true = rising-at rows no_entry a.0.place next rules.rising a.0.before lt in
      let named : is_before (path_at rows at ++ (node_at ns j).name ∷ []) (path_at rows at ++ (node_at ns k).name ∷ []) ≡ true = sym (λ i. is_before (a.0.path i) (is i)) ∙ before in
      (after-joined ns (node_at ns j).name ks k o.0 (snoc-before (path_at rows at) (node_at ns j).name (node_at ns k).name named), order-joined at next ns ks k lt o.1 a.1 is)

  -- one kid more, which is a copy of the next row with the rows below it
  pub copied-more : (at next end depth : ℕ) (ns ms : List FrozenNode) (ks : List ℕ) (node further : ℕ) → at < next → next < length rows → depth ≡ length (path_at rows at) → path_at rows next ≡ path_at rows at ++ last_name (path_at rows next) ∷ []
      → AreCopied rows at next depth ns ks → IsCopy rows next end (depth + 1) ns ms node further → AreCopied rows at further depth ms (ks ++ node ∷ [])
  copied-more at next end depth ns ms ks node further less lt d is c copy = record {
    block = old.block ++ copy.block;
    split = old.split ∙ ap (λ (es : List Entry). old.block ++ es) copy.split ∙ sym (append_assoc old.block copy.block (drop further rows));
    below = all-joined (path_at rows at) old.block copy.block old.below (all-above (path_at rows at) (path_at rows next) copy.block under_it copy.below);
    rows_are =
        kid-rows-joined (subtree_at (subtrees ms)) ks (node ∷ [])
        ∙ (λ i. old.rows_are i ++ (append-nil (map (under (subtree_at (subtrees ms) node).name) (subtree_at (subtrees ms) node).rows) ∙ kid_rows_are) i)
        ∙ sym (map-joined (seen_from depth) old.block copy.block);
    placed = placed-joined rows at further ms ks node (placed-kept rows at next further ms ms (let a = copy.after in omega arith) (λ k b. refl) ks old.kids.below old.placed)
        (record { place = next; after = less; before = copy.after; path = path_is });
    kids = record {
      below = below-joined (length ms) ks node old.kids.below copy.within;
      order = order-joined at next ms ks node lt old.kids.order old.placed path_is;
      ruled = names-joined ms ks node old.kids.ruled (ap is_component copy.name ∙ last-ruled (path_at rows next) (rules.ruled next no_entry lt) (let l = ap length is in omega (arith, l, length-append (path_at rows at) (last_name (path_at rows next) ∷ []))));
    };
  }
    where
      old : AreCopied rows at next depth ms ks
      old = copied-kept rows at next depth ns ms ks copy.kept c

      path_is : path_at rows next ≡ path_at rows at ++ (node_at ms node).name ∷ []
      path_is = is ∙ ap (λ (x : List ℕ). path_at rows at ++ x ∷ []) (sym copy.name)

      under_it : is_prefix (path_at rows at) (path_at rows next) ≡ true
      under_it = subst (λ (q : List (List ℕ)). is_prefix (path_at rows at) q ≡ true) (sym is) (prefix-more (path_at rows at) (last_name (path_at rows next)))

      rows_here : (subtree_at (subtrees ms) node).rows ≡ map (seen_from (depth + 1)) copy.block
      rows_here = subtree-rows ms node ∙ copy.rows_are

      name_here : (subtree_at (subtrees ms) node).name ≡ last_name (path_at rows next)
      name_here = name-is ms node ∙ copy.name

      kid_rows_are : map (under (subtree_at (subtrees ms) node).name) (subtree_at (subtrees ms) node).rows ≡ map (seen_from depth) copy.block
      kid_rows_are =
          (λ i. map (under (name_here i)) (rows_here i))
          ∙ seen-under (path_at rows at) (last_name (path_at rows next)) (depth + 1) copy.block (ap (λ (n : ℕ). n + 1) d) (subst (λ (q : List (List ℕ)). AllAtOrBelow q copy.block) is copy.below)
          ∙ ap (λ (n : ℕ). map (seen_from n) copy.block) (sym d)

  -- the row itself and its kids
  pub copied-whole : (at next depth : ℕ) (ns : List FrozenNode) (ks : List ℕ) (row : Row) (name : List ℕ) → at < length rows → depth ≡ length (path_at rows at) → option_map (λ (e : Entry). e.row) (slice_get rows at) ≡ Some row → (c : AreCopied rows at next depth ns ks)
      → rows_of_node ns (record { name = name; row = row; kids = ks }) ≡ map (seen_from depth) (get_or rows at no_entry ∷ c.block)
  unfolding rows_of_node
  copied-whole at next depth ns ks row name lt d is c =
      let root : drop depth (path_at rows at) ≡ [] = ap (λ (n : ℕ). drop n (path_at rows at)) d ∙ drop-all (path_at rows at) in
      let own : record { path = []; row = row } ≡ seen_from depth (get_or rows at no_entry) = sym (λ i. record { path = root i; row = row-is rows at row is i }) in
      λ i. own i ∷ c.rows_are i

  -- the row with its kids is a copy of the rows up to the next place
  pub is-copy : (at next end depth : ℕ) (old ns ms : List FrozenNode) (ks : List ℕ) (node : ℕ) → at < next → next ≤ end → at < length rows → depth ≡ length (path_at rows at) → (c : AreCopied rows at next depth ns ks)
      → ((j : ℕ) → at ≤ j → j < next → is_prefix (path_at rows at) (path_at rows j) ≡ true) → (next < end → length (path_at rows next) ≤ depth) → KeepsNodes old ns → KeepsNodes ns ms → node < length ms → (node_at ms node).name ≡ last_name (path_at rows at)
      → ((row : Row) → option_map (λ (e : Entry). e.row) (slice_get rows at) ≡ Some row → rows_from ms node ≡ rows_of_node ns (record { name = last_name (path_at rows at); row = row; kids = ks }))
      → IsCopy rows at end depth old ms node next
  is-copy at next end depth old ns ms ks node less most lt d c places stop before kept within name shown = record {
    after = less;
    most = most;
    block = get_or rows at no_entry ∷ c.block;
    split = at-drop rows at lt ∙ ap (λ (es : List Entry). get_or rows at no_entry ∷ es) c.split;
    below = (prefix-itself (path_at rows at), c.below);
    places = places;
    stop = stop;
    within = within;
    name = name;
    rows_are = shown (get_or rows at no_entry).row here ∙ copied-whole at next depth ns ks (get_or rows at no_entry).row (last_name (path_at rows at)) lt d here c;
    kept = keeps-both old ns ms before kept;
  }
    where
      here : option_map (λ (e : Entry). e.row) (slice_get rows at) ≡ Some (get_or rows at no_entry).row
      here = ap (option_map (λ (e : Entry). e.row)) (some-at rows at lt)
