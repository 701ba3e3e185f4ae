-- Walks from a node down a path.
use Rattle.std.proofs.Common.{◌≡◌, ℕ, ◌+◌, ◌<◌, ◌≤◌, zero, suc, Bool, true, false, cond, List, [], ◌∷◌, length, get_or, drop, map, Option, Some, None, refl, sym, ◌∙◌, ap, arith}
use Rattle.std.specs.Option.{option_and_then, option_map, option_map_or}
use Rattle.std.proofs.lemmas.List.{drop_all}
use Rattle.std.proofs.Math.Seq.{drop-cons}
use Rattle.name_calls.specs.Paths.{is_component}
use Rattle.inode_tree.specs.declared.rows.Row.{Row}
use Rattle.inode_tree.specs.Listing.{children}
use Rattle.inode_tree.specs.Rows.{is_dir, is_dir_at, is_marked, row_at}
use Rattle.name_calls.specs.declared.listing.Child.{Child}
use Rattle.frozen_nodes.specs.Forest.{AreBelow, FrozenNode, HaveNames, IsForest, child_at, kid_named, node_at, node_below, rows_from}
use Rattle.frozen_nodes.proofs.Found.{children-found, lower, row-found, zone-below, zone-here}
use Rattle.frozen_nodes.proofs.ZoneSteps.{depth, or_depth, own_depth}

pub one-step : (ns : List FrozenNode) (n : ℕ) (p : List (List ℕ)) (k : ℕ) → k < length p
    → node_below ns n (drop k p) ≡ option_and_then (λ m. node_below ns m (drop (k + 1) p)) (kid_named ns (node_at ns n).kids (get_or p k []))
one-step ns n p k lt =
    ap (node_below ns n) (drop-cons p k [] lt)
    ∙ (λ i. option_and_then (λ m. node_below ns m (drop (next i) p)) (kid_named ns (node_at ns n).kids (get_or p k [])))
  where
    next : suc k ≡ k + 1
    next = omega arith

pub at-end : (ns : List FrozenNode) (n : ℕ) (p : List (List ℕ)) (k : ℕ) → length p ≤ k → node_below ns n (drop k p) ≡ Some n
at-end ns n p k le = ap (node_below ns n) (drop_all k p le)

-- kids come before their node
pub below-at : (n : ℕ) (ks : List ℕ) (j d : ℕ) → AreBelow n ks → j < length ks → get_or ks j d < n
below-at n [] j d b h = absurd (omega arith)
below-at n (k ∷ ks) zero d b h = b.0
below-at n (k ∷ ks) (suc j) d b h = below-at n ks j d b.1 (omega arith)

pub ruled-at : (ns : List FrozenNode) (ks : List ℕ) (j d : ℕ) → HaveNames ns ks → j < length ks → is_component (node_at ns (get_or ks j d)).name ≡ true
ruled-at ns [] j d b h = absurd (omega arith)
ruled-at ns (k ∷ ks) zero d b h = b.0
ruled-at ns (k ∷ ks) (suc j) d b h = ruled-at ns ks j d b.1 (omega arith)

-- the zone that was met last, and what is found further down
abbrev pub zone_further : List FrozenNode → ℕ → ℕ → List (List ℕ) → Option ℕ → Option ℕ
zone_further ns n k p zone = or_depth (option_map (λ m. k + m) (depth (rows_from ns n) (drop k p))) zone

own-after : (row : Row) (k : ℕ) (zone : Option ℕ) → or_depth (option_map (λ m. k + m) (own_depth row)) zone ≡ cond (is_marked row) (Some k) zone
own-after row k zone = go (is_marked row)
  where
    go : (t : Bool) → or_depth (option_map (λ m. k + m) (cond t (Some 0) None)) zone ≡ cond t (Some k) zone
    go true = ap (λ (m : ℕ). Some m) same
      where
        same : k + 0 ≡ k
        same = omega arith
    go false = refl

module _ (ns : List FrozenNode) (forest : IsForest ns) (n : ℕ) (lt : n < length ns) (p : List (List ℕ)) (k : ℕ) (zone : Option ℕ) where
  pub zone-end : length p ≤ k → zone_further ns n k p zone ≡ cond (is_marked (node_at ns n).row) (Some k) zone
  zone-end le =
      ap (λ (q : List (List ℕ)). or_depth (option_map (λ m. k + m) (depth (rows_from ns n) q)) zone) (drop_all k p le)
      ∙ ap (λ (o : Option ℕ). or_depth (option_map (λ m. k + m) o) zone) (zone-here ns forest n lt)
      ∙ own-after (node_at ns n).row k zone

  step : k < length p → zone_further ns n k p zone
      ≡ or_depth (option_map (λ m. k + m) (or_depth (option_map (λ m. suc m) (option_and_then (λ j. depth (rows_from ns j) (drop (suc k) p)) (kid_named ns (node_at ns n).kids (get_or p k [])))) (own_depth (node_at ns n).row))) zone
  step less =
      ap (λ (q : List (List ℕ)). or_depth (option_map (λ m. k + m) (depth (rows_from ns n) q)) zone) (drop-cons p k [] less)
      ∙ ap (λ (o : Option ℕ). or_depth (option_map (λ m. k + m) o) zone) (zone-below ns forest n (get_or p k []) (drop (suc k) p) lt)

  pub zone-none : k < length p → kid_named ns (node_at ns n).kids (get_or p k []) ≡ None → zone_further ns n k p zone ≡ cond (is_marked (node_at ns n).row) (Some k) zone
  zone-none less none =
      step less
      ∙ ap (λ (o : Option ℕ). or_depth (option_map (λ m. k + m) (or_depth (option_map (λ m. suc m) (option_and_then (λ j. depth (rows_from ns j) (drop (suc k) p)) o)) (own_depth (node_at ns n).row))) zone) none
      ∙ own-after (node_at ns n).row k zone

  pub zone-some : (kid : ℕ) → k < length p → kid_named ns (node_at ns n).kids (get_or p k []) ≡ Some kid
      → zone_further ns n k p zone ≡ zone_further ns kid (k + 1) p (cond (is_marked (node_at ns n).row) (Some k) zone)
  zone-some kid less some =
      step less
      ∙ ap (λ (o : Option ℕ). or_depth (option_map (λ m. k + m) (or_depth (option_map (λ m. suc m) (option_and_then (λ j. depth (rows_from ns j) (drop (suc k) p)) o)) (own_depth (node_at ns n).row))) zone) some
      ∙ go (depth (rows_from ns kid) (drop (suc k) p))
      ∙ (λ i. or_depth (option_map (λ m. k + 1 + m) (depth (rows_from ns kid) (drop (next i) p))) (cond (is_marked (node_at ns n).row) (Some k) zone))
    where
      next : suc k ≡ k + 1
      next = omega arith

      go : (o : Option ℕ) → or_depth (option_map (λ m. k + m) (or_depth (option_map (λ m. suc m) o) (own_depth (node_at ns n).row))) zone
          ≡ or_depth (option_map (λ m. k + 1 + m) o) (cond (is_marked (node_at ns n).row) (Some k) zone)
      go None = own-after (node_at ns n).row k zone
      go (Some m) = ap (λ (j : ℕ). Some j) more
        where
          more : k + suc m ≡ k + 1 + m
          more = omega arith

-- one name further: to the kid with the name, or to nothing
module _ (ns : List FrozenNode) (forest : IsForest ns) (n : ℕ) (lt : n < length ns) (p : List (List ℕ)) (k : ℕ) (less : k < length p) (x : List ℕ) (x_is : x ≡ get_or p k []) where
  sought : (o : Option ℕ) → o ≡ kid_named ns (node_at ns n).kids x → kid_named ns (node_at ns n).kids (get_or p k []) ≡ o
  sought o is = ap (kid_named ns (node_at ns n).kids) (sym x_is) ∙ sym is

  pub kid-within : (kid : ℕ) → Some kid ≡ kid_named ns (node_at ns n).kids x → kid < length ns
  kid-within kid is = lower ns forest n x kid lt (sym is)

  pub some-further : (kid : ℕ) → Some kid ≡ kid_named ns (node_at ns n).kids x → node_below ns n (drop k p) ≡ node_below ns kid (drop (k + 1) p)
  some-further kid is = one-step ns n p k less ∙ ap (option_and_then (λ m. node_below ns m (drop (k + 1) p))) (sought (Some kid) is)

  pub none-further : None ≡ kid_named ns (node_at ns n).kids x → node_below ns n (drop k p) ≡ None
  none-further is = one-step ns n p k less ∙ ap (option_and_then (λ m. node_below ns m (drop (k + 1) p))) (sought None is)

  pub zone-some-further : (zone next : Option ℕ) (kid : ℕ) → next ≡ cond (is_marked (node_at ns n).row) (Some k) zone → Some kid ≡ kid_named ns (node_at ns n).kids x
      → zone_further ns n k p zone ≡ zone_further ns kid (k + 1) p next
  zone-some-further zone next kid is found = zone-some ns forest n lt p k zone kid less (sought (Some kid) found) ∙ ap (zone_further ns kid (k + 1) p) (sym is)

  pub zone-none-further : (zone next : Option ℕ) → next ≡ cond (is_marked (node_at ns n).row) (Some k) zone → None ≡ kid_named ns (node_at ns n).kids x
      → zone_further ns n k p zone ≡ next
  zone-none-further zone next is found = zone-none ns forest n lt p k zone less (sought None found) ∙ sym is

pub zone-start : (ns : List FrozenNode) (n : ℕ) (p : List (List ℕ)) → depth (rows_from ns n) p ≡ zone_further ns n 0 p None
zone-start ns n p = go (depth (rows_from ns n) p)
  where
    go : (o : Option ℕ) → o ≡ or_depth (option_map (λ m. 0 + m) o) None
    go None = refl
    go (Some m) = ap (λ (j : ℕ). Some j) same
      where
        same : m ≡ 0 + m
        same = omega arith

-- what is found at a path, if there is a node
module _ (ns : List FrozenNode) (forest : IsForest ns) (root : ℕ) (lt : root < length ns) (p : List (List ℕ)) where
  pub row-some : (n : ℕ) → Some n ≡ node_below ns root p → row_at (rows_from ns root) p ≡ Some (node_at ns n).row
  row-some n is = row-found ns forest p root lt ∙ sym (ap (option_map (λ k. (node_at ns k).row)) is)

  pub row-none : None ≡ node_below ns root p → row_at (rows_from ns root) p ≡ None
  row-none is = row-found ns forest p root lt ∙ sym (ap (option_map (λ k. (node_at ns k).row)) is)

  pub list-some : (n : ℕ) → Some n ≡ node_below ns root p
      → cond (is_dir (node_at ns n).row.kind) (Some (map (child_at ns) (node_at ns n).kids)) None ≡ cond (is_dir_at (row_at (rows_from ns root) p)) (Some (children (rows_from ns root) p)) None
  list-some n is =
      sym (ap (λ (o : Option Row). cond (is_dir_at o) (Some (children (rows_from ns root) p)) None) (row-some n is)
      ∙ ap (λ (cs : List Child). cond (is_dir (node_at ns n).row.kind) (Some cs) None) (children-found ns forest p root lt ∙ sym (ap (λ (o : Option ℕ). option_map_or (λ k. map (child_at ns) (node_at ns k).kids) o []) is)))

  pub list-none : None ≡ node_below ns root p → None ≡ cond (is_dir_at (row_at (rows_from ns root) p)) (Some (children (rows_from ns root) p)) None
  list-none is = sym (ap (λ (o : Option Row). cond (is_dir_at o) (Some (children (rows_from ns root) p)) None) (row-none is))
