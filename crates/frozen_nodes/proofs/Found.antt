-- What is found at a path from a node: its row, its children, and the zone that it lies in.
use Rattle.std.proofs.Common.{◌≡◌, ℕ, ◌<◌, suc, List, [], ◌∷◌, length, map, Option, Some, None, refl, ◌∙◌, ap, arith}
use Rattle.std.specs.Option.{option_and_then, option_map, option_map_or}
use Rattle.inode_tree.specs.Listing.{children}
use Rattle.inode_tree.specs.Rows.{Entry, row_at}
use Rattle.frozen_nodes.specs.Forest.{FrozenNode, IsForest, child_at, kid_named, kid_rows, node_at, node_below, rows_from, subtree_at, subtrees}
use Rattle.frozen_nodes.proofs.Kids.{children-kids, deep-kids, inside-kids, kid-below}
use Rattle.frozen_nodes.proofs.Steps.{AllDeep, children-inside, inside, row-inside}
use Rattle.frozen_nodes.proofs.Subtrees.{name-is, rows-are}
use Rattle.frozen_nodes.proofs.ZoneSteps.{depth, depth-below, depth-here, or_depth, own_depth}

module _ (ns : List FrozenNode) (forest : IsForest ns) where
  deep : (n : ℕ) → AllDeep (kid_rows (subtree_at (subtrees ns)) (node_at ns n).kids)
  deep n = deep-kids ns (subtree_at (subtrees ns)) (name-is ns) (node_at ns n).kids

  -- the rows below a name
  named-rows : (n : ℕ) (x : List ℕ) → inside x (kid_rows (subtree_at (subtrees ns)) (node_at ns n).kids) ≡ option_map_or (λ k. rows_from ns k) (kid_named ns (node_at ns n).kids x) []
  unfolding rows_from
  named-rows n x = inside-kids ns (subtree_at (subtrees ns)) (name-is ns) x (node_at ns n).kids (forest n).order

  pub lower : (n : ℕ) (x : List ℕ) (k : ℕ) → n < length ns → kid_named ns (node_at ns n).kids x ≡ Some k → k < length ns
  lower n x k lt e = let b : k < n = kid-below ns n (node_at ns n).kids x k (forest n).below e in omega arith

  pub row-found : (p : List (List ℕ)) (n : ℕ) → n < length ns → row_at (rows_from ns n) p ≡ option_map (λ k. (node_at ns k).row) (node_below ns n p)
  row-found [] n lt = ap (λ (es : List Entry). row_at es []) (rows-are ns forest n lt)
  row-found (x ∷ p) n lt =
      ap (λ (es : List Entry). row_at es (x ∷ p)) (rows-are ns forest n lt)
      ∙ row-inside x p (kid_rows (subtree_at (subtrees ns)) (node_at ns n).kids)
      ∙ ap (λ (es : List Entry). row_at es p) (named-rows n x)
      ∙ go (kid_named ns (node_at ns n).kids x) (λ k e. row-found p k (lower n x k lt e))
    where
      go : (o : Option ℕ) → ((k : ℕ) → o ≡ Some k → row_at (rows_from ns k) p ≡ option_map (λ j. (node_at ns j).row) (node_below ns k p))
          → row_at (option_map_or (λ k. rows_from ns k) o []) p ≡ option_map (λ j. (node_at ns j).row) (option_and_then (λ k. node_below ns k p) o)
      go None h = refl
      go (Some k) h = h k refl

  own-rows : (n : ℕ) → n < length ns → (k : ℕ) → k < n → (es : List Entry) × AllDeep es × ((subtree_at (subtrees ns) k).rows ≡ record { path = []; row = (node_at ns k).row } ∷ es)
  unfolding rows_from
  own-rows n lt k b = (kid_rows (subtree_at (subtrees ns)) (node_at ns k).kids, deep k, rows-are ns forest k (omega arith))

  -- the children of a directory are its kids
  pub children-found : (p : List (List ℕ)) (n : ℕ) → n < length ns → children (rows_from ns n) p ≡ option_map_or (λ k. map (child_at ns) (node_at ns k).kids) (node_below ns n p) []
  children-found [] n lt =
      ap (λ (es : List Entry). children es []) (rows-are ns forest n lt)
      ∙ children-kids ns (subtree_at (subtrees ns)) n (node_at ns n).kids (name-is ns) (own-rows n lt) (forest n).below
  children-found (x ∷ p) n lt =
      ap (λ (es : List Entry). children es (x ∷ p)) (rows-are ns forest n lt)
      ∙ children-inside x p (kid_rows (subtree_at (subtrees ns)) (node_at ns n).kids)
      ∙ ap (λ (es : List Entry). children es p) (named-rows n x)
      ∙ go (kid_named ns (node_at ns n).kids x) (λ k e. children-found p k (lower n x k lt e))
    where
      go : (o : Option ℕ) → ((k : ℕ) → o ≡ Some k → children (rows_from ns k) p ≡ option_map_or (λ j. map (child_at ns) (node_at ns j).kids) (node_below ns k p) [])
          → children (option_map_or (λ k. rows_from ns k) o []) p ≡ option_map_or (λ j. map (child_at ns) (node_at ns j).kids) (option_and_then (λ k. node_below ns k p) o) []
      go None h = refl
      go (Some k) h = h k refl

  -- the zone of a node itself
  pub zone-here : (n : ℕ) → n < length ns → depth (rows_from ns n) [] ≡ own_depth (node_at ns n).row
  zone-here n lt = ap (λ (es : List Entry). depth es []) (rows-are ns forest n lt) ∙ depth-here (node_at ns n).row (kid_rows (subtree_at (subtrees ns)) (node_at ns n).kids) (deep n)

  -- the zone of what is below the kid with the name x, or else the zone of the node itself
  pub zone-below : (n : ℕ) (x : List ℕ) (p : List (List ℕ)) → n < length ns
      → depth (rows_from ns n) (x ∷ p) ≡ or_depth (option_map (λ m. suc m) (option_and_then (λ k. depth (rows_from ns k) p) (kid_named ns (node_at ns n).kids x))) (own_depth (node_at ns n).row)
  zone-below n x p lt =
      ap (λ (es : List Entry). depth es (x ∷ p)) (rows-are ns forest n lt)
      ∙ depth-below (node_at ns n).row (kid_rows (subtree_at (subtrees ns)) (node_at ns n).kids) x p (deep n)
      ∙ ap (λ (es : List Entry). or_depth (option_map (λ m. suc m) (depth es p)) (own_depth (node_at ns n).row)) (named-rows n x)
      ∙ ap (λ (o : Option ℕ). or_depth (option_map (λ m. suc m) o) (own_depth (node_at ns n).row)) (go (kid_named ns (node_at ns n).kids x))
    where
      go : (o : Option ℕ) → depth (option_map_or (λ k. rows_from ns k) o []) p ≡ option_and_then (λ k. depth (rows_from ns k) p) o
      go None = refl
      go (Some k) = refl
