-- The tree after a move, from what the searches find.
use Rattle.std.proofs.Common.{◌≡◌, ℕ, ◌-◌, ◌<◌, ◌≤◌, Bool, true, false, cond, List, [], ◌∷◌, ◌++◌, length, get_or, map, take, Option, Some, None, refl, sym, ap, ◌∙◌, subst, arith}
use Rattle.std.specs.Prelude.{is_some, nat_le}
use Rattle.std.specs.Option.{option_map}
use Rattle.std.specs.List.{AllByRecursion}
use Rattle.std.proofs.lemmas.Bool.Decides.{nat_tests}
use Rattle.std.proofs.lemmas.List.Elements.{All-from_recursion, recursion_from_All}
use Rattle.std.proofs.lemmas.Bool.{leb-true, leb-false, le-leb}
use Rattle.name_calls.specs.Paths.{is_relative}
use Rattle.inode_tree.specs.declared.rows.Node.{Node}
use Rattle.inode_tree.specs.declared.rows.Row.{Row}
use Rattle.inode_tree.specs.Rows.{Entry, IsRising, is_dir_at, row_at}
use Rattle.inode_tree.specs.Arena.{IsFree, IsTree, node_at, number_of, rank, rank_past, rows_of, with_place}
use Rattle.inode_tree.specs.Listed.{shifted, turned}
use Rattle.inode_tree.specs.Moves.{CanMove, moved, moved_path, renamed}
use Rattle.inode_tree.proofs.Asked.{absent-number, deep-number, directory-number, directory-found, parent-take}
use Rattle.inode_tree.proofs.Lasts.{last-split}
use Rattle.inode_tree.proofs.MovedNodes.{HasMoved, free-moved, rows-turned, tree-moved}
use Rattle.inode_tree.proofs.MovedPlaces.{all-free, moved-left, moved-right, places-apart, rank-upto, turned-renamed}
use Rattle.inode_tree.proofs.MovedRows.{IsOff}
use Rattle.inode_tree.proofs.MovedRules.{fits-parts, ruled-moved}
use Rattle.inode_tree.proofs.Pasts.{past-most}
use Rattle.inode_tree.proofs.Ranks.{any_entry, length-rows, rank-most, rows-at, within-at}
use Rattle.inode_tree.proofs.RowFacts.{is-rows}
use Rattle.inode_tree.proofs.Seeks.{number-live, row-number}

no-le : (a b : ℕ) → (a ≤ b → ⊥) → nat_le a b ≡ false
no-le a b h = grind (arith, nat_tests)

-- a test of the places picks the runs that change places
pub shifted-left : {X : Type 0} (xs : List X) (from end at : ℕ) → at ≤ from → shifted from end at xs ≡ turned at from end xs
shifted-left xs from end at h = ap (λ (t : Bool). cond t (turned at from end xs) (turned from end at xs)) (le-leb at from h)

pub shifted-right : {X : Type 0} (xs : List X) (from end at : ℕ) → (at ≤ from → ⊥) → shifted from end at xs ≡ turned from end at xs
shifted-right xs from end at h = ap (λ (t : Bool). cond t (turned at from end xs) (turned from end at xs)) (no-le at from h)

module _ (ns : List Node) (order : List ℕ) (ids : ℕ → Option ℕ) (t : IsTree ns order ids) (p q : List (List ℕ)) (can : CanMove (rows_of ns order) p q) where
  abbrev rows : List Entry
  rows = rows_of ns order

  free : AllByRecursion (IsOff q) (rows_of ns order)
  free = all-free (rows_of ns order) (is-rows ns order ids t).housed q can.absent

  pub to-deep : 0 < length q
  to-deep = deep-number ns order ids q t (absent-number ns order q can.absent)

  -- the places in which the code swaps runs
  pub runs-left : rank rows q ≤ rank rows p → (rank rows q ≤ rank rows p) × (rank rows p ≤ rank_past rows p) × (rank_past rows p ≤ length order)
  runs-left h = (h, rank-upto rows p, let m = past-most rows p in omega (arith, length-rows ns order))

  pub runs-right : (rank rows q ≤ rank rows p → ⊥) → (rank rows p ≤ rank_past rows p) × (rank_past rows p ≤ rank rows q) × (rank rows q ≤ length order)
  runs-right h = (rank-upto rows p, places-apart rows p q t.rising free can.apart (more (rank rows q) (rank rows p) h), let m = rank-most rows q in omega (arith, length-rows ns order))
    where
      more : (a b : ℕ) → (a ≤ b → ⊥) → b < a
      more a b h = grind arith

  -- the row at p is found, and the directory of q
  pub found-from : number_of ns order p ≡ None → ⊥
  found-from e = none-some (row_at (rows_of ns order) p) (row-number ns order p ∙ ap (option_map (λ (k : ℕ). (node_at ns k).row)) e) can.stands
    where
      none-some : (o : Option Row) → o ≡ None → is_some o ≡ true → ⊥
      none-some None e h = cc
      none-some (Some row) e h = cc

  directory-is : is_dir_at (row_at (rows_of ns order) (take (length q - 1) q)) ≡ true
  directory-is = ap (λ (r : List (List ℕ)). is_dir_at (row_at (rows_of ns order) r)) (sym (parent-take q)) ∙ can.housed

  pub found-into : number_of ns order (take (length q - 1) q) ≡ None → ⊥
  found-into = directory-found ns order (take (length q - 1) q) directory-is

  module _ (rule : is_relative q ≡ true) (n h : ℕ) (en : number_of ns order p ≡ Some n) (eh : number_of ns order (take (length q - 1) q) ≡ Some h) where
    pub node-below : n < length ns
    node-below = let w = number-live ns order p n en in below-number ns order ids t w.0 w.1 n w.2
      where
        below-number : (ns : List Node) (order : List ℕ) (ids : ℕ → Option ℕ) → IsTree ns order ids → (k : ℕ) → k < length order → (n : ℕ) → get_or order k 0 ≡ n → n < length ns
        below-number ns order ids t k b n e = subst (λ (j : ℕ). j < length ns) e (within-at (length ns) order k t.within b)

    has-moved : HasMoved ns order ids p q n h (get_or q (length q - 1) [])
    has-moved =
        let w = number-live ns order p n en in
        let v = number-live ns order (take (length q - 1) q) h eh in
        let deep = to-deep in
        record {
          old = t;
          live = (w.0, w.1, w.2);
          at = w.3;
          into = (v.0, v.1, v.2);
          name_is = last-split q (length q - 1) (omega arith) ∙ ap (λ (r : List (List ℕ)). r ++ (get_or q (length q - 1) [] ∷ [])) (sym v.3);
          directory = directory-number ns order (take (length q - 1) q) h directory-is eh;
          apart = can.apart;
          ruled = λ k b.
              let each = ruled-moved p q to-deep rule (rows_of ns order) (fits-parts (rows_of ns order) p q can.fits).0 (fits-parts (rows_of ns order) p q can.fits).1 (recursion_from_All (λ e. is_relative e.path ≡ true) (rows_of ns order) (is-rows ns order ids t).ruled) in
              ap (λ (e : Entry). is_relative (moved_path p q e.path)) (sym (rows-at ns order k b)) ∙ All-from_recursion (λ e. is_relative (moved_path p q e.path) ≡ true) (rows_of ns order) each k any_entry (omega (arith, length-rows ns order));
        }

    -- what the code has made of the tree
    pub record Moves (order' : List ℕ) : Type 0 where
      pub tree : IsTree (with_place ns n h (get_or q (length q - 1) [])) order' ids
      pub free : (free : List ℕ) → IsFree ns order free → IsFree (with_place ns n h (get_or q (length q - 1) [])) order' free
      pub rows : rows_of (with_place ns n h (get_or q (length q - 1) [])) order' ≡ renamed p q (rows_of ns order)

    runs : (a b c : ℕ) → a ≤ b → b ≤ c → c ≤ length order → IsRising (map (moved p q) (turned a b c (rows_of ns order))) → Moves (turned a b c order)
    runs a b c low high inside rises = record {
      tree = tree-moved ns order ids p q n h (get_or q (length q - 1) []) has-moved a b c low high inside rises;
      free = free-moved ns order ids p q n h (get_or q (length q - 1) []) has-moved a b c low high inside;
      rows = rows-turned ns order ids p q n h (get_or q (length q - 1) []) has-moved a b c low high inside ∙ sym (turned-renamed (rows_of ns order) p q t.rising free a b c low high rises);
    }

    pub moves : Moves (shifted (rank (rows_of ns order) p) (rank_past (rows_of ns order) p) (rank (rows_of ns order) q) order)
    moves = go (nat_le (rank rows q) (rank rows p)) refl
      where
        go : (b : Bool) → nat_le (rank rows q) (rank rows p) ≡ b → Moves (cond b (turned (rank rows q) (rank rows p) (rank_past rows p) order) (turned (rank rows p) (rank_past rows p) (rank rows q) order))
        go true e = let l = leb-true _ _ e in let w = runs-left l in runs _ _ _ w.0 w.1 w.2 (moved-left rows p q t.rising free l)
        go false e = let l = leb-false _ _ e in let w = runs-right (λ k. omega arith) in runs _ _ _ w.0 w.1 w.2 (moved-right rows p q t.rising free w.1)
