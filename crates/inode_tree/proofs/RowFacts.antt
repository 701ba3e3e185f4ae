-- Properties of the rows of a tree.
use Rattle.std.proofs.Common.{◌≡◌, ℕ, ◌<◌, true, List, [], ◌∷◌, ◌++◌, length, get_or, Option, Some, None, refl, sym, ap, ◌∙◌, subst, arith, inl, inr}
use Rattle.std.specs.Option.{option_map}
use Rattle.std.specs.List.{All}
use Rattle.std.proofs.lemmas.Bool.{cases_eq}
use Rattle.std.proofs.lemmas.List.Elements.{All-from_get_or}
use Rattle.inode_tree.specs.declared.rows.Node.{Node}
use Rattle.name_calls.specs.Paths.{is_relative, parent}
use Rattle.inode_tree.specs.Rows.{Entry, IsRoot, IsRows, entry_of, is_dir, is_dir_at, row_at}
use Rattle.inode_tree.specs.Arena.{IsTree, entry_at, node_at, number_of, path_of, rows_of}
use Rattle.inode_tree.proofs.Asked.{none-at}
use Rattle.inode_tree.proofs.Ranks.{any_entry, length-rows, rows-at, within-at}
use Rattle.inode_tree.proofs.Seeks.{number-live, row-number, same-itself}
use Rattle.inode_tree.proofs.Trees.{entry-number}
use Rattle.inode_tree.proofs.Ups.{path-root}
use Rattle.inode_tree.proofs.ZoneLemmas.{live-once}

parent-snoc : (q : List (List ℕ)) (x : List ℕ) → parent (q ++ x ∷ []) ≡ q
parent-snoc [] x = refl
parent-snoc (y ∷ []) x = refl
parent-snoc (y ∷ z ∷ q) x = ap (λ (r : List (List ℕ)). y ∷ r) (parent-snoc (z ∷ q) x)

module _ (ns : List Node) (order : List ℕ) (ids : ℕ → Option ℕ) (t : IsTree ns order ids) where
  -- a property at each place is true of all rows
  each-row : (P : Entry → Type 0) → ((k : ℕ) → k < length order → P (entry_at ns (get_or order k 0))) → All P (rows_of ns order)
  each-row P h = All-from_get_or P (rows_of ns order) any_entry (λ k b. let c : k < length order = omega (arith, length-rows ns order) in subst P (sym (rows-at ns order k c)) (h k c))

  -- a live node is found by its path
  pub number-at : (k : ℕ) → k < length order → number_of ns order (path_of ns (get_or order k 0)) ≡ Some (get_or order k 0)
  number-at k b = go (number_of ns order (path_of ns (get_or order k 0))) refl
    where
      go : (o : Option ℕ) → number_of ns order (path_of ns (get_or order k 0)) ≡ o → o ≡ Some (get_or order k 0)
      go None e = let f = none-at ns order (path_of ns (get_or order k 0)) k e b in let g = same-itself (path_of ns (get_or order k 0)) in cc
      go (Some n) e =
          let w = number-live ns order (path_of ns (get_or order k 0)) n e in
          let f : get_or order w.0 0 ≡ get_or order k 0 = live-once ns order w.0 k t.rising w.1 b (ap (path_of ns) w.2 ∙ w.3) in
          ap (λ (m : ℕ). Some m) (sym w.2 ∙ f)

  row-live : (k : ℕ) → k < length order → row_at (rows_of ns order) (path_of ns (get_or order k 0)) ≡ Some (node_at ns (get_or order k 0)).row
  row-live k b = row-number ns order (path_of ns (get_or order k 0)) ∙ ap (option_map (λ (m : ℕ). (node_at ns m).row)) (number-at k b)

  root-row : row_at (rows_of ns order) [] ≡ Some (node_at ns 0).row
  root-row =
      let w = t.rooted in
      ap (row_at (rows_of ns order)) (sym (ap (path_of ns) w.2 ∙ path-root ns)) ∙ row-live w.0 w.1 ∙ ap (λ (m : ℕ). Some (node_at ns m).row) w.2

  in-directory : (k : ℕ) → k < length order → is_dir_at (row_at (rows_of ns order) (parent (path_of ns (get_or order k 0)))) ≡ true
  in-directory k b = elim (cases_eq (get_or order k 0) 0) [ inl e ↦ at-root e | inr a ↦ below a ]
    where
      at-root : get_or order k 0 ≡ 0 → is_dir_at (row_at (rows_of ns order) (parent (path_of ns (get_or order k 0)))) ≡ true
      at-root e = ap (λ (q : List (List ℕ)). is_dir_at (row_at (rows_of ns order) (parent q))) (ap (path_of ns) e ∙ path-root ns) ∙ ap is_dir_at root-row ∙ t.root_dir

      below : (get_or order k 0 ≡ 0 → ⊥) → is_dir_at (row_at (rows_of ns order) (parent (path_of ns (get_or order k 0)))) ≡ true
      below a =
          let w = t.housed k b in
          let step : path_of ns (get_or order k 0) ≡ path_of ns (node_at ns (get_or order k 0)).parent ++ (node_at ns (get_or order k 0)).name ∷ [] = t.linked.step (get_or order k 0) (within-at (length ns) order k t.within b) a in
          let up : parent (path_of ns (get_or order k 0)) ≡ path_of ns (get_or order w.0 0) = ap parent step ∙ parent-snoc (path_of ns (node_at ns (get_or order k 0)).parent) (node_at ns (get_or order k 0)).name ∙ ap (path_of ns) (sym w.2) in
          ap (λ (q : List (List ℕ)). is_dir_at (row_at (rows_of ns order) q)) up ∙ ap is_dir_at (row-live w.0 w.1) ∙ ap (λ (m : ℕ). is_dir (node_at ns m).row.kind) w.2 ∙ t.nested k b

  pub is-rows : IsRows (rows_of ns order)
  is-rows = record {
    rising = t.rising;
    ruled = each-row (λ e. is_relative e.path ≡ true) t.ruled;
    once = each-row (λ e. entry_of (rows_of ns order) e.row.id ≡ Some e) (λ k b. entry-number ns order ids (node_at ns (get_or order k 0)).row.id t ∙ ap (option_map (entry_at ns)) (t.named k b));
    rooted = subst IsRoot (sym root-row) (t.root_is, t.root_dir);
    housed = each-row (λ e. is_dir_at (row_at (rows_of ns order) (parent e.path)) ≡ true) in-directory;
  }
