-- Whether rows lie in a directory, by the row that follows it in path order.
use Rattle.std.proofs.Common.{◌≡◌, ℕ, ◌+◌, ◌<◌, ◌≤◌, zero, suc, Bool, true, false, ◌||◌, List, [], ◌∷◌, ◌++◌, length, get_or, Option, Some, None, refl, sym, ap, ◌∙◌, subst, arith, length-append, ◌⊎◌, inl, inr}
use Rattle.std.specs.Prelude.{◌==◌}
use Rattle.std.proofs.lemmas.Bool.{cases_lt, eqb-true, eq-eqb, and_from, and_parts}
use Rattle.inode_tree.specs.declared.rows.Node.{Node}
use Rattle.name_calls.specs.Paths.{is_before, is_child, is_prefix, same_path}
use Rattle.inode_tree.specs.Rows.{Entry, has_children}
use Rattle.inode_tree.specs.Arena.{IsTree, IsRising, rank, rows_of, node_at, path_of, number_of}
use Rattle.inode_tree.proofs.Asked.{none-at}
use Rattle.inode_tree.proofs.Blocks.{between, prefix-not-before}
use Rattle.inode_tree.proofs.Puts.{not-both, same-turned}
use Rattle.inode_tree.proofs.Ranks.{any_entry, rank-above, rank-below, rows-at, length-rows, within-at}
use Rattle.inode_tree.proofs.Seeks.{same-is, same-itself, before-not-same, not-before-itself, other-before, number-live}
use Rattle.inode_tree.proofs.Ups.{path-root}
use Rattle.inode_tree.proofs.ZoneLemmas.{prefix-snoc, prefix-itself, prefix-whole, rising-before}

-- a path below another comes after it
below-after : (p q : List (List ℕ)) → is_prefix p q ≡ true → same_path p q ≡ false → is_before p q ≡ true
below-after p q h s = other-before q p (same-turned p q s) (prefix-not-before p q h)

longer-apart : (p q : List (List ℕ)) → length q ≡ length p + 1 → same_path p q ≡ false
longer-apart p q h = go (same_path p q) refl
  where
    go : (t : Bool) → same_path p q ≡ t → t ≡ false
    go true e = let f = ap length (same-is p q e) in absurd (omega arith)
    go false e = refl

root-first : (p : List (List ℕ)) → is_before p [] ≡ true → ⊥
root-first [] h = cc
root-first (x ∷ p) h = cc

module _ (ns : List Node) (order : List ℕ) (ids : ℕ → Option ℕ) (t : IsTree ns order ids) (p : List (List ℕ)) where
  -- the path of the row at a place
  abbrev at : ℕ → List (List ℕ)
  at k = path_of ns (get_or order k 0)

  any-none : (os : List ℕ) → ((k : ℕ) → k < length os → is_child p (path_of ns (get_or os k 0)) ≡ false) → has_children (rows_of ns os) p ≡ false
  any-none [] h = refl
  any-none (n ∷ os) h = ap (λ (b : Bool). b || has_children (rows_of ns os) p) (h 0 (omega arith)) ∙ any-none os (λ k b. h (suc k) (omega arith))

  any-some : (os : List ℕ) (k : ℕ) → k < length os → is_child p (path_of ns (get_or os k 0)) ≡ true → has_children (rows_of ns os) p ≡ true
  any-some [] k b h = absurd (omega arith)
  any-some (n ∷ os) zero b h = ap (λ (u : Bool). u || has_children (rows_of ns os) p) h
  any-some (n ∷ os) (suc k) b h = go (is_child p (path_of ns n)) (any-some os k (omega arith) h)
    where
      go : (u : Bool) → has_children (rows_of ns os) p ≡ true → (u || has_children (rows_of ns os) p) ≡ true
      go true e = refl
      go false e = e

  rising-at : (os : List ℕ) (i j : ℕ) → IsRising (rows_of ns os) → i < j → j < length os → is_before (path_of ns (get_or os i 0)) (path_of ns (get_or os j 0)) ≡ true
  rising-at [] i j r h b = absurd (omega arith)
  rising-at (n ∷ os) i zero r h b = absurd (omega arith)
  rising-at (n ∷ os) zero (suc j) r h b = rising-before ns n os j r.0 (omega arith)
  rising-at (n ∷ os) (suc i) (suc j) r h b = rising-at os i j r.1 (omega arith) (omega arith)

  -- a row whose path comes before that of another is before it
  place-before : (i j : ℕ) → i < length order → j < length order → is_before (at i) (at j) ≡ true → i < j
  place-before i j b c h = elim (cases_lt i j) [ inl a ↦ a | inr a ↦ absurd (no a) ]
    where
      no : j ≤ i → ⊥
      no a = elim (cases_lt j i) [
        | inl u ↦ not-both (at i) (at j) h (rising-at order j i t.rising u b)
        | inr u ↦ (let e : i ≡ j = omega arith in let f : is_before (at j) (at j) ≡ true = subst (λ (k : ℕ). is_before (at k) (at j) ≡ true) e h in let g = not-before-itself (at j) in cc)
      ]

  -- the rank of a row that exists is its place
  rank-place : (k : ℕ) → k < length order → at k ≡ p → rank (rows_of ns order) p ≡ k
  rank-place k b e = elim (cases_lt (rank (rows_of ns order) p) k) [ inl a ↦ absurd (no a) | inr a ↦ omega (arith, most, a) ]
    where
      path-is : (i : ℕ) → i < length order → (get_or (rows_of ns order) i any_entry).path ≡ at i
      path-is i h = ap (λ (x : Entry). x.path) (rows-at ns order i h)

      most : rank (rows_of ns order) p ≤ k
      most = rank-below (rows_of ns order) p k (omega (arith, length-rows ns order)) (ap (λ (q : List (List ℕ)). is_before q p) (path-is k b ∙ e) ∙ not-before-itself p)

      no : rank (rows_of ns order) p < k → ⊥
      no a =
          let bef : is_before (at (rank (rows_of ns order) p)) p ≡ true = subst (λ (q : List (List ℕ)). is_before (at (rank (rows_of ns order) p)) q ≡ true) e (rising-at order (rank (rows_of ns order) p) k t.rising a b) in
          let inside : rank (rows_of ns order) p < length order = omega arith in
          let low : rank (rows_of ns order) p < rank (rows_of ns order) p = rank-above (rows_of ns order) p (rank (rows_of ns order) p) t.rising (omega (arith, length-rows ns order)) (ap (λ (q : List (List ℕ)). is_before q p) (path-is (rank (rows_of ns order) p) inside) ∙ bef) in
          omega arith

  -- a live node below the root, by its directory
  record HasParent (k : ℕ) : Type 0 where
    place : ℕ
    name : List ℕ
    inside : place < length order
    path_is : at k ≡ at place ++ name ∷ []

  parent-of : (k : ℕ) → k < length order → (at k ≡ [] → ⊥) → HasParent k
  parent-of k b apart =
      let w = t.housed k b in
      let nonzero : get_or order k 0 ≡ 0 → ⊥ = λ e. apart (ap (path_of ns) e ∙ path-root ns) in
      record {
        place = w.0;
        name = (node_at ns (get_or order k 0)).name;
        inside = w.1;
        path_is = t.linked.step (get_or order k 0) (within-at (length ns) order k t.within b) nonzero
            ∙ ap (λ (m : ℕ). path_of ns m ++ (node_at ns (get_or order k 0)).name ∷ []) (sym w.2);
      }

  -- the row after p is a child of p if it is below p
  next-child : (k : ℕ) → k + 1 < length order → at k ≡ p → is_prefix p (at (k + 1)) ≡ true → is_child p (at (k + 1)) ≡ true
  next-child k b e h =
      let after : is_before p (at (k + 1)) ≡ true = subst (λ (q : List (List ℕ)). is_before q (at (k + 1)) ≡ true) e (rising-at order k (k + 1) t.rising (omega arith) b) in
      go after (parent-of (k + 1) b (λ f. root-first p (subst (λ (q : List (List ℕ)). is_before p q ≡ true) f after)))
    where
      go : is_before p (at (k + 1)) ≡ true → HasParent (k + 1) → is_child p (at (k + 1)) ≡ true
      go after w = two (same_path p (at w.place)) refl
        where
          grows : length (at (k + 1)) ≡ length (at w.place) + 1
          grows = ap length w.path_is ∙ length-append (at w.place) (w.name ∷ [])

          apart : same_path p (at w.place ++ w.name ∷ []) ≡ false
          apart = ap (same_path p) (sym w.path_is) ∙ before-not-same p (at (k + 1)) after

          inner : is_prefix p (at w.place) ≡ true
          inner = or-left (is_prefix p (at w.place)) (same_path p (at w.place ++ w.name ∷ [])) apart (sym (prefix-snoc p (at w.place) w.name) ∙ ap (is_prefix p) (sym w.path_is) ∙ h)
            where
              or-left : (a c : Bool) → c ≡ false → (a || c) ≡ true → a ≡ true
              or-left true c e f = refl
              or-left false c e f = cc

          above : is_before (at w.place) (at (k + 1)) ≡ true
          above = below-after (at w.place) (at (k + 1))
              (ap (is_prefix (at w.place)) w.path_is ∙ prefix-snoc (at w.place) (at w.place) w.name ∙ ap (λ (u : Bool). u || same_path (at w.place) (at w.place ++ w.name ∷ [])) (prefix-itself (at w.place)))
              (longer-apart (at w.place) (at (k + 1)) grows)

          two : (s : Bool) → same_path p (at w.place) ≡ s → is_child p (at (k + 1)) ≡ true
          two true s = and_from (is_prefix p (at (k + 1))) (length (at (k + 1)) == length p + 1) h
              (eq-eqb (length (at (k + 1))) (length p + 1) (let f = ap length (same-is p (at w.place) s) in omega (arith, grows)))
          two false s =
              let behind : is_before (at k) (at w.place) ≡ true = subst (λ (q : List (List ℕ)). is_before q (at w.place) ≡ true) (sym e) (below-after p (at w.place) inner s) in
              let here : k < length order = omega arith in
              let low : k < w.place = place-before k w.place here w.inside behind in
              let high : w.place < k + 1 = place-before w.place (k + 1) w.inside b above in
              absurd (omega arith)

  child-after : (j : ℕ) → is_child p (at j) ≡ true → (is_prefix p (at j) ≡ true) × (is_before p (at j) ≡ true)
  child-after j h =
      let parts = and_parts (is_prefix p (at j)) (length (at j) == length p + 1) h in
      (parts.0, below-after p (at j) parts.0 (longer-apart p (at j) (eqb-true _ _ parts.1)))

  -- no row is a child of p if the one after p is not below p
  none-child : (k : ℕ) → k < length order → at k ≡ p → (k + 1 < length order → is_prefix p (at (k + 1)) ≡ false) → (j : ℕ) → j < length order → is_child p (at j) ≡ false
  none-child k b e h j c = go (is_child p (at j)) refl
    where
      go : (u : Bool) → is_child p (at j) ≡ u → u ≡ false
      go false u = refl
      go true u =
          let w = child-after j u in
          let low : k < j = place-before k j b c (subst (λ (q : List (List ℕ)). is_before q (at j) ≡ true) (sym e) w.1) in
          let next : k + 1 < length order ⊎ (length order ≤ k + 1) = cases_lt (k + 1) (length order) in
          let off : is_prefix p (at (k + 1)) ≡ false = h (omega arith) in
          elim (cases_lt (k + 1) j) [
            | inl far ↦ (
                let after : is_before p (at (k + 1)) ≡ true = subst (λ (q : List (List ℕ)). is_before q (at (k + 1)) ≡ true) e (rising-at order k (k + 1) t.rising (omega arith) (omega arith)) in
                let not : is_before (at (k + 1)) p ≡ false = turned (at (k + 1)) after in
                let yes : is_prefix p (at (k + 1)) ≡ true = between p (at (k + 1)) (at j) not (rising-at order (k + 1) j t.rising far c) w.0 in cc)
            | inr near ↦ (
                let same : k + 1 ≡ j = omega arith in
                let yes : is_prefix p (at (k + 1)) ≡ true = subst (λ (i : ℕ). is_prefix p (at i) ≡ true) (sym same) w.0 in cc)
          ]
        where
          turned : (q : List (List ℕ)) → is_before p q ≡ true → is_before q p ≡ false
          turned q f = by (is_before q p) refl
            where
              by : (v : Bool) → is_before q p ≡ v → v ≡ false
              by true g = absurd (not-both p q f g)
              by false g = refl

  -- no row is a child of a path that doesn't exist
  none-housed : number_of ns order p ≡ None → (j : ℕ) → j < length order → is_child p (at j) ≡ false
  none-housed none j b = go (is_child p (at j)) refl
    where
      go : (u : Bool) → is_child p (at j) ≡ u → u ≡ false
      go false u = refl
      go true u =
          let parts = and_parts (is_prefix p (at j)) (length (at j) == length p + 1) u in
          let long : length (at j) ≡ length p + 1 = eqb-true _ _ parts.1 in
          with parts.0 long (parent-of j b (λ f. let g = ap length f in omega arith))
        where
          with : is_prefix p (at j) ≡ true → length (at j) ≡ length p + 1 → HasParent j → true ≡ false
          with h long w =
              let grows : length (at j) ≡ length (at w.place) + 1 = ap length w.path_is ∙ length-append (at w.place) (w.name ∷ []) in
              let inner : is_prefix p (at w.place) ≡ true = or-left (is_prefix p (at w.place)) (same_path p (at w.place ++ w.name ∷ [])) (ap (same_path p) (sym w.path_is) ∙ longer-apart p (at j) long) (sym (prefix-snoc p (at w.place) w.name) ∙ ap (is_prefix p) (sym w.path_is) ∙ h) in
              let same : p ≡ at w.place = prefix-whole p (at w.place) inner (omega arith) in
              let off : same_path (at w.place) p ≡ false = none-at ns order p w.place none w.inside in
              let on : same_path (at w.place) p ≡ true = ap (same_path (at w.place)) same ∙ same-itself (at w.place) in cc
            where
              or-left : (a c : Bool) → c ≡ false → (a || c) ≡ true → a ≡ true
              or-left true c e f = refl
              or-left false c e f = cc

  place-of : (n : ℕ) → number_of ns order p ≡ Some n → (k : ℕ) × (k < length order) × (at k ≡ p)
  place-of n e = let w = number-live ns order p n e in (w.0, w.1, ap (path_of ns) w.2 ∙ w.3)

  pub place-below : (n : ℕ) → number_of ns order p ≡ Some n → rank (rows_of ns order) p < length order
  place-below n e = let w = place-of n e in let r = rank-place w.0 w.1 w.2 in omega (arith, r, w.1)

  pub children-none : number_of ns order p ≡ None → has_children (rows_of ns order) p ≡ false
  children-none none = any-none order (none-housed none)

  pub children-last : (n : ℕ) → number_of ns order p ≡ Some n → length order ≤ rank (rows_of ns order) p + 1 → has_children (rows_of ns order) p ≡ false
  children-last n e h =
      let w = place-of n e in
      let r = rank-place w.0 w.1 w.2 in
      any-none order (none-child w.0 w.1 w.2 (λ b. absurd (omega arith)))

  pub children-next : (n : ℕ) → number_of ns order p ≡ Some n → rank (rows_of ns order) p + 1 < length order → has_children (rows_of ns order) p ≡ is_prefix p (at (rank (rows_of ns order) p + 1))
  children-next n e h =
      let w = place-of n e in
      let r : rank (rows_of ns order) p ≡ w.0 = rank-place w.0 w.1 w.2 in
      go (is_prefix p (at (rank (rows_of ns order) p + 1))) refl w r
    where
      go : (u : Bool) → is_prefix p (at (rank (rows_of ns order) p + 1)) ≡ u → (w : (k : ℕ) × (k < length order) × (at k ≡ p)) → rank (rows_of ns order) p ≡ w.0 → has_children (rows_of ns order) p ≡ u
      go true u w r =
          let next : w.0 + 1 < length order = omega arith in
          let yes : is_prefix p (at (w.0 + 1)) ≡ true = subst (λ (k : ℕ). is_prefix p (at (k + 1)) ≡ true) r u in
          any-some order (w.0 + 1) next (next-child w.0 next w.2 yes)
      go false u w r = any-none order (none-child w.0 w.1 w.2 (λ _. subst (λ (k : ℕ). is_prefix p (at (k + 1)) ≡ false) r u))
