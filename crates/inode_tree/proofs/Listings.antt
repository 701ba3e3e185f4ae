-- The children of a directory, by places of rows.
use Rattle.std.proofs.Common.{◌≡◌, ℕ, ◌+◌, ◌<◌, ◌≤◌, zero, suc, Bool, true, false, cond, map, ◌||◌, List, [], ◌∷◌, ◌++◌, length, get_or, drop, Option, refl, sym, ap, ◌∙◌, subst, arith, inl, inr}
use Rattle.std.specs.Prelude.{◌==◌}
use Rattle.std.specs.List.{filter}
use Rattle.std.proofs.lemmas.Bool.{cases_lt, eqb-true, eq-eqb, ne_eqb, and_from, and_right, and_left, false_from_ne_true, and_parts}
use Rattle.inode_tree.specs.declared.rows.Node.{Node}
use Rattle.name_calls.specs.declared.listing.Child.{Child}
use Rattle.name_calls.specs.Paths.{is_before, is_child, is_prefix, last_name}
use Rattle.inode_tree.specs.Listing.{child_of, children}
use Rattle.inode_tree.specs.Rows.{Entry, is_dir}
use Rattle.inode_tree.specs.Arena.{IsRising, IsSkip, IsTree, node_at, path_of, rank, rank_past, rows_of}
use Rattle.inode_tree.proofs.Blocks.{prefix-not-before}
use Rattle.inode_tree.proofs.Pasts.{block-at, past-above, past-most, past-on, rising-at}
use Rattle.inode_tree.proofs.Ranks.{any_entry, length-rows, rank-below, rows-at, within-at}
use Rattle.inode_tree.proofs.Seeks.{not-before-itself}
use Rattle.inode_tree.proofs.Ups.{path-root}
use Rattle.inode_tree.proofs.ZoneLemmas.{prefix-itself, prefix-whole}

-- no row before the path is a child of it
pub children-rank : (es : List Entry) (p : List (List ℕ)) → children (drop (rank es p) es) p ≡ children es p
children-rank [] p = refl
children-rank (e ∷ es) p = go (is_before e.path p) refl (children-rank es p)
  where
    go : (t : Bool) → is_before e.path p ≡ t → children (drop (rank es p) es) p ≡ children es p → children (drop (cond t (suc (rank es p)) 0) (e ∷ es)) p ≡ children (e ∷ es) p
    go false f ih = refl
    go true f ih = ih ∙ sym (ap (λ (b : Bool). map child_of (cond b (e ∷ filter (λ y. is_child p y.path) es) (filter (λ y. is_child p y.path) es))) apart)
      where
        apart : is_child p e.path ≡ false
        apart = and_left (is_prefix p e.path) _ (false_from_ne_true (is_prefix p e.path) (λ g. let k = prefix-not-before p e.path g in cc))

-- a stretch of rows that are no children
pub children-none : (es : List Entry) (p : List (List ℕ)) (at next : ℕ) → at ≤ next → next ≤ length es → ((k : ℕ) → at ≤ k → k < next → is_child p (get_or es k any_entry).path ≡ false) → children (drop at es) p ≡ children (drop next es) p
children-none [] p zero zero h l a = refl
children-none [] p zero (suc next) h l a = refl
children-none [] p (suc at) zero h l a = absurd (omega arith)
children-none [] p (suc at) (suc next) h l a = refl
children-none (e ∷ es) p zero zero h l a = refl
children-none (e ∷ es) p zero (suc next) h l a = ap (λ (b : Bool). map child_of (cond b (e ∷ filter (λ y. is_child p y.path) es) (filter (λ y. is_child p y.path) es))) (a 0 (omega arith) (omega arith)) ∙ children-none es p 0 next (omega arith) (omega arith) (λ k i j. a (suc k) (omega arith) (omega arith))
children-none (e ∷ es) p (suc at) zero h l a = absurd (omega arith)
children-none (e ∷ es) p (suc at) (suc next) h l a = children-none es p at next (omega arith) (omega arith) (λ k i j. a (suc k) (omega arith) (omega arith))

drop-all : (es : List Entry) → drop (length es) es ≡ []
drop-all [] = refl
drop-all (e ∷ es) = drop-all es

-- no row after those below the path is a child of it
pub children-past : (es : List Entry) (p : List (List ℕ)) (at : ℕ) → IsRising es → rank_past es p ≤ at → children (drop at es) p ≡ []
children-past es p at r h = elim (cases_lt at (length es)) [
  | inl a ↦ children-none es p at (length es) (omega arith) (omega arith) (λ k i j. off k i j) ∙ ap (λ (xs : List Entry). children xs p) (drop-all es)
  | inr a ↦ ap (λ (xs : List Entry). children xs p) (past-all es at a)
]
  where
    past-all : (xs : List Entry) (n : ℕ) → length xs ≤ n → drop n xs ≡ []
    past-all [] zero l = refl
    past-all [] (suc n) l = refl
    past-all (x ∷ xs) zero l = absurd (omega arith)
    past-all (x ∷ xs) (suc n) l = past-all xs n (omega arith)

    off : (k : ℕ) → at ≤ k → k < length es → is_child p (get_or es k any_entry).path ≡ false
    off k i j = and_left (is_prefix p (get_or es k any_entry).path) _ (false_from_ne_true (is_prefix p (get_or es k any_entry).path) (λ g. let low = past-above es p k r j (upto (is_before (get_or es k any_entry).path p) (is_prefix p (get_or es k any_entry).path) g) in omega arith))
      where
        upto : (a b : Bool) → b ≡ true → (a || b) ≡ true
        upto true b e = refl
        upto false b e = e

-- the row at a place is a child
pub children-take : (es : List Entry) (p : List (List ℕ)) (at : ℕ) → at < length es → is_child p (get_or es at any_entry).path ≡ true → children (drop at es) p ≡ child_of (get_or es at any_entry) ∷ children (drop (at + 1) es) p
children-take es p at h e = let f : at + 1 ≡ suc at = omega arith in rw f (go es at h e)
  where
    go : (es : List Entry) (at : ℕ) → at < length es → is_child p (get_or es at any_entry).path ≡ true → children (drop at es) p ≡ child_of (get_or es at any_entry) ∷ children (drop (suc at) es) p
    go [] at h e = absurd (omega arith)
    go (x ∷ es) zero h e = ap (λ (b : Bool). map child_of (cond b (x ∷ filter (λ y. is_child p y.path) es) (filter (λ y. is_child p y.path) es))) e
    go (x ∷ es) (suc at) h e = go es at (omega arith) e

last-snoc : (q : List (List ℕ)) (x : List ℕ) → last_name (q ++ x ∷ []) ≡ x
last-snoc [] x = refl
last-snoc (y ∷ []) x = refl
last-snoc (y ∷ z ∷ q) x = last-snoc (z ∷ q) x

module _ (ns : List Node) (order : List ℕ) (ids : ℕ → Option ℕ) (t : IsTree ns order ids) (at : ℕ) (inside : at < length order) where
  path-at : (k : ℕ) → k < length order → (get_or (rows_of ns order) k any_entry).path ≡ path_of ns (get_or order k 0)
  path-at k b = ap (λ (x : Entry). x.path) (rows-at ns order k b)

  inside-rows : at < length (rows_of ns order)
  inside-rows = omega (arith, length-rows ns order)

  -- the place after all rows below the row
  pub skip-past : IsSkip ns order at (rank_past (rows_of ns order) (path_of ns (get_or order at 0)))
  skip-past = record {
    after = let a = past-on ns order (path_of ns (get_or order at 0)) at (get_or order at 0) t.rising inside refl (upto (is_before (path_of ns (get_or order at 0)) (path_of ns (get_or order at 0))) _ (prefix-itself (path_of ns (get_or order at 0)))) in omega arith;
    most = most;
    below = λ k a b.
        let c : k < length order = omega (arith, most) in
        let low : rank (rows_of ns order) (path_of ns (get_or order at 0)) ≤ at = rank-below (rows_of ns order) (path_of ns (get_or order at 0)) at inside-rows (ap (λ (q : List (List ℕ)). is_before q (path_of ns (get_or order at 0))) (path-at at inside) ∙ not-before-itself (path_of ns (get_or order at 0))) in
        ap (is_prefix (path_of ns (get_or order at 0))) (sym (path-at k c)) ∙ block-at (rows_of ns order) (path_of ns (get_or order at 0)) k t.rising (omega arith) b;
  }
    where
      most : rank_past (rows_of ns order) (path_of ns (get_or order at 0)) ≤ length order
      most = let m = past-most (rows_of ns order) (path_of ns (get_or order at 0)) in omega (arith, length-rows ns order)

      upto : (a b : Bool) → b ≡ true → (a || b) ≡ true
      upto true b e = refl
      upto false b e = e

  module _ (p : List (List ℕ)) (low : rank (rows_of ns order) p ≤ at) (high : at < rank_past (rows_of ns order) p) where
    here : is_prefix p (path_of ns (get_or order at 0)) ≡ true
    here = ap (is_prefix p) (sym (path-at at inside)) ∙ block-at (rows_of ns order) p at t.rising low high

    -- a row with other than one name more
    pub passed : (length (path_of ns (get_or order at 0)) ≡ length p + 1 → ⊥) → children (drop at (rows_of ns order)) p ≡ children (drop (at + 1) (rows_of ns order)) p
    passed a = children-none (rows_of ns order) p at (at + 1) (omega arith) (omega (arith, length-rows ns order)) (λ k i j.
        let e : k ≡ at = omega arith in
        ap (λ (m : ℕ). is_child p (get_or (rows_of ns order) m any_entry).path) e ∙ ap (is_child p) (path-at at inside)
        ∙ and_right (is_prefix p (path_of ns (get_or order at 0))) (length (path_of ns (get_or order at 0)) == length p + 1) (ne_eqb (length (path_of ns (get_or order at 0))) (length p + 1) a))

    -- a child, and the rows below it
    pub taken : (next : ℕ) → IsSkip ns order at next → length (path_of ns (get_or order at 0)) ≡ length p + 1
        → children (drop at (rows_of ns order)) p ≡ record { name = (node_at ns (get_or order at 0)).name; directory = is_dir (node_at ns (get_or order at 0)).row.kind } ∷ children (drop next (rows_of ns order)) p
    taken next s long =
        children-take (rows_of ns order) p at inside-rows (ap (is_child p) (path-at at inside) ∙ and_from (is_prefix p (path_of ns (get_or order at 0))) (length (path_of ns (get_or order at 0)) == length p + 1) here (eq-eqb (length (path_of ns (get_or order at 0))) (length p + 1) long))
        ∙ ap (λ (x : Entry). child_of x ∷ children (drop (at + 1) (rows_of ns order)) p) (rows-at ns order at inside)
        ∙ ap (λ (x : List ℕ). record { name = x; directory = is_dir (node_at ns (get_or order at 0)).row.kind } ∷ children (drop (at + 1) (rows_of ns order)) p) name-is
        ∙ ap (λ (cs : List Child). record { name = (node_at ns (get_or order at 0)).name; directory = is_dir (node_at ns (get_or order at 0)).row.kind } ∷ cs) rest
      where
        name-is : last_name (path_of ns (get_or order at 0)) ≡ (node_at ns (get_or order at 0)).name
        name-is =
            let apart : get_or order at 0 ≡ 0 → ⊥ = λ e. let l = ap length (ap (path_of ns) e ∙ path-root ns) in omega arith in
            ap last_name (t.linked.step (get_or order at 0) (within-at (length ns) order at t.within inside) apart) ∙ last-snoc (path_of ns (node_at ns (get_or order at 0)).parent) (node_at ns (get_or order at 0)).name

        off : (k : ℕ) → at < k → k < next → is_child p (path_of ns (get_or order k 0)) ≡ false
        off k a b = false_from_ne_true (is_child p (path_of ns (get_or order k 0))) (λ g.
            let c : k < length order = let m = s.most in omega arith in
            let parts = and_parts (is_prefix p (path_of ns (get_or order k 0))) (length (path_of ns (get_or order k 0)) == length p + 1) g in
            let l : length (path_of ns (get_or order k 0)) ≡ length p + 1 = eqb-true _ _ parts.1 in
            let e : path_of ns (get_or order at 0) ≡ path_of ns (get_or order k 0) = prefix-whole (path_of ns (get_or order at 0)) (path_of ns (get_or order k 0)) (s.below k a b) (omega arith) in
            let f : is_before (path_of ns (get_or order k 0)) (path_of ns (get_or order k 0)) ≡ true = subst (λ (q : List (List ℕ)). is_before q (path_of ns (get_or order k 0)) ≡ true) e (rising-at ns order at k t.rising a c) in
            let h = not-before-itself (path_of ns (get_or order k 0)) in cc)

        rest : children (drop (at + 1) (rows_of ns order)) p ≡ children (drop next (rows_of ns order)) p
        rest = children-none (rows_of ns order) p (at + 1) next (let a = s.after in omega arith) (let m = s.most in omega (arith, length-rows ns order)) (λ k i j.
            let c : k < length order = let m = s.most in omega arith in
            ap (is_child p) (path-at k c) ∙ off k (omega arith) j)
