-- The rows at and below a path, by how many come before and up to the last of them.
use Rattle.std.proofs.Common.{◌≡◌, ℕ, ◌+◌, ◌<◌, ◌≤◌, zero, suc, Bool, true, false, not, cond, ◌&&◌, ◌||◌, List, [], ◌∷◌, ◌++◌, length, get_or, Option, refl, sym, ap, ◌∙◌, subst, arith, Ordering, inl, inr, length-append}
use Rattle.std.specs.declared.cmp.Ordering.TheVariants.{Less, Equal, Greater}
use Rattle.std.specs.Prelude.{nat_le}
use Rattle.std.specs.Ordering.{is_eq, is_lt, nat_cmp, ordering_then}
use Rattle.std.specs.List.{remove}
use Rattle.std.proofs.lemmas.Bool.{cases_eq, cases_lt, or_right, or_left}
use Rattle.std.proofs.lemmas.Bool.Decides.{nat_tests}
use Rattle.inode_tree.specs.declared.rows.Node.{Node}
use Rattle.name_calls.specs.Paths.{is_before, is_prefix}
use Rattle.inode_tree.specs.Rows.{Entry, removed}
use Rattle.inode_tree.specs.Arena.{AllAfter, IsLeaf, IsRising, IsTree, cmp_front, node_at, path_of, rank, rank_past, rows_of}
use Rattle.inode_tree.proofs.Blocks.{between, prefix-not-before}
use Rattle.inode_tree.proofs.Orders.{path-cmp-is}
use Rattle.inode_tree.proofs.Prefixes.{prefix-front}
use Rattle.inode_tree.proofs.Ranks.{after-at, any_entry, before-trans, length-rows, rank-above, rows-at, within-at}
use Rattle.inode_tree.proofs.Ups.{path-root}
use Rattle.inode_tree.proofs.ZoneLemmas.{prefix-itself, prefix-snoc, rising-before}

-- a row comes before the path, is at it or is below it
abbrev pub is_upto : List (List ℕ) → List (List ℕ) → Bool
is_upto p q = is_before q p || is_prefix p q

upto-front : (p q : List (List ℕ)) → is_upto p q ≡ (is_lt (ordering_then (cmp_front q p) (nat_cmp (length q) (length p))) || (is_eq (cmp_front q p) && nat_le (length p) (length q)))
upto-front p q = ap (λ (o : Ordering). is_lt o || is_prefix p q) (path-cmp-is q p) ∙ ap (λ (b : Bool). is_lt (ordering_then (cmp_front q p) (nat_cmp (length q) (length p))) || b) (prefix-front p q)

either-way : (a b : ℕ) → (is_lt (nat_cmp a b) || nat_le b a) ≡ true
either-way a b = grind (arith, nat_tests)

-- that, by comparing as far as both paths go
pub upto-by : (p q : List (List ℕ)) (o : Ordering) → o ≡ cmp_front q p → is_upto p q ≡ (is_lt o || is_eq o)
upto-by p q o e = upto-front p q ∙ ap (λ (r : Ordering). is_lt (ordering_then r (nat_cmp (length q) (length p))) || (is_eq r && nat_le (length p) (length q))) (sym e) ∙ go o
  where
    go : (o : Ordering) → (is_lt (ordering_then o (nat_cmp (length q) (length p))) || (is_eq o && nat_le (length p) (length q))) ≡ (is_lt o || is_eq o)
    go Less = refl
    go Equal = either-way (length q) (length p)
    go Greater = refl

or-cases : (a b : Bool) → (a || b) ≡ true → (a ≡ false → b ≡ true)
or-cases true b h f = cc
or-cases false b h f = h

-- a row before such a row is one, too
pub upto-before : (p q r : List (List ℕ)) → is_before q r ≡ true → is_upto p r ≡ true → is_upto p q ≡ true
upto-before p q r b h = go (is_before q p) refl (is_before r p) refl h
  where
    go : (s : Bool) → is_before q p ≡ s → (t : Bool) → is_before r p ≡ t → (t || is_prefix p r) ≡ true → (is_before q p || is_prefix p q) ≡ true
    go true e t f k = or_left (is_before q p) (is_prefix p q) e
    go false e true f k = let g = before-trans q r p b f in cc
    go false e false f k = or_right (is_before q p) (is_prefix p q) (between p q r e b k)

pub rising-at : (ns : List Node) (os : List ℕ) (i j : ℕ) → IsRising (rows_of ns os) → i < j → j < length os → is_before (path_of ns (get_or os i 0)) (path_of ns (get_or os j 0)) ≡ true
rising-at ns [] i j r h b = absurd (omega arith)
rising-at ns (n ∷ os) i zero r h b = absurd (omega arith)
rising-at ns (n ∷ os) zero (suc j) r h b = rising-before ns n os j r.0 (omega arith)
rising-at ns (n ∷ os) (suc i) (suc j) r h b = rising-at ns os i j r.1 (omega arith) (omega arith)

pub past-at : (es : List Entry) (p : List (List ℕ)) (k : ℕ) → k < rank_past es p → is_upto p (get_or es k any_entry).path ≡ true
past-at [] p k h = absurd (omega arith)
past-at (e ∷ es) p k h = go (is_upto p e.path) refl h k (λ j. past-at es p j)
  where
    go : (t : Bool) → is_upto p e.path ≡ t → k < cond t (suc (rank_past es p)) 0 → (j : ℕ) → ((i : ℕ) → i < rank_past es p → is_upto p (get_or es i any_entry).path ≡ true) → is_upto p (get_or (e ∷ es) k any_entry).path ≡ true
    go false f b j ih = absurd (omega arith)
    go true f b j ih = two k b
      where
        two : (i : ℕ) → i < suc (rank_past es p) → is_upto p (get_or (e ∷ es) i any_entry).path ≡ true
        two zero c = f
        two (suc i) c = ih i (omega arith)

pub past-above : (es : List Entry) (p : List (List ℕ)) (k : ℕ) → IsRising es → k < length es → is_upto p (get_or es k any_entry).path ≡ true → k < rank_past es p
past-above [] p k r h b = absurd (omega arith)
past-above (e ∷ es) p zero r h b = subst (λ (t : Bool). 0 < cond t (suc (rank_past es p)) 0) (sym b) (omega arith)
past-above (e ∷ es) p (suc k) r h b =
    let low : k < rank_past es p = past-above es p k r.1 (omega arith) b in
    subst (λ (t : Bool). suc k < cond t (suc (rank_past es p)) 0) (sym (upto-before p e.path (get_or es k any_entry).path (after-at e.path es k r.0 (omega arith)) b)) (omega arith)

pub past-below : (es : List Entry) (p : List (List ℕ)) (k : ℕ) → k < length es → is_upto p (get_or es k any_entry).path ≡ false → rank_past es p ≤ k
past-below es p k h b = elim (cases_lt k (rank_past es p)) [ inl a ↦ (let e = past-at es p k a in cc) | inr a ↦ a ]

-- the rows before a path are among those
pub rank-past : (es : List Entry) (p : List (List ℕ)) → rank es p ≤ rank_past es p
rank-past [] p = omega arith
rank-past (e ∷ es) p = go (is_before e.path p) (is_prefix p e.path) (rank-past es p)
  where
    go : (t u : Bool) → rank es p ≤ rank_past es p → cond t (suc (rank es p)) 0 ≤ cond (t || u) (suc (rank_past es p)) 0
    go true u h = omega arith
    go false u h = omega arith

pub past-most : (es : List Entry) (p : List (List ℕ)) → rank_past es p ≤ length es
past-most [] p = omega arith
past-most (e ∷ es) p = go (is_upto p e.path) (past-most es p)
  where
    go : (t : Bool) → rank_past es p ≤ length es → cond t (suc (rank_past es p)) 0 ≤ suc (length es)
    go true i = omega arith
    go false i = omega arith

-- one step of a search by halves
pub past-on : (ns : List Node) (order : List ℕ) (p : List (List ℕ)) (k n : ℕ) → IsRising (rows_of ns order) → k < length order → n ≡ get_or order k 0 → is_upto p (path_of ns n) ≡ true → k + 1 ≤ rank_past (rows_of ns order) p
past-on ns order p k n r h en e =
    let low : k < rank_past (rows_of ns order) p = past-above (rows_of ns order) p k r (omega (arith, length-rows ns order)) (ap (λ (x : Entry). is_upto p x.path) (rows-at ns order k h) ∙ ap (λ (m : ℕ). is_upto p (path_of ns m)) (sym en) ∙ e) in omega arith

pub past-stops : (ns : List Node) (order : List ℕ) (p : List (List ℕ)) (k n : ℕ) → k < length order → n ≡ get_or order k 0 → is_upto p (path_of ns n) ≡ false → rank_past (rows_of ns order) p ≤ k
past-stops ns order p k n h en e = past-below (rows_of ns order) p k (omega (arith, length-rows ns order)) (ap (λ (x : Entry). is_upto p x.path) (rows-at ns order k h) ∙ ap (λ (m : ℕ). is_upto p (path_of ns m)) (sym en) ∙ e)

-- a row from the first at or below the path up to the last
pub block-at : (es : List Entry) (p : List (List ℕ)) (k : ℕ) → IsRising es → rank es p ≤ k → k < rank_past es p → is_prefix p (get_or es k any_entry).path ≡ true
block-at es p k r low high = or-cases (is_before (get_or es k any_entry).path p) (is_prefix p (get_or es k any_entry).path) (past-at es p k high) (go (is_before (get_or es k any_entry).path p) refl)
  where
    go : (t : Bool) → is_before (get_or es k any_entry).path p ≡ t → t ≡ false
    go true e = let most = past-most es p in let a = rank-above es p k r (omega arith) e in absurd (omega arith)
    go false e = refl

rank-none : (e : Entry) (es : List Entry) (p : List (List ℕ)) → AllAfter e.path es → is_before e.path p ≡ false → rank es p ≡ 0
rank-none e [] p a h = refl
rank-none e (x ∷ es) p a h = go (is_before x.path p) refl
  where
    go : (t : Bool) → is_before x.path p ≡ t → cond t (suc (rank es p)) 0 ≡ 0
    go true f = let g = before-trans e.path x.path p a.0 f in cc
    go false f = refl

pub rank-remove : (es : List Entry) (p : List (List ℕ)) (k : ℕ) → IsRising es → rank es p ≤ k → rank (remove es k) p ≡ rank es p
rank-remove [] p zero r h = refl
rank-remove [] p (suc k) r h = refl
rank-remove (e ∷ es) p zero r h = go (is_before e.path p) refl h
  where
    go : (t : Bool) → is_before e.path p ≡ t → cond t (suc (rank es p)) 0 ≤ 0 → rank es p ≡ cond t (suc (rank es p)) 0
    go true f b = absurd (omega arith)
    go false f b = rank-none e es p r.0 f
rank-remove (e ∷ es) p (suc k) r h = go (is_before e.path p) h (rank-remove es p k r.1)
  where
    go : (t : Bool) → cond t (suc (rank es p)) 0 ≤ suc k → (rank es p ≤ k → rank (remove es k) p ≡ rank es p) → cond t (suc (rank (remove es k) p)) 0 ≡ cond t (suc (rank es p)) 0
    go true b ih = ap suc (ih (omega arith))
    go false b ih = refl

pub past-remove : (es : List Entry) (p : List (List ℕ)) (k : ℕ) → rank_past es p ≡ k + 1 → rank_past (remove es k) p ≡ k
past-remove [] p k h = absurd (omega arith)
past-remove (e ∷ es) p zero h = go (is_upto p e.path) h
  where
    go : (t : Bool) → cond t (suc (rank_past es p)) 0 ≡ 0 + 1 → rank_past es p ≡ 0
    go true b = omega arith
    go false b = absurd (omega arith)
past-remove (e ∷ es) p (suc k) h = go (is_upto p e.path) h (past-remove es p k)
  where
    go : (t : Bool) → cond t (suc (rank_past es p)) 0 ≡ suc k + 1 → (rank_past es p ≡ k + 1 → rank_past (remove es k) p ≡ k) → cond t (suc (rank_past (remove es k) p)) 0 ≡ suc k
    go true b ih = ap suc (ih (omega arith))
    go false b ih = absurd (omega arith)

pub removed-remove : (es : List Entry) (p : List (List ℕ)) (k : ℕ) → k < length es → is_prefix p (get_or es k any_entry).path ≡ true → removed p (remove es k) ≡ removed p es
removed-remove [] p k h e = absurd (omega arith)
removed-remove (x ∷ es) p zero h e = sym (ap (λ (b : Bool). cond (not b) (x ∷ removed p es) (removed p es)) e)
removed-remove (x ∷ es) p (suc k) h e = ap (λ (ys : List Entry). cond (not (is_prefix p x.path)) (x ∷ ys) ys) (removed-remove es p k (omega arith) e)

none-removed : (e : Entry) (es : List Entry) (p : List (List ℕ)) → AllAfter e.path es → is_upto p e.path ≡ false → removed p es ≡ es
none-removed e [] p a h = refl
none-removed e (x ∷ es) p a h = go (is_prefix p x.path) refl (none-removed e es p a.1 h)
  where
    go : (t : Bool) → is_prefix p x.path ≡ t → removed p es ≡ es → cond (not t) (x ∷ removed p es) (removed p es) ≡ x ∷ es
    go true f ih = let g = upto-before p e.path x.path a.0 (or_right (is_before x.path p) (is_prefix p x.path) f) in cc
    go false f ih = ap (λ (ys : List Entry). x ∷ ys) ih

-- if no row is at or below the path, none is removed
pub removed-none : (es : List Entry) (p : List (List ℕ)) → IsRising es → rank_past es p ≤ rank es p → removed p es ≡ es
removed-none [] p r h = refl
removed-none (e ∷ es) p r h = go (is_before e.path p) refl (is_prefix p e.path) refl h (removed-none es p r.1)
  where
    go : (s : Bool) → is_before e.path p ≡ s → (t : Bool) → is_prefix p e.path ≡ t → cond (s || t) (suc (rank_past es p)) 0 ≤ cond s (suc (rank es p)) 0 → (rank_past es p ≤ rank es p → removed p es ≡ es) → cond (not t) (e ∷ removed p es) (removed p es) ≡ e ∷ es
    go true f true g b ih = let k = prefix-not-before p e.path g in cc
    go true f false g b ih = ap (λ (ys : List Entry). e ∷ ys) (ih (omega arith))
    go false f true g b ih = absurd (omega arith)
    go false f false g b ih = ap (λ (ys : List Entry). e ∷ ys) (none-removed e es p r.0 (ap (λ (u : Bool). u || is_prefix p e.path) f ∙ g))

-- the last row at or below a path that is not the root has no children
pub last-leaf : (ns : List Node) (order : List ℕ) (ids : ℕ → Option ℕ) (p : List (List ℕ)) (at : ℕ) → IsTree ns order ids → 0 < length p → rank (rows_of ns order) p ≤ at → rank_past (rows_of ns order) p ≡ at + 1 → IsLeaf ns order at
last-leaf ns order ids p at t deep low high = record {
  inside = inside;
  deep = root-apart;
  none = λ k b e. elim (cases_eq (get_or order k 0) 0) [
    | inl z ↦ root-apart (sym e ∙ ap (λ (m : ℕ). (node_at ns m).parent) z ∙ t.root_in)
    | inr z ↦ (
        let step : path_of ns (get_or order k 0) ≡ path_of ns (get_or order at 0) ++ (node_at ns (get_or order k 0)).name ∷ [] = t.linked.step (get_or order k 0) (within-at (length ns) order k t.within b) z ∙ ap (λ (m : ℕ). path_of ns m ++ (node_at ns (get_or order k 0)).name ∷ []) e in
        child k b (node_at ns (get_or order k 0)).name step)
  ];
}
  where
    inside : at < length order
    inside = let m = past-most (rows_of ns order) p in omega (arith, length-rows ns order)

    here : is_prefix p (path_of ns (get_or order at 0)) ≡ true
    here = ap (λ (x : Entry). is_prefix p x.path) (sym (rows-at ns order at inside)) ∙ block-at (rows_of ns order) p at t.rising low (omega arith)

    root-apart : get_or order at 0 ≡ 0 → ⊥
    root-apart e = no p deep (sym (ap (λ (m : ℕ). is_prefix p (path_of ns m)) e ∙ ap (is_prefix p) (path-root ns)) ∙ here)
      where
        no : (q : List (List ℕ)) → 0 < length q → is_prefix q [] ≡ true → ⊥
        no [] h f = omega arith
        no (x ∷ q) h f = cc

    path-at : (k : ℕ) → k < length order → (get_or (rows_of ns order) k any_entry).path ≡ path_of ns (get_or order k 0)
    path-at k b = ap (λ (x : Entry). x.path) (rows-at ns order k b)

    child : (k : ℕ) → k < length order → (x : List ℕ) → path_of ns (get_or order k 0) ≡ path_of ns (get_or order at 0) ++ x ∷ [] → ⊥
    child k b x step =
        let lies : is_prefix p (path_of ns (get_or order k 0)) ≡ true = ap (is_prefix p) step ∙ prefix-snoc p (path_of ns (get_or order at 0)) x ∙ or_left _ _ here in
        let low : k < at + 1 = subst (λ (j : ℕ). k < j) high (past-above (rows_of ns order) p k t.rising (omega (arith, length-rows ns order)) (ap (is_upto p) (path-at k b) ∙ or_right (is_before (path_of ns (get_or order k 0)) p) (is_prefix p (path_of ns (get_or order k 0))) lies)) in
        elim (cases_lt k at) [
          | inl a ↦ (
              let bef : is_before (path_of ns (get_or order k 0)) (path_of ns (get_or order at 0)) ≡ true = rising-at ns order k at t.rising a inside in
              let not : is_before (path_of ns (get_or order k 0)) (path_of ns (get_or order at 0)) ≡ false = prefix-not-before (path_of ns (get_or order at 0)) (path_of ns (get_or order k 0))
              (ap (is_prefix (path_of ns (get_or order at 0))) step ∙ prefix-snoc (path_of ns (get_or order at 0)) (path_of ns (get_or order at 0)) x ∙ or_left _ _ (prefix-itself (path_of ns (get_or order at 0)))) in cc)
          | inr a ↦ (
              let same : k ≡ at = omega arith in
              let l = ap length (sym (ap (λ (j : ℕ). path_of ns (get_or order j 0)) same) ∙ step) in
              absurd (omega (arith, length-append (path_of ns (get_or order at 0)) (x ∷ []))))
        ]
