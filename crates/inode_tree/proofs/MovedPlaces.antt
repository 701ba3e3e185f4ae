-- The rows after a move, by the places of both paths.
use Rattle.std.proofs.Common.{◌≡◌, ℕ, ◌-◌, ◌<◌, ◌≤◌, zero, suc, Bool, true, false, cond, ◌&&◌, ◌||◌, List, [], ◌∷◌, ◌++◌, length, length-take, drop, take, refl, sym, ap, ◌∙◌, subst, arith, Option, Some, None, map, inl, inr, get_or}
use Rattle.std.proofs.lemmas.List.{map-append}
use Rattle.std.proofs.lemmas.List.Elements.{recursion_from_All}
use Rattle.std.proofs.lemmas.Bool.{cases_lt, and_parts}
use Rattle.std.specs.Prelude.{is_some}
use Rattle.std.specs.Str.{bytes_eq}
use Rattle.inode_tree.specs.declared.rows.Row.{Row}
use Rattle.std.specs.List.{All, AllByRecursion, between}
use Rattle.name_calls.specs.Paths.{is_before, is_prefix, parent, same_path}
use Rattle.inode_tree.specs.Rows.{AllAfter, Entry, IsRising, is_dir_at, row_at}
use Rattle.inode_tree.specs.Arena.{rank, rank_past}
use Rattle.inode_tree.specs.Listed.{turned}
use Rattle.inode_tree.specs.Moves.{in_order, moved, renamed}
use Rattle.inode_tree.proofs.Asked.{parent-take}
use Rattle.inode_tree.proofs.Blocks.{between as between-paths, prefix-not-before}
use Rattle.inode_tree.proofs.Each.{both, each-append, each-between, each-drop, each-earlier, each-from, each-later, each-take}
use Rattle.inode_tree.proofs.MovedRows.{IsBack, IsBelow, IsFront, IsOff, order-swapped, run-back, run-on}
use Rattle.inode_tree.proofs.Pasts.{is_upto, upto-before, past-most, block-at}
use Rattle.inode_tree.proofs.Ranks.{any_entry, before-trans, rank-above, rank-below}
use Rattle.inode_tree.proofs.Runs.{in-four}
use Rattle.inode_tree.proofs.Seeks.{other-before, same-is, same-itself}
use Rattle.inode_tree.proofs.ZoneLemmas.{prefix-whole}

front-take : (es : List Entry) (q : List (List ℕ)) → AllByRecursion (IsFront q) (take (rank es q) es)
front-take [] q = tt
front-take (e ∷ es) q = go (is_before e.path q) refl (front-take es q)
  where
    go : (t : Bool) → is_before e.path q ≡ t → AllByRecursion (IsFront q) (take (rank es q) es) → AllByRecursion (IsFront q) (take (cond t (suc (rank es q)) 0) (e ∷ es))
    go true h ih = (h, ih)
    go false h ih = tt

abbrev IsLate : List (List ℕ) → Entry → Type 0
IsLate q e = is_before e.path q ≡ false

late-after : (r q : List (List ℕ)) (es : List Entry) → is_before r q ≡ false → AllAfter r es → AllByRecursion (IsLate q) es
late-after r q [] h a = tt
late-after r q (e ∷ es) h a = (go (is_before e.path q) refl, late-after r q es h a.1)
  where
    go : (t : Bool) → is_before e.path q ≡ t → t ≡ false
    go true b = let f = before-trans r e.path q a.0 b in cc
    go false b = refl

late-drop : (es : List Entry) (q : List (List ℕ)) → IsRising es → AllByRecursion (IsLate q) (drop (rank es q) es)
late-drop [] q r = tt
late-drop (e ∷ es) q r = go (is_before e.path q) refl (late-drop es q r.1)
  where
    go : (t : Bool) → is_before e.path q ≡ t → AllByRecursion (IsLate q) (drop (rank es q) es) → AllByRecursion (IsLate q) (drop (cond t (suc (rank es q)) 0) (e ∷ es))
    go true h ih = ih
    go false h ih = (h, late-after e.path q es h r.0)

-- a path before p is not below it
before-off : (p : List (List ℕ)) (e : Entry) → IsFront p e → IsOff p e
before-off p e h = go (is_prefix p e.path) refl
  where
    go : (t : Bool) → is_prefix p e.path ≡ t → t ≡ false
    go true k = let f = prefix-not-before p e.path k in cc
    go false k = refl

upto-take : (es : List Entry) (p : List (List ℕ)) → AllByRecursion (λ e. is_upto p e.path ≡ true) (take (rank_past es p) es)
upto-take [] p = tt
upto-take (e ∷ es) p = go (is_upto p e.path) refl (upto-take es p)
  where
    go : (t : Bool) → is_upto p e.path ≡ t → AllByRecursion (λ e. is_upto p e.path ≡ true) (take (rank_past es p) es) → AllByRecursion (λ e. is_upto p e.path ≡ true) (take (cond t (suc (rank_past es p)) 0) (e ∷ es))
    go true h ih = (h, ih)
    go false h ih = tt

pub off-drop : (es : List Entry) (p : List (List ℕ)) → IsRising es → AllByRecursion (IsOff p) (drop (rank_past es p) es)
off-drop [] p r = tt
off-drop (e ∷ es) p r = go (is_upto p e.path) refl (off-drop es p r.1)
  where
    rest : (xs : List Entry) → is_upto p e.path ≡ false → AllAfter e.path xs → AllByRecursion (IsOff p) xs
    rest [] h a = tt
    rest (x ∷ xs) h a = (by (is_prefix p x.path) refl, rest xs h a.1)
      where
        or-right : (b t : Bool) → t ≡ true → (b || t) ≡ true
        or-right true t k = refl
        or-right false t k = k

        by : (t : Bool) → is_prefix p x.path ≡ t → t ≡ false
        by true k = let f = upto-before p e.path x.path a.0 (or-right (is_before x.path p) (is_prefix p x.path) k) in cc
        by false k = refl

    go : (t : Bool) → is_upto p e.path ≡ t → AllByRecursion (IsOff p) (drop (rank_past es p) es) → AllByRecursion (IsOff p) (drop (cond t (suc (rank_past es p)) 0) (e ∷ es))
    go true h ih = ih
    go false h ih = (off (is_before e.path p) (is_prefix p e.path) h, rest es h r.0)
      where
        off : (b t : Bool) → (b || t) ≡ false → t ≡ false
        off true t k = cc
        off false t k = k

pub rank-upto : (es : List Entry) (p : List (List ℕ)) → rank es p ≤ rank_past es p
rank-upto [] p = omega arith
rank-upto (e ∷ es) p = go (is_before e.path p) (is_prefix p e.path) (rank-upto es p)
  where
    go : (s t : Bool) → rank es p ≤ rank_past es p → cond s (suc (rank es p)) 0 ≤ cond (s || t) (suc (rank_past es p)) 0
    go true t ih = omega arith
    go false true ih = omega arith
    go false false ih = omega arith

pub below-between : (es : List Entry) (p : List (List ℕ)) → IsRising es → AllByRecursion (IsBelow p) (between (rank es p) (rank_past es p) es)
below-between es p r =
    let up = each-between (λ e. is_upto p e.path ≡ true) (rank es p) (rank_past es p) es (upto-take es p) in
    let late = each-take (IsLate p) (rank_past es p - rank es p) (drop (rank es p) es) (late-drop es p r) in
    each-from (λ e. (is_upto p e.path ≡ true) × (is_before e.path p ≡ false)) (IsBelow p) (λ e h. yes (is_before e.path p) (is_prefix p e.path) h.0 h.1) (between (rank es p) (rank_past es p) es) (both (λ e. is_upto p e.path ≡ true) (IsLate p) _ up late)
  where
    yes : (b t : Bool) → (b || t) ≡ true → b ≡ false → t ≡ true
    yes true t h k = cc
    yes false t h k = h

-- the rows before those at and below p
pub front-off : (es : List Entry) (p : List (List ℕ)) → AllByRecursion (IsOff p) (take (rank es p) es)
front-off es p = each-from (IsFront p) (IsOff p) (before-off p) (take (rank es p) es) (front-take es p)

-- the rows at and below p are a run, those before it and those after it are elsewhere
module _ (rows : List Entry) (p q : List (List ℕ)) (rising : IsRising rows) (free : AllByRecursion (IsOff q) rows) where
  back : AllByRecursion (IsBack q) (drop (rank rows q) rows)
  back = both (IsLate q) (IsOff q) (drop (rank rows q) rows) (late-drop rows q rising) (each-drop (IsOff q) (rank rows q) rows free)

  -- the rows after a move to an earlier place are in order
  pub moved-left : rank rows q ≤ rank rows p → IsRising (map (moved p q) (turned (rank rows q) (rank rows p) (rank_past rows p) rows))
  moved-left h =
      let u = rank-upto rows p in
      run-back p q (take (rank rows q) rows) (between (rank rows q) (rank rows p) rows) (between (rank rows p) (rank_past rows p) rows) (drop (rank_past rows p) rows)
      (subst IsRising (sym (in-four rows (rank rows q) (rank rows p) (rank_past rows p) h u)) rising)
      (front-take rows q)
      (below-between rows p rising)
      (each-append (IsBack q) (between (rank rows q) (rank rows p) rows) (drop (rank_past rows p) rows) (each-take (IsBack q) (rank rows p - rank rows q) (drop (rank rows q) rows) back) (each-later (IsBack q) (rank rows q) (rank_past rows p) rows (omega arith) back))
      (each-earlier (IsOff p) (rank rows q) (rank rows p) rows h (front-off rows p))
      (each-append (IsOff p) (between (rank rows q) (rank rows p) rows) (drop (rank_past rows p) rows) (each-between (IsOff p) (rank rows q) (rank rows p) rows (front-off rows p)) (off-drop rows p rising))

  -- and so are those after a move to a later place
  pub moved-right : rank_past rows p ≤ rank rows q → IsRising (map (moved p q) (turned (rank rows p) (rank_past rows p) (rank rows q) rows))
  moved-right h =
      let u = rank-upto rows p in
      run-on p q (take (rank rows p) rows) (between (rank rows p) (rank_past rows p) rows) (between (rank_past rows p) (rank rows q) rows) (drop (rank rows q) rows)
      (subst IsRising (sym (in-four rows (rank rows p) (rank_past rows p) (rank rows q) u h)) rising)
      (each-append (IsFront q) (take (rank rows p) rows) (between (rank_past rows p) (rank rows q) rows) (each-earlier (IsFront q) (rank rows p) (rank rows q) rows (omega arith) (front-take rows q)) (each-between (IsFront q) (rank_past rows p) (rank rows q) rows (front-take rows q)))
      (below-between rows p rising)
      back
      (front-off rows p)
      (each-take (IsOff p) (rank rows q - rank_past rows p) (drop (rank_past rows p) rows) (off-drop rows p rising))
      (each-later (IsOff p) (rank_past rows p) (rank rows q) rows h (off-drop rows p rising))

  -- runs that change places are the rows after the move
  pub turned-renamed : (a b c : ℕ) → a ≤ b → b ≤ c → IsRising (map (moved p q) (turned a b c rows)) → renamed p q rows ≡ map (moved p q) (turned a b c rows)
  turned-renamed a b c h k r =
      ap (λ (es : List Entry). in_order (map (moved p q) es)) (sym (in-four rows a b c h k))
      ∙ ap in_order (four (take a rows) (between a b rows) (between b c rows) (drop c rows))
      ∙ order-swapped (map (moved p q) (take a rows)) (map (moved p q) (between a b rows)) (map (moved p q) (between b c rows)) (map (moved p q) (drop c rows)) (subst IsRising (four (take a rows) (between b c rows) (between a b rows) (drop c rows)) r)
      ∙ sym (four (take a rows) (between b c rows) (between a b rows) (drop c rows))
    where
      four : (ws xs ys zs : List Entry) → map (moved p q) (ws ++ (xs ++ (ys ++ zs))) ≡ map (moved p q) ws ++ (map (moved p q) xs ++ (map (moved p q) ys ++ map (moved p q) zs))
      four ws xs ys zs =
          map-append (moved p q) ws (xs ++ (ys ++ zs))
          ∙ ap (λ (es : List Entry). map (moved p q) ws ++ es) (map-append (moved p q) xs (ys ++ zs) ∙ ap (λ (es : List Entry). map (moved p q) xs ++ es) (map-append (moved p q) ys zs))

  -- a place after that of p is after all that is below p
  pub places-apart : is_prefix p q ≡ false → rank rows p < rank rows q → rank_past rows p ≤ rank rows q
  places-apart off less = elim (cases_lt (rank rows q) (rank_past rows p)) [
    | inl a ↦ absurd (no (get_or rows (rank rows q) any_entry).path (get_or rows (rank rows p) any_entry).path
        (block-at rows p (rank rows q) rising (omega arith) a) (block-at rows p (rank rows p) rising (omega arith) (omega arith)) (late a (is_before (get_or rows (rank rows q) any_entry).path q) refl) (first a (is_before (get_or rows (rank rows p) any_entry).path q) refl))
    | inr a ↦ a
  ]
    where
      late : rank rows q < rank_past rows p → (t : Bool) → is_before (get_or rows (rank rows q) any_entry).path q ≡ t → t ≡ false
      late a true e = let most = past-most rows p in let f = rank-above rows q (rank rows q) rising (omega arith) e in absurd (omega arith)
      late a false e = refl

      first : rank rows q < rank_past rows p → (t : Bool) → is_before (get_or rows (rank rows p) any_entry).path q ≡ t → t ≡ true
      first a true e = refl
      first a false e = let most = past-most rows p in let f = rank-below rows q (rank rows p) (omega arith) e in absurd (omega arith)

      -- q is between two paths below p
      no : (x y : List (List ℕ)) → is_prefix p x ≡ true → is_prefix p y ≡ true → is_before x q ≡ false → is_before y q ≡ true → ⊥
      no x y h k l f = by (same_path x q) refl (third (is_before q p) refl)
        where
          third : (t : Bool) → is_before q p ≡ t → t ≡ false
          third true e = let g = before-trans y q p f e in let i = prefix-not-before p y k in cc
          third false e = refl

          by : (t : Bool) → same_path x q ≡ t → is_before q p ≡ false → ⊥
          by true e g = let i : is_prefix p q ≡ true = subst (λ (r : List (List ℕ)). is_prefix p r ≡ true) (same-is x q e) h in cc
          by false e g = let i : is_prefix p q ≡ true = between-paths p q x g (other-before x q e l) h in cc

-- no row is below a path where there is none
module _ (rows : List Entry) (housed : All (λ e. is_dir_at (row_at rows (parent e.path)) ≡ true) rows) (q : List (List ℕ)) (absent : row_at rows q ≡ None) where
  place-of : (r : List (List ℕ)) (es : List Entry) → is_some (row_at es r) ≡ true → (k : ℕ) × (k < length es) × ((get_or es k any_entry).path ≡ r)
  place-of r [] h = cc
  place-of r (e ∷ es) h = go (same_path e.path r) refl h (place-of r es)
    where
      go : (t : Bool) → same_path e.path r ≡ t → is_some (cond t (Some e.row) (row_at es r)) ≡ true → (is_some (row_at es r) ≡ true → (k : ℕ) × (k < length es) × ((get_or es k any_entry).path ≡ r)) → (k : ℕ) × (k < suc (length es)) × ((get_or (e ∷ es) k any_entry).path ≡ r)
      go true s k ih = (0, omega arith, same-is e.path r s)
      go false s k ih = let w = ih k in (suc w.0, omega (arith, w.1), w.2)

  pub housed-at : (r : List (List ℕ)) → is_some (row_at rows r) ≡ true → is_dir_at (row_at rows (parent r)) ≡ true
  housed-at r h = let w = place-of r rows h in subst (λ (s : List (List ℕ)). is_dir_at (row_at rows (parent s)) ≡ true) w.2 (housed w.0 any_entry w.1)

  length-parent : (r : List (List ℕ)) (n : ℕ) → length r ≤ suc n → length (parent r) ≤ n
  length-parent r n h = let e = ap length (parent-take r) in omega (arith, length-take (length r - 1) r)

  -- a path below another has its parent there, or is the other
  below-parent : (r : List (List ℕ)) (s : List (List ℕ)) → is_prefix s r ≡ true → length s < length r → is_prefix s (parent r) ≡ true
  below-parent r [] h l = refl
  below-parent [] (a ∷ s) h l = cc
  below-parent (b ∷ []) (a ∷ s) h l = absurd (omega arith)
  below-parent (b ∷ d ∷ r) (a ∷ s) h l =
      let parts = and_parts (bytes_eq a b) (is_prefix s (d ∷ r)) h in
      ap (λ (t : Bool). t && is_prefix s (parent (d ∷ r))) parts.0 ∙ below-parent (d ∷ r) s parts.1 (omega arith)

  dir-some : (o : Option Row) → is_dir_at o ≡ true → is_some o ≡ true
  dir-some None h = cc
  dir-some (Some row) h = refl

  none-at : (r : List (List ℕ)) → is_prefix q r ≡ true → length r ≤ length q → is_some (row_at rows r) ≡ true → ⊥
  none-at r h l s =
      let e : q ≡ r = prefix-whole q r h l in
      let f : is_some (row_at rows q) ≡ true = subst (λ (t : List (List ℕ)). is_some (row_at rows t) ≡ true) (sym e) s in
      let g = ap is_some absent in cc

  none-below : (n : ℕ) (r : List (List ℕ)) → length r ≤ n → is_prefix q r ≡ true → is_some (row_at rows r) ≡ true → ⊥
  none-below zero r l h s = none-at r h (omega arith) s
  none-below (suc n) r l h s = elim (cases_lt (length q) (length r)) [
    | inl a ↦ none-below n (parent r) (length-parent r n l) (below-parent r q h a) (dir-some (row_at rows (parent r)) (housed-at r s))
    | inr a ↦ none-at r h a s
  ]

  own-row : (es : List Entry) (k : ℕ) (d : Entry) → k < length es → is_some (row_at es (get_or es k d).path) ≡ true
  own-row [] k d h = absurd (omega arith)
  own-row (e ∷ es) zero d h = ap (λ (t : Bool). is_some (cond t (Some e.row) (row_at es e.path))) (same-itself e.path)
  own-row (e ∷ es) (suc k) d h = go (same_path e.path (get_or es k d).path) (own-row es k d (omega arith))
    where
      go : (t : Bool) → is_some (row_at es (get_or es k d).path) ≡ true → is_some (cond t (Some e.row) (row_at es (get_or es k d).path)) ≡ true
      go true h = refl
      go false h = h

  pub all-free : AllByRecursion (IsOff q) rows
  all-free = recursion_from_All (IsOff q) rows (λ k d b. go (get_or rows k d).path (own-row rows k d b) (is_prefix q (get_or rows k d).path) refl)
    where
      go : (r : List (List ℕ)) → is_some (row_at rows r) ≡ true → (t : Bool) → is_prefix q r ≡ t → t ≡ false
      go r s true h = absurd (none-below (length r) r (omega arith) h s)
      go r s false h = refl
