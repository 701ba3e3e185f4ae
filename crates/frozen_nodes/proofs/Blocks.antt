-- The rows at and below a path are next to each other.
use Rattle.std.proofs.Common.{◌≡◌, ℕ, ◌+◌, ◌<◌, ◌≤◌, zero, suc, Bool, true, false, cond, List, [], ◌∷◌, ◌++◌, length, get_or, drop, map, Some, refl, sym, ap, ◌∙◌, subst, arith, length-drop, inl, inr}
use Rattle.std.specs.Prelude.{◌-◌, IsSome, slice_get}
use Rattle.std.specs.List.{filter}
use Rattle.std.specs.Option.{option_map}
use Rattle.std.proofs.lemmas.Bool.{cases_lt}
use Rattle.name_calls.specs.Paths.{is_before, is_prefix, same_path}
use Rattle.inode_tree.specs.Arena.{rank}
use Rattle.inode_tree.specs.Below.{rows_below, seen_from}
use Rattle.inode_tree.specs.Rows.{AllAfter, Entry, IsRising, IsRows, row_at}
use Rattle.inode_tree.proofs.Blocks.{between, prefix-not-before}
use Rattle.inode_tree.proofs.Ranks.{before-trans}
use Rattle.inode_tree.proofs.ZoneLemmas.{prefix-itself}
use Rattle.frozen_nodes.specs.Copies.{AllAtOrBelow, IsBlock, IsCopy, no_entry, path_at}
use Rattle.frozen_nodes.specs.Forest.{FrozenNode, rows_from}
use Rattle.frozen_nodes.proofs.Copying.{at-drop, deeper, drop-end}
use Rattle.frozen_nodes.proofs.Preorder.{after-at, later-not-before, rising-at, same-is}

-- the first rows, as long as they are at or below p
abbrev pub front : List (List ℕ) → List Entry → List Entry
front p [] = []
front p (e ∷ es) = cond (is_prefix p e.path) (e ∷ front p es) []

-- no row after a path that isn't below p, and doesn't come before p, is below p
none-behind : (p q : List (List ℕ)) (es : List Entry) → AllAfter q es → is_before q p ≡ false → is_prefix p q ≡ false → filter (λ e. is_prefix p e.path) es ≡ []
none-behind p q [] a b c = refl
none-behind p q (e ∷ es) a b c = go (is_prefix p e.path) refl (none-behind p q es a.1 b c)
  where
    go : (t : Bool) → is_prefix p e.path ≡ t → filter (λ e. is_prefix p e.path) es ≡ [] → cond t (e ∷ filter (λ e. is_prefix p e.path) es) (filter (λ e. is_prefix p e.path) es) ≡ []
    go true h ih = let i : is_prefix p q ≡ true = between p q e.path b a.0 h in cc
    go false h ih = ih

not-before-after : (p : List (List ℕ)) (e : Entry) (es : List Entry) → AllAfter e.path es → is_before e.path p ≡ false → rank es p ≡ 0
not-before-after p e [] a b = refl
not-before-after p e (x ∷ es) a b = go (is_before x.path p) refl
  where
    go : (t : Bool) → is_before x.path p ≡ t → cond t (suc (rank es p)) 0 ≡ 0
    go true h = let i : is_before e.path p ≡ true = before-trans e.path x.path p a.0 h in cc
    go false h = refl

block : (es : List Entry) (p : List (List ℕ)) → IsRising es → filter (λ e. is_prefix p e.path) es ≡ front p (drop (rank es p) es)
block [] p r = refl
block (e ∷ es) p r = go (is_before e.path p) refl (is_prefix p e.path) refl (block es p r.1)
  where
    go : (t : Bool) → is_before e.path p ≡ t → (u : Bool) → is_prefix p e.path ≡ u → filter (λ e. is_prefix p e.path) es ≡ front p (drop (rank es p) es)
        → cond u (e ∷ filter (λ e. is_prefix p e.path) es) (filter (λ e. is_prefix p e.path) es) ≡ front p (drop (cond t (suc (rank es p)) 0) (e ∷ es))
    go true h true k ih = let i = prefix-not-before p e.path k in cc
    go true h false k ih = ih
    go false h true k ih = ap (λ (xs : List Entry). e ∷ xs) (ih ∙ ap (λ (n : ℕ). front p (drop n es)) (not-before-after p e es r.0 h)) ∙ sym (ap (λ (b : Bool). cond b (e ∷ front p es) []) k)
    go false h false k ih = none-behind p e.path es r.0 h k ∙ sym (ap (λ (b : Bool). cond b (e ∷ front p es) []) k)

not-before-itself : (p : List (List ℕ)) → is_before p p ≡ false
not-before-itself p = prefix-not-before p p (prefix-itself p)

-- the rank of a row's path is its place
rank-at : (rows : List Entry) (k : ℕ) → IsRising rows → k < length rows → rank rows (path_at rows k) ≡ k
rank-at [] k r lt = absurd (omega arith)
rank-at (e ∷ es) zero r lt = ap (λ (b : Bool). cond b (suc (rank es e.path)) 0) (not-before-itself e.path)
rank-at (e ∷ es) (suc k) r lt =
    ap (λ (b : Bool). cond b (suc (rank es (path_at es k))) 0) (after-at e.path es no_entry k r.0 (omega arith)) ∙ ap suc (rank-at es k r.1 (omega arith))

after-found : (q p : List (List ℕ)) (es : List Entry) → AllAfter q es → IsSome (row_at es p) → is_before q p ≡ true
after-found q p [] a s = cc
after-found q p (e ∷ es) a s = go (same_path e.path p) refl s (after-found q p es a.1)
  where
    go : (t : Bool) → same_path e.path p ≡ t → IsSome (cond t (Some e.row) (row_at es p)) → (IsSome (row_at es p) → is_before q p ≡ true) → is_before q p ≡ true
    go true h s further = subst (λ (r : List (List ℕ)). is_before q r ≡ true) (same-is e.path p h) a.0
    go false h s further = further s

-- a path that has a row has it at the place of its rank
pub rank-found : (rows : List Entry) (p : List (List ℕ)) → IsRising rows → IsSome (row_at rows p) → (rank rows p < length rows) × (path_at rows (rank rows p) ≡ p)
rank-found [] p r s = cc
rank-found (e ∷ es) p r s = go (same_path e.path p) refl s (rank-found es p r.1)
  where
    Found : ℕ → Type 0
    Found n = (n < suc (length es)) × (path_at (e ∷ es) n ≡ p)

    go : (t : Bool) → same_path e.path p ≡ t → IsSome (cond t (Some e.row) (row_at es p)) → (IsSome (row_at es p) → (rank es p < length es) × (path_at es (rank es p) ≡ p)) → Found (cond (is_before e.path p) (suc (rank es p)) 0)
    go true h s further =
        let same = same-is e.path p h in
        let first : is_before e.path p ≡ false = subst (λ (q : List (List ℕ)). is_before e.path q ≡ false) same (not-before-itself e.path) in
        subst (λ (b : Bool). Found (cond b (suc (rank es p)) 0)) (sym first) (omega arith, same)
    go false h s further =
        let w = further s in
        subst (λ (b : Bool). Found (cond b (suc (rank es p)) 0)) (sym (after-found e.path p es r.0 s)) (let lt = w.0 in omega arith, w.1)

pub below-is : (rows : List Entry) (p : List (List ℕ)) (at : ℕ) (t : Bool) → option_map (λ (e : Entry). is_prefix p e.path) (slice_get rows at) ≡ Some t → is_prefix p (path_at rows at) ≡ t
below-is [] p zero t h = cc
below-is [] p (suc at) t h = cc
below-is (e ∷ rows) p zero t h = cc
below-is (e ∷ rows) p (suc at) t h = below-is rows p at t h

pub places-start : (rows : List Entry) (p : List (List ℕ)) (at : ℕ) → path_at rows at ≡ p → (j : ℕ) → at ≤ j → j < at + 1 → is_prefix p (path_at rows j) ≡ true
places-start rows p at is j a b =
    let e : at ≡ j = omega arith in
    subst (λ (q : List (List ℕ)). is_prefix p q ≡ true) (sym is ∙ ap (path_at rows) e) (prefix-itself p)

-- the rows between two that are at or below p are, too
pub places-upto : (rows : List Entry) (p : List (List ℕ)) (at middle : ℕ) → IsRising rows → path_at rows at ≡ p → middle < length rows → is_prefix p (path_at rows middle) ≡ true → (j : ℕ) → at ≤ j → j < middle + 1 → is_prefix p (path_at rows j) ≡ true
places-upto rows p at middle r is lt below j a b = elim (cases_lt at j) [
  | inl later ↦ elim (cases_lt j middle) [
    | inl earlier ↦
        let first : is_before (path_at rows j) (path_at rows at) ≡ false = later-not-before (path_at rows at) (path_at rows j) (rising-at rows no_entry at j r later (omega arith)) in
        between p (path_at rows j) (path_at rows middle) (ap (is_before (path_at rows j)) (sym is) ∙ first) (rising-at rows no_entry j middle r earlier lt) below
    | inr last ↦ let e : middle ≡ j = omega arith in subst (λ (k : ℕ). is_prefix p (path_at rows k) ≡ true) e below
  ]
  | inr first ↦ places-start rows p at is j a (omega arith)
]

front-joined : (p : List (List ℕ)) (xs ys : List Entry) → AllAtOrBelow p xs → front p ys ≡ [] → front p (xs ++ ys) ≡ xs
front-joined p [] ys a e = e
front-joined p (x ∷ xs) ys a e = ap (λ (b : Bool). cond b (x ∷ front p (xs ++ ys)) []) a.0 ∙ ap (λ (es : List Entry). x ∷ es) (front-joined p xs ys a.1 e)

-- as many as are below
front-count : (es : List Entry) (p : List (List ℕ)) (k : ℕ) → k ≤ length es → ((j : ℕ) → j < k → is_prefix p (path_at es j) ≡ true) → (k < length es → is_prefix p (path_at es k) ≡ false) → length (front p es) ≡ k
front-count [] p zero le all stop = refl
front-count [] p (suc k) le all stop = absurd (omega arith)
front-count (e ∷ es) p zero le all stop = ap (λ (b : Bool). length (cond b (e ∷ front p es) [])) (stop (omega arith))
front-count (e ∷ es) p (suc k) le all stop =
    ap (λ (b : Bool). length (cond b (e ∷ front p es) [])) (all 0 (omega arith))
    ∙ ap suc (front-count es p k (omega arith) (λ j lt. all (suc j) (omega arith)) (λ lt. stop (omega arith)))

at-dropped : (rows : List Entry) (n j m : ℕ) → m ≡ n + j → path_at (drop n rows) j ≡ path_at rows m
at-dropped rows zero j m e = let same : j ≡ m = omega arith in ap (path_at rows) same
at-dropped [] (suc n) j m e = refl
at-dropped (x ∷ rows) (suc n) j zero e = absurd (omega arith)
at-dropped (x ∷ rows) (suc n) j (suc m) e = at-dropped rows n j m (omega arith)

same-length : (f : Entry → Entry) (es : List Entry) → length (map f es) ≡ length es
same-length f [] = refl
same-length f (e ∷ es) = ap suc (same-length f es)

module _ (rows : List Entry) (rules : IsRows rows) (p : List (List ℕ)) (at end : ℕ) (b : IsBlock rows p at end) where
  rank-is : rank rows p ≡ at
  rank-is = ap (rank rows) (sym b.path) ∙ rank-at rows at rules.rising (let a = b.after in let m = b.most in omega arith)

  below-are : filter (λ e. is_prefix p e.path) rows ≡ front p (drop at rows)
  below-are = block rows p rules.rising ∙ ap (λ (n : ℕ). front p (drop n rows)) rank-is

  -- how many they are
  pub block-count : length (rows_below rows p) + at ≡ end
  block-count =
      let count : length (front p (drop at rows)) ≡ end - at =
      front-count (drop at rows) p (end - at) (omega (arith, length-drop at rows, b.most, b.after))
      (λ j lt. ap (is_prefix p) (at-dropped rows at j (at + j) refl) ∙ b.places (at + j) (omega arith) (omega (arith, lt, b.after)))
      (λ lt.
      let e : at + (end - at) ≡ end = omega (arith, b.after) in
      ap (is_prefix p) (at-dropped rows at (end - at) end (sym e)) ∙ b.stop (omega (arith, lt, length-drop at rows, b.after, b.most))) in
      let same : length (filter (λ e. is_prefix p e.path) rows) ≡ length (front p (drop at rows)) = ap length below-are in
      omega (arith, same-length (seen_from (length p)) (filter (λ e. is_prefix p e.path) rows), same, count, b.after)

  -- a copy of them
  pub copied-block : (old new : List FrozenNode) (node next depth : ℕ) → depth ≡ length p → IsCopy rows at end depth old new node next → rows_from new node ≡ rows_below rows p
  copied-block old new node next depth d c =
      c.rows_are ∙ ap (λ (n : ℕ). map (seen_from n) c.block) d
      ∙ ap (map (seen_from (length p))) (sym (below-are ∙ ap (front p) c.split ∙ front-joined p c.block (drop next rows) (subst (λ (q : List (List ℕ)). AllAtOrBelow q c.block) b.path c.below) rest))
    where
      whole : next ≡ end
      whole = elim (cases_lt next end) [
        | inl short ↦
            let inside : is_prefix (path_at rows at) (path_at rows next) ≡ true = ap (λ (q : List (List ℕ)). is_prefix q (path_at rows next)) b.path ∙ b.places next (let a = c.after in omega arith) short in
            let long = deeper rows rules at next c.after (let m = b.most in omega arith) inside in
            let up : length (path_at rows at) ≡ length p = ap length b.path in
            absurd (omega (arith, long, up, d, c.stop short))
        | inr enough ↦ omega (arith, enough, c.most)
      ]

      none-at-end : front p (drop end rows) ≡ []
      none-at-end = elim (cases_lt end (length rows)) [
        | inl lt ↦ ap (front p) (at-drop rows end lt) ∙ ap (λ (t : Bool). cond t (get_or rows end no_entry ∷ front p (drop (end + 1) rows)) []) (b.stop lt)
        | inr past ↦ ap (front p) (drop-end rows end past)
      ]

      rest : front p (drop next rows) ≡ []
      rest = ap (λ (n : ℕ). front p (drop n rows)) whole ∙ none-at-end
