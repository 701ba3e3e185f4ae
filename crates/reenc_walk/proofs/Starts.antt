-- The rows of a tree about the place at which a walk goes on.
use Rattle.std.proofs.Common.{◌≡◌, ℕ, ◌+◌, ◌<◌, ◌≤◌, zero, suc, Bool, true, false, not, ◌||◌, List, [], ◌∷◌, ◌++◌, length, get_or, drop, Option, Some, None, refl, sym, ap, ◌∙◌, subst, arith, inl, inr}
use Rattle.std.specs.Prelude.{slice_get}
use Rattle.std.proofs.lemmas.Bool.{cases_eq}
use Rattle.name_calls.specs.Paths.{is_before, is_prefix}
use Rattle.inode_tree.specs.Arena.{rank}
use Rattle.inode_tree.specs.Rows.{AllAfter, Entry, IsRising}
use Rattle.inode_tree.proofs.Blocks.{between}
use Rattle.inode_tree.proofs.MovedPaths.{before-append, prefix-split}
use Rattle.inode_tree.proofs.Ranks.{any_entry, before-trans, rank-above, rank-below, rank-most}
use Rattle.reenc_walk.specs.Files.{is_after}
use Rattle.reenc_walk.specs.Steps.{IsStart, is_past}

pub at-get : (es : List Entry) (k : ℕ) (e : Entry) → slice_get es k ≡ Some e → (k < length es) × (get_or es k any_entry ≡ e)
at-get [] k e g = cc
at-get (x ∷ es) zero e g = let f : x ≡ e = cc in (omega arith, f)
at-get (x ∷ es) (suc k) e g = let w = at-get es k e g in (omega (arith, w.0), w.1)

pub get-some : (es : List Entry) (k : ℕ) → k < length es → (e : Entry) × (slice_get es k ≡ Some e)
get-some [] k h = absurd (omega arith)
get-some (e ∷ es) zero h = (e, refl)
get-some (e ∷ es) (suc k) h = get-some es k (omega arith)

pub same-get : (es : List Entry) (k : ℕ) (x y : Entry) → slice_get es k ≡ Some x → slice_get es k ≡ Some y → x ≡ y
same-get es k x y f g = let h : Some x ≡ Some y = sym f ∙ g in cc

after-get : (p : List (List ℕ)) (es : List Entry) (k : ℕ) (e : Entry) → AllAfter p es → slice_get es k ≡ Some e → is_before p e.path ≡ true
after-get p [] k e a g = cc
after-get p (x ∷ es) zero e a g = let f : x ≡ e = cc in subst (λ (y : Entry). is_before p y.path ≡ true) f a.0
after-get p (x ∷ es) (suc k) e a g = after-get p es k e a.1 g

-- an earlier row comes before a later one
pub rising-get : (es : List Entry) (j k : ℕ) (x y : Entry) → IsRising es → j < k → slice_get es j ≡ Some x → slice_get es k ≡ Some y → is_before x.path y.path ≡ true
rising-get [] j k x y r h f g = cc
rising-get (e ∷ es) j zero x y r h f g = absurd (omega arith)
rising-get (e ∷ es) zero (suc k) x y r h f g = let i : e ≡ x = cc in subst (λ (z : Entry). is_before z.path y.path ≡ true) i (after-get e.path es k y r.0 g)
rising-get (e ∷ es) (suc j) (suc k) x y r h f g = rising-get es j k x y r.1 (omega arith) f g

-- a row from the place of a path on does not come before it
pub not-before-get : (es : List Entry) (p : List (List ℕ)) (k : ℕ) (e : Entry) → IsRising es → rank es p ≤ k → slice_get es k ≡ Some e → is_before e.path p ≡ false
not-before-get es p k e r b g = go (is_before e.path p) refl
  where
    go : (t : Bool) → is_before e.path p ≡ t → t ≡ false
    go true f =
        let w = at-get es k e g in
        let low = rank-above es p k r w.0 (ap (λ (x : Entry). is_before x.path p) w.1 ∙ f) in absurd (omega arith)
    go false f = refl

-- a row before the place of a path comes before it
pub before-get : (es : List Entry) (p : List (List ℕ)) (k : ℕ) (e : Entry) → k < rank es p → slice_get es k ≡ Some e → is_before e.path p ≡ true
before-get es p k e b g = go (is_before e.path p) refl
  where
    go : (t : Bool) → is_before e.path p ≡ t → t ≡ true
    go true f = refl
    go false f =
        let w = at-get es k e g in
        let low = rank-below es p k w.0 (ap (λ (x : Entry). is_before x.path p) w.1 ∙ f) in absurd (omega arith)

-- a row that comes after one that is past the path in the directory is past it too
past-step : (dir : List (List ℕ)) (cursor : Option (List (List ℕ))) (x y : Entry) → is_before x.path dir ≡ false → is_before x.path y.path ≡ true → is_past dir cursor x ≡ true → is_past dir cursor y ≡ true
past-step dir cursor x y n b h = go (is_prefix dir y.path) refl (is_prefix dir x.path) refl h
  where
    rest : is_prefix dir x.path ≡ true → is_prefix dir y.path ≡ true → is_before (drop (length dir) x.path) (drop (length dir) y.path) ≡ true
    rest f g =
        sym (before-append dir (drop (length dir) x.path) (drop (length dir) y.path))
        ∙ ap (λ (p : List (List ℕ)). is_before p (dir ++ drop (length dir) y.path)) (sym (prefix-split dir x.path f))
        ∙ ap (is_before x.path) (sym (prefix-split dir y.path g)) ∙ b

    later : (c : Option (List (List ℕ))) → is_prefix dir x.path ≡ true → is_prefix dir y.path ≡ true → is_after c (drop (length dir) x.path) ≡ true → is_after c (drop (length dir) y.path) ≡ true
    later None f g i = refl
    later (Some c) f g i = before-trans c (drop (length dir) x.path) (drop (length dir) y.path) i (rest f g)

    go : (t : Bool) → is_prefix dir y.path ≡ t → (s : Bool) → is_prefix dir x.path ≡ s → (not s || is_after cursor (drop (length dir) x.path)) ≡ true → (not t || is_after cursor (drop (length dir) y.path)) ≡ true
    go false g s f i = refl
    go true g false f i = let k = between dir x.path y.path n b g in cc
    go true g true f i = later cursor f g i

past-on : (es : List Entry) (dir : List (List ℕ)) (cursor : Option (List (List ℕ))) (j k : ℕ) (x y : Entry) → IsRising es → rank es dir ≤ j → j < k → slice_get es j ≡ Some x → slice_get es k ≡ Some y → is_past dir cursor x ≡ true → is_past dir cursor y ≡ true
past-on es dir cursor j k x y r b h f g i = past-step dir cursor x y (not-before-get es dir j x r b f) (rising-get es j k x y r h f g) i

-- the place is one of those from low up to high
pub record IsSearched (rows : List Entry) (dir : List (List ℕ)) (cursor : Option (List (List ℕ))) (low high : ℕ) : Type 0 where
  pub from : rank rows dir ≤ low
  pub order : low ≤ high
  pub upto : high ≤ length rows
  pub before : (k : ℕ) (e : Entry) → rank rows dir ≤ k → k < low → slice_get rows k ≡ Some e → is_past dir cursor e ≡ false
  pub after : (k : ℕ) (e : Entry) → high ≤ k → slice_get rows k ≡ Some e → is_past dir cursor e ≡ true

pub search-all : (rows : List Entry) (dir : List (List ℕ)) (cursor : Option (List (List ℕ))) (low high : ℕ) → low ≡ rank rows dir → high ≡ length rows → IsSearched rows dir cursor low high
search-all rows dir cursor low high f g =
    let m = rank-most rows dir in
    record {
      from = omega arith;
      order = omega arith;
      upto = omega arith;
      before = λ k e b h i. absurd (omega arith);
      after = λ k e b i. let w = at-get rows k e i in absurd (omega (arith, w.0));
    }

pub search-low : (rows : List Entry) (dir : List (List ℕ)) (cursor : Option (List (List ℕ))) (low high middle : ℕ) (e : Entry) → IsRising rows → IsSearched rows dir cursor low high → low ≤ middle → middle < high → slice_get rows middle ≡ Some e → is_past dir cursor e ≡ true → IsSearched rows dir cursor low middle
search-low rows dir cursor low high middle e r s m n g p =
    let from = s.from in
    let upto = s.upto in
    record {
      from = s.from;
      order = m;
      upto = omega arith;
      before = s.before;
      after = λ k y b i. elim (cases_eq k middle) [ inl same ↦ here k y same i | inr other ↦ past-on rows dir cursor middle k e y r (omega arith) (omega (arith, other)) g i p ];
    }
  where
    here : (k : ℕ) (y : Entry) → k ≡ middle → slice_get rows k ≡ Some y → is_past dir cursor y ≡ true
    here k y same i = subst (λ (z : Entry). is_past dir cursor z ≡ true) (same-get rows middle e y g (ap (slice_get rows) (sym same) ∙ i)) p

pub search-high : (rows : List Entry) (dir : List (List ℕ)) (cursor : Option (List (List ℕ))) (low high middle : ℕ) (e : Entry) → IsRising rows → IsSearched rows dir cursor low high → low ≤ middle → middle < high → slice_get rows middle ≡ Some e → is_past dir cursor e ≡ false → IsSearched rows dir cursor (middle + 1) high
search-high rows dir cursor low high middle e r s m n g p =
    let from = s.from in
    record {
      from = omega arith;
      order = omega arith;
      upto = s.upto;
      before = λ k y b h i. elim (cases_eq k middle) [ inl same ↦ here k y same i | inr other ↦ earlier k y b (omega (arith, other)) i (is_past dir cursor y) refl ];
      after = s.after;
    }
  where
    here : (k : ℕ) (y : Entry) → k ≡ middle → slice_get rows k ≡ Some y → is_past dir cursor y ≡ false
    here k y same i = subst (λ (z : Entry). is_past dir cursor z ≡ false) (same-get rows middle e y g (ap (slice_get rows) (sym same) ∙ i)) p

    earlier : (k : ℕ) (y : Entry) → rank rows dir ≤ k → k < middle → slice_get rows k ≡ Some y → (t : Bool) → is_past dir cursor y ≡ t → t ≡ false
    earlier k y b h i true f = let q = past-on rows dir cursor k middle y e r b h i g f in cc
    earlier k y b h i false f = refl

pub search-ends : (rows : List Entry) (dir : List (List ℕ)) (cursor : Option (List (List ℕ))) (low high : ℕ) → IsSearched rows dir cursor low high → high ≤ low → IsStart rows dir cursor low
search-ends rows dir cursor low high s h =
    let order = s.order in
    let upto = s.upto in
    record {
      from = s.from;
      upto = omega arith;
      before = s.before;
      after = λ k e b i. s.after k e (omega arith) i;
    }

-- without a cursor all rows are past it
pub starts-first : (rows : List Entry) (dir : List (List ℕ)) (at : ℕ) → at ≡ rank rows dir → IsStart rows dir None at
starts-first rows dir at f =
    let m = rank-most rows dir in
    record {
      from = omega arith;
      upto = omega arith;
      before = λ k e b h i. absurd (omega arith);
      after = λ k e b i. all (is_prefix dir e.path);
    }
  where
    all : (t : Bool) → (not t || true) ≡ true
    all true = refl
    all false = refl
