-- Rows in path order, each with its directory: the row after the rows below another is below it if and only if it is deeper, and then it is its child.
use Rattle.std.proofs.Common.{◌≡◌, ℕ, ◌+◌, ◌<◌, ◌≤◌, zero, suc, Bool, true, false, cond, ◌&&◌, List, [], ◌∷◌, length, get_or, take, Some, refl, sym, ◌∙◌, ap, subst, arith, inl, inr, Ordering}
use Rattle.std.specs.Prelude.{◌-◌}
use Rattle.std.specs.Cmp.{IsTotalOrder}
use Rattle.std.specs.declared.cmp.Ordering.TheVariants.{Less, Equal, Greater}
use Rattle.std.specs.List.{All}
use Rattle.std.specs.Ordering.{is_lt, ordering_reverse}
use Rattle.std.proofs.lemmas.Cmp.{lists_total, nat_list_cmp_total}
use Rattle.std.specs.Str.{bytes_eq}
use Rattle.std.proofs.lemmas.Bool.{cases_lt, and_parts}
use Rattle.std.proofs.lemmas.Slice.Eq.{bytes_eq-Decides}
use Rattle.name_calls.specs.Paths.{is_before, is_prefix, parent, path_cmp, same_path}
use Rattle.inode_tree.specs.Rows.{AllAfter, Entry, IsRising, is_dir_at, row_at}
use Rattle.inode_tree.proofs.Blocks.{between, prefix-not-before}

abbrev pub path_at : List Entry → Entry → ℕ → List (List ℕ)
path_at rows d k = (get_or rows k d).path

pub after-at : (p : List (List ℕ)) (es : List Entry) (d : Entry) (k : ℕ) → AllAfter p es → k < length es → is_before p (path_at es d k) ≡ true
after-at p [] d k a lt = absurd (omega arith)
after-at p (e ∷ es) d zero a lt = a.0
after-at p (e ∷ es) d (suc k) a lt = after-at p es d k a.1 (omega arith)

-- earlier rows have earlier paths
pub rising-at : (rows : List Entry) (d : Entry) (j k : ℕ) → IsRising rows → j < k → k < length rows → is_before (path_at rows d j) (path_at rows d k) ≡ true
rising-at [] d j k r lt h = absurd (omega arith)
rising-at (e ∷ es) d zero zero r lt h = absurd (omega arith)
rising-at (e ∷ es) d zero (suc k) r lt h = after-at e.path es d k r.0 (omega arith)
rising-at (e ∷ es) d (suc j) zero r lt h = absurd (omega arith)
rising-at (e ∷ es) d (suc j) (suc k) r lt h = rising-at es d j k r.1 (omega arith) (omega arith)

pub same-is : (p q : List (List ℕ)) → same_path p q ≡ true → p ≡ q
same-is [] [] h = refl
same-is [] (y ∷ q) h = cc
same-is (x ∷ p) [] h = cc
same-is (x ∷ p) (y ∷ q) h = let w = and_parts (bytes_eq x y) (same_path p q) h in λ i. (bytes_eq-Decides x y).0 w.0 i ∷ same-is p q w.1 i

-- what is found at a path is one of the rows
pub row-there : (rows : List Entry) (d : Entry) (p : List (List ℕ)) → is_dir_at (row_at rows p) ≡ true → (j : ℕ) × (j < length rows) × (path_at rows d j ≡ p)
row-there [] d p h = cc
row-there (e ∷ es) d p h = go (same_path e.path p) refl h (row-there es d p)
  where
    go : (t : Bool) → same_path e.path p ≡ t → is_dir_at (cond t (Some e.row) (row_at es p)) ≡ true → (is_dir_at (row_at es p) ≡ true → (j : ℕ) × (j < length es) × (path_at es d j ≡ p))
        → (j : ℕ) × (j < length (e ∷ es)) × (path_at (e ∷ es) d j ≡ p)
    go true s i further = (0, omega arith, same-is e.path p s)
    go false s i further = let w = further i in (suc w.0, let b = w.1 in omega arith, w.2)

bytes_same : (x : List ℕ) → bytes_eq x x ≡ true
bytes_same x = (bytes_eq-Decides x x).1 refl

parent-length : (y : List ℕ) (p : List (List ℕ)) → length (parent (y ∷ p)) ≡ length p
parent-length y [] = refl
parent-length y (z ∷ p) = ap suc (parent-length z p)

pub parent-above : (p : List (List ℕ)) → is_prefix (parent p) p ≡ true
parent-above [] = refl
parent-above (y ∷ []) = refl
parent-above (y ∷ z ∷ p) = ap (λ (t : Bool). t && is_prefix (parent (z ∷ p)) (z ∷ p)) (bytes_same y) ∙ parent-above (z ∷ p)

parent-take : (n : ℕ) (p : List (List ℕ)) → n < length p → take n (parent p) ≡ take n p
parent-take n [] lt = absurd (omega arith)
parent-take zero (y ∷ []) lt = refl
parent-take (suc n) (y ∷ []) lt = absurd (omega arith)
parent-take zero (y ∷ z ∷ p) lt = refl
parent-take (suc n) (y ∷ z ∷ p) lt = λ i. y ∷ parent-take n (z ∷ p) (omega arith) i

take-whole : (n : ℕ) (p : List (List ℕ)) → n ≡ length p → take n p ≡ p
take-whole zero [] e = refl
take-whole zero (y ∷ p) e = absurd (omega arith)
take-whole (suc n) [] e = absurd (omega arith)
take-whole (suc n) (y ∷ p) e = λ i. y ∷ take-whole n p (omega arith) i

take-above : (n : ℕ) (p : List (List ℕ)) → is_prefix (take n p) p ≡ true
take-above zero p = refl
take-above (suc n) [] = refl
take-above (suc n) (y ∷ p) = ap (λ (t : Bool). t && is_prefix (take n p) p) (bytes_same y) ∙ take-above n p

prefix-is : (p q : List (List ℕ)) → is_prefix p q ≡ true → length p ≡ length q → p ≡ q
prefix-is [] [] h e = refl
prefix-is [] (y ∷ q) h e = absurd (omega arith)
prefix-is (x ∷ p) [] h e = cc
prefix-is (x ∷ p) (y ∷ q) h e = let w = and_parts (bytes_eq x y) (is_prefix p q) h in λ i. (bytes_eq-Decides x y).0 w.0 i ∷ prefix-is p q w.1 (omega arith) i

-- two prefixes of a path, the shorter first
nested : (p q x : List (List ℕ)) → is_prefix p x ≡ true → is_prefix q x ≡ true → length p ≤ length q → is_prefix p q ≡ true
nested [] q x h k le = refl
nested (a ∷ p) [] x h k le = absurd (omega arith)
nested (a ∷ p) (b ∷ q) [] h k le = cc
nested (a ∷ p) (b ∷ q) (c ∷ x) h k le =
    let v = and_parts (bytes_eq a c) (is_prefix p x) h in
    let w = and_parts (bytes_eq b c) (is_prefix q x) k in
    let same : a ≡ b = (bytes_eq-Decides a c).0 v.0 ∙ sym ((bytes_eq-Decides b c).0 w.0) in
    ap (λ (t : Bool). t && is_prefix p q) ((bytes_eq-Decides a b).1 same) ∙ nested p q x v.1 w.1 (omega arith)

take-length-is : (n : ℕ) (p : List (List ℕ)) → n ≤ length p → length (take n p) ≡ n
take-length-is zero p le = refl
take-length-is (suc n) [] le = absurd (omega arith)
take-length-is (suc n) (y ∷ p) le = ap suc (take-length-is n p (omega arith))

path_total : IsTotalOrder path_cmp
path_total = lists_total nat_list_cmp_total

pub later-not-before : (p q : List (List ℕ)) → is_before p q ≡ true → is_before q p ≡ false
later-not-before p q h = go (path_cmp p q) refl h
  where
    go : (o : Ordering) → path_cmp p q ≡ o → is_lt o ≡ true → is_before q p ≡ false
    go Less e k = ap is_lt (path_total.antisymm q p ∙ ap ordering_reverse e)
    go Equal e k = cc
    go Greater e k = cc

parent-shorter : (p : List (List ℕ)) → 0 < length p → length (parent p) + 1 ≡ length p
parent-shorter [] lt = absurd (omega arith)
parent-shorter (y ∷ p) lt = omega (arith, parent-length y p)

module _ (rows : List Entry) (d : Entry) (rising : IsRising rows) (housed : All (λ e. is_dir_at (row_at rows (parent e.path)) ≡ true) rows) where
  -- each prefix of a row's path is the path of a row
  above-from : (fuel n m : ℕ) → m < length rows → n + fuel ≡ length (path_at rows d m) → (j : ℕ) × (j < length rows) × (path_at rows d j ≡ take n (path_at rows d m))
  above-from zero n m lt e = (m, lt, sym (take-whole n (path_at rows d m) (omega arith)))
  above-from (suc fuel) n m lt e =
      let w = row-there rows d (parent (path_at rows d m)) (housed m d lt) in
      let short : length (parent (path_at rows d m)) + 1 ≡ length (path_at rows d m) = parent-shorter (path_at rows d m) (omega arith) in
      let same : length (path_at rows d w.0) ≡ length (parent (path_at rows d m)) = ap length w.2 in
      let a = above-from fuel n w.0 w.1 (omega (arith, e, short, same)) in
      (a.0, a.1, a.2 ∙ ap (take n) w.2 ∙ parent-take n (path_at rows d m) (omega (arith, e)))

  not-before : (j k : ℕ) → j < length rows → is_prefix (path_at rows d k) (path_at rows d j) ≡ true → j < k → k < length rows → ⊥
  not-before j k lt h less b =
      let one : is_before (path_at rows d j) (path_at rows d k) ≡ true = rising-at rows d j k rising less b in
      let two : is_before (path_at rows d j) (path_at rows d k) ≡ false = prefix-not-before (path_at rows d k) (path_at rows d j) h in
      cc (one, two)

  not-back : (j k : ℕ) → j < k → k < length rows → is_before (path_at rows d k) (path_at rows d j) ≡ false
  not-back j k less b = later-not-before (path_at rows d j) (path_at rows d k) (rising-at rows d j k rising less b)

  -- a row after those that are below another is below it too if its path is longer
  pub deeper-below : (at next : ℕ) → at < next → next < length rows → ((j : ℕ) → at < j → j < next → is_prefix (path_at rows d at) (path_at rows d j) ≡ true)
      → length (path_at rows d at) < length (path_at rows d next) → is_prefix (path_at rows d at) (path_at rows d next) ≡ true
  deeper-below at next less lt below longer =
      let fuel : (f : ℕ) × (length (path_at rows d at) + f ≡ length (path_at rows d next)) = (length (path_at rows d next) - length (path_at rows d at), omega (arith, longer)) in
      let w = above-from fuel.0 (length (path_at rows d at)) next lt fuel.1 in
      subst (λ (q : List (List ℕ)). is_prefix q (path_at rows d next) ≡ true) (sym (same w.0 w.1 w.2)) (take-above (length (path_at rows d at)) (path_at rows d next))
    where
      short : length (take (length (path_at rows d at)) (path_at rows d next)) ≡ length (path_at rows d at)
      short = take-length-is (length (path_at rows d at)) (path_at rows d next) (omega (arith, longer))

      -- the row at that prefix is the one above
      same : (j : ℕ) → j < length rows → path_at rows d j ≡ take (length (path_at rows d at)) (path_at rows d next) → path_at rows d at ≡ take (length (path_at rows d at)) (path_at rows d next)
      same j b is = elim (cases_lt at j) [
        | inl after ↦ elim (cases_lt j next) [
          | inl before ↦ prefix-is (path_at rows d at) (take (length (path_at rows d at)) (path_at rows d next)) (subst (λ (q : List (List ℕ)). is_prefix (path_at rows d at) q ≡ true) is (below j after before)) (sym short)
          | inr past ↦ elim (cases_lt next j) [
            | inl later ↦ absurd (not-before next j lt (subst (λ (q : List (List ℕ)). is_prefix q (path_at rows d next) ≡ true) (sym is) (take-above (length (path_at rows d at)) (path_at rows d next))) later b)
            | inr upto ↦
                let e : j ≡ next = omega arith in
                let l : length (path_at rows d next) ≡ length (path_at rows d at) = ap (λ (k : ℕ). length (path_at rows d k)) (sym e) ∙ ap length is ∙ short in
                absurd (omega (arith, l, longer))
          ]
        ]
        | inr upto ↦ elim (cases_lt j at) [
          | inl earlier ↦
              let up : is_prefix (path_at rows d j) (path_at rows d next) ≡ true = subst (λ (q : List (List ℕ)). is_prefix q (path_at rows d next) ≡ true) (sym is) (take-above (length (path_at rows d at)) (path_at rows d next)) in
              let one : is_before (path_at rows d at) (path_at rows d next) ≡ true = rising-at rows d at next rising less lt in
              let inside : is_prefix (path_at rows d j) (path_at rows d at) ≡ true = between (path_at rows d j) (path_at rows d at) (path_at rows d next) (not-back j at earlier (omega (arith, less, lt))) one up in
              sym (prefix-is (path_at rows d j) (path_at rows d at) inside (ap length is ∙ short)) ∙ is
          | inr here ↦ let e : at ≡ j = omega arith in ap (path_at rows d) e ∙ is
        ]
      ]

  -- it is a child if it is below none of those rows
  pub child-next : (at next : ℕ) → at < next → next < length rows → ((j : ℕ) → at < j → j < next → is_prefix (path_at rows d j) (path_at rows d next) ≡ false)
      → is_prefix (path_at rows d at) (path_at rows d next) ≡ true → length (path_at rows d at) < length (path_at rows d next) → parent (path_at rows d next) ≡ path_at rows d at
  child-next at next less lt apart below longer =
      let w = row-there rows d (parent (path_at rows d next)) (housed next d lt) in sym (same w.0 w.1 w.2)
    where
      short : length (parent (path_at rows d next)) + 1 ≡ length (path_at rows d next)
      short = parent-shorter (path_at rows d next) (omega (arith, longer))

      up : is_prefix (parent (path_at rows d next)) (path_at rows d next) ≡ true
      up = parent-above (path_at rows d next)

      same : (j : ℕ) → j < length rows → path_at rows d j ≡ parent (path_at rows d next) → path_at rows d at ≡ parent (path_at rows d next)
      same j b is = elim (cases_lt at j) [
        | inl after ↦ elim (cases_lt j next) [
          | inl before ↦
              let one : is_prefix (path_at rows d j) (path_at rows d next) ≡ true = subst (λ (q : List (List ℕ)). is_prefix q (path_at rows d next) ≡ true) (sym is) up in
              let two : is_prefix (path_at rows d j) (path_at rows d next) ≡ false = apart j after before in
              absurd (cc (one, two))
          | inr past ↦ elim (cases_lt next j) [
            | inl later ↦ absurd (not-before next j lt (subst (λ (q : List (List ℕ)). is_prefix q (path_at rows d next) ≡ true) (sym is) up) later b)
            | inr upto ↦
                let e : j ≡ next = omega arith in
                let l : length (path_at rows d next) ≡ length (parent (path_at rows d next)) = ap (λ (k : ℕ). length (path_at rows d k)) (sym e) ∙ ap length is in
                absurd (omega (arith, l, short))
          ]
        ]
        | inr upto ↦ elim (cases_lt j at) [
          | inl earlier ↦
              let inside : is_prefix (path_at rows d at) (parent (path_at rows d next)) ≡ true = nested (path_at rows d at) (parent (path_at rows d next)) (path_at rows d next) below up (omega (arith, short, longer)) in
              absurd (not-before j at b (subst (λ (q : List (List ℕ)). is_prefix (path_at rows d at) q ≡ true) (sym is) inside) earlier (omega (arith, less, lt)))
          | inr here ↦ let e : at ≡ j = omega arith in ap (path_at rows d) e ∙ is
        ]
      ]
