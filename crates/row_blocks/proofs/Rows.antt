-- The rows at and below a directory are its own, and then those at and below each of its children.
use Rattle.std.proofs.Common.{◌≡◌, ◌⊎◌, ⊎_elim, inl, inr, ℕ, zero, suc, ◌+◌, ◌-◌, ◌<◌, ◌≤◌, Bool, true, false, cond, ◌&&◌, List, [], ◌∷◌, ◌++◌, length, take, Option, Some, None, min, refl, sym, ap, ◌∙◌, subst, arith, length-take}
use Rattle.std.specs.Prelude.{⊤, nat_lt}
use Rattle.std.specs.List.{All, AllByRecursion, filter}
use Rattle.std.specs.Str.{bytes_eq}
use Rattle.std.proofs.lemmas.Bool.Decides.{nat_tests}
use Rattle.std.proofs.lemmas.List.{take_all, take-take}
use Rattle.std.proofs.lemmas.Slice.Eq.{bytes_eq-Decides}
use Rattle.name_calls.specs.Paths.{is_before, is_child, is_prefix, parent, same_path}
use Rattle.inode_tree.specs.declared.rows.Row.{Row}
use Rattle.inode_tree.specs.Rows.{AllAfter, Entry, IsRising, is_dir_at, row_at}
use Rattle.inode_tree.proofs.Asked.{parent-take}
use Rattle.inode_tree.proofs.Blocks.{prefix-not-before}
use Rattle.inode_tree.proofs.Puts.{not-both, same-turned}
use Rattle.inode_tree.proofs.Seeks.{before-not-same, not-before-itself, other-before, same-is, same-itself}
use Rattle.inode_tree.proofs.ZoneLemmas.{prefix-itself, prefix-whole}
use Rattle.std.proofs.lemmas.Bool.{cases_lt, and_parts, false_from_ne_true}
use Rattle.row_blocks.specs.Below.{IsRowIn, IsWalkable, below, belows}
use Rattle.row_blocks.proofs.Groups.{filter-no, filter-yes, groups, leaders}
use Rattle.row_blocks.proofs.Blocks.{Housed, IsBelow, after-in, blocks, both, child-long, child-take, itself, join, leads, same, take-prefix}

pub bool-ext : (a b : Bool) → (a ≡ true → b ≡ true) → (b ≡ true → a ≡ true) → a ≡ b
bool-ext true true f g = refl
bool-ext true false f g = absurd (both false (f refl) refl)
bool-ext false true f g = absurd (both false (g refl) refl)
bool-ext false false f g = refl

pub prefix-take : (a x : List (List ℕ)) → is_prefix a x ≡ true → take (length a) x ≡ a
prefix-take [] x h = refl
prefix-take (b ∷ a) [] h = cc
prefix-take (b ∷ a) (c ∷ x) h =
    let parts = and_parts (bytes_eq b c) (is_prefix a x) h in
    λ i. sym ((bytes_eq-Decides b c).0 parts.0) i ∷ prefix-take a x parts.1 i

-- a prefix of a path is one of a longer prefix of it
prefix-front : (m : ℕ) (a x : List (List ℕ)) → is_prefix a x ≡ true → length a ≤ m → is_prefix a (take m x) ≡ true
prefix-front m [] x h le = refl
prefix-front m (b ∷ a) [] h le = cc
prefix-front zero (b ∷ a) (c ∷ x) h le = absurd (omega (arith, le))
prefix-front (suc m) (b ∷ a) (c ∷ x) h le =
    let parts = and_parts (bytes_eq b c) (is_prefix a x) h in
    λ i. parts.0 i && prefix-front m a x parts.1 (omega (arith, le)) i

pub prefix-trans : (a b c : List (List ℕ)) → is_prefix a b ≡ true → is_prefix b c ≡ true → is_prefix a c ≡ true
prefix-trans [] b c g h = refl
prefix-trans (x ∷ a) [] c g h = cc
prefix-trans (x ∷ a) (y ∷ b) [] g h = cc
prefix-trans (x ∷ a) (y ∷ b) (z ∷ c) g h =
    let one = and_parts (bytes_eq x y) (is_prefix a b) g in
    let two = and_parts (bytes_eq y z) (is_prefix b c) h in
    let same : bytes_eq x z ≡ true = subst (λ (w : List ℕ). bytes_eq x w ≡ true) ((bytes_eq-Decides y z).0 two.0) one.0 in
    λ i. same i && prefix-trans a b c one.1 two.1 i

prefix-long : (a x : List (List ℕ)) → is_prefix a x ≡ true → length a ≤ length x
prefix-long [] x h = omega arith
prefix-long (b ∷ a) [] h = cc
prefix-long (b ∷ a) (c ∷ x) h = let parts = and_parts (bytes_eq b c) (is_prefix a x) h in omega (arith, prefix-long a x parts.1)

pub filter-alike-in : (f g : Entry → Bool) (es : List Entry) → ((e : Entry) → IsRowIn e es → f e ≡ g e) → filter f es ≡ filter g es
filter-alike-in f g [] h = refl
filter-alike-in f g (e ∷ es) h =
    let rest = filter-alike-in f g es (λ x is. h x (inr is)) in
    λ i. cond (h e (inl refl) i) (e ∷ rest i) (rest i)

filter-alike : (f g : Entry → Bool) (es : List Entry) → ((e : Entry) → f e ≡ g e) → filter f es ≡ filter g es
filter-alike f g [] h = refl
filter-alike f g (e ∷ es) h = λ i. cond (h e i) (e ∷ filter-alike f g es h i) (filter-alike f g es h i)

pub all-in : (P : Entry → Type 0) (xs : List Entry) (x : Entry) → All P xs → IsRowIn x xs → P x
all-in P [] x h is = absurd is
all-in P (e ∷ es) x h (inl is) = subst P (sym is) (h 0 e (omega arith))
all-in P (e ∷ es) x h (inr is) = all-in P es x (λ k d lt. h (suc k) d (omega (arith, lt))) is

pub row-in : (rows : List Entry) (q : List (List ℕ)) → is_dir_at (row_at rows q) ≡ true → (k : Entry) × IsRowIn k rows × (k.path ≡ q)
row-in [] q h = cc
row-in (e ∷ es) q h = go (same_path e.path q) refl h (row-in es q)
  where
    go : (b : Bool) → same_path e.path q ≡ b → is_dir_at (cond b (Some e.row) (row_at es q)) ≡ true → (is_dir_at (row_at es q) ≡ true → (k : Entry) × IsRowIn k es × (k.path ≡ q)) → (k : Entry) × IsRowIn k (e ∷ es) × (k.path ≡ q)
    go true s h more = (e, inl refl, same-is e.path q s)
    go false s h more = let r = more h in (r.0, inr r.1, r.2)

module _ (p : List (List ℕ)) where
  same-prefix : (k e : Entry) → leads p k ≡ true → same p k e ≡ is_prefix k.path e.path
  same-prefix k e lk = bool-ext (same p k e) (is_prefix k.path e.path)
      (λ s. subst (λ (q : List (List ℕ)). is_prefix q e.path ≡ true) (sym (sym (child-take p k lk) ∙ same-is (take (length p + 1) k.path) (take (length p + 1) e.path) s)) (take-prefix (length p + 1) e.path))
      (λ h. subst (λ (q : List (List ℕ)). same_path (take (length p + 1) k.path) q ≡ true)
      (child-take p k lk ∙ sym (ap (λ (m : ℕ). take m e.path) (sym (child-long p k lk)) ∙ prefix-take k.path e.path h)) (same-itself (take (length p + 1) k.path)))

  groups-belows : (ks es : List Entry) → AllByRecursion (λ (k : Entry). leads p k ≡ true) ks → groups (leads p) (same p) (itself p) (join p) ks es ≡ belows ks es
  groups-belows [] es h = refl
  groups-belows (k ∷ ks) es h = λ i. filter-alike (same p k) (λ (e : Entry). is_prefix k.path e.path) es (λ e. same-prefix k e h.0) i ++ groups-belows ks es h.1 i

  all-lead : (es : List Entry) → AllByRecursion (λ (k : Entry). leads p k ≡ true) (filter (leads p) es)
  all-lead [] = tt
  all-lead (e ∷ es) = go (leads p e) refl (all-lead es)
    where
      go : (b : Bool) → leads p e ≡ b → AllByRecursion (λ (k : Entry). leads p k ≡ true) (filter (leads p) es) → AllByRecursion (λ (k : Entry). leads p k ≡ true) (cond b (e ∷ filter (leads p) es) (filter (leads p) es))
      go true le more = (le, more)
      go false le more = more

  -- the rows of each directory between
  module _ (rows : List Entry) (r : IsWalkable rows) where
    pub ancestor : (f m : ℕ) (x : Entry) → IsRowIn x rows → length x.path ≡ m + f → (k : Entry) × IsRowIn k rows × (k.path ≡ take m x.path)
    ancestor zero m x is long = (x, is, sym (take_all m x.path (omega (arith, long))))
    ancestor (suc f) m x is long =
        let up = row-in rows (parent x.path) (all-in (λ (e : Entry). is_dir_at (row_at rows (parent e.path)) ≡ true) rows x r.housed is) in
        let path : up.0.path ≡ take (length x.path - 1) x.path = up.2 ∙ parent-take x.path in
        let shorter : length up.0.path ≡ m + f = omega (arith, ap length path, long, length-take (length x.path - 1) x.path) in
        let k = ancestor f m up.0 up.1 shorter in
        (k.0, k.1, k.2 ∙ ap (take m) path ∙ take-take m (length x.path - 1) x.path (omega (arith, long)))

  -- the rows properly below
  abbrev pub is_under : Entry → Bool
  is_under e = is_prefix p e.path && nat_lt (length p) (length e.path)

  abbrev pub under : List Entry → List Entry
  under es = filter is_under es

  lt-is : (a b : ℕ) → nat_lt a b ≡ true → a < b
  lt-is a b h = grind (arith, nat_tests)

  lt-yes : (a b : ℕ) → a < b → nat_lt a b ≡ true
  lt-yes a b h = grind (arith, nat_tests)

  and-yes : (a b : Bool) → a ≡ true → b ≡ true → (a && b) ≡ true
  and-yes a b e f = cc

  under-is : (e : Entry) → is_under e ≡ true → IsBelow p e
  under-is e h = let parts = and_parts (is_prefix p e.path) (nat_lt (length p) (length e.path)) h in (parts.0, lt-is (length p) (length e.path) parts.1)

  under-yes : (e : Entry) → IsBelow p e → is_under e ≡ true
  under-yes e h = and-yes (is_prefix p e.path) (nat_lt (length p) (length e.path)) h.0 (lt-yes (length p) (length e.path) h.1)

  all-under : (es : List Entry) → AllByRecursion (IsBelow p) (under es)
  all-under [] = tt
  all-under (e ∷ es) = go (is_under e) refl (all-under es)
    where
      go : (b : Bool) → is_under e ≡ b → AllByRecursion (IsBelow p) (under es) → AllByRecursion (IsBelow p) (cond b (e ∷ under es) (under es))
      go true u more = (under-is e u, more)
      go false u more = more

  after-under : (q : List (List ℕ)) (es : List Entry) → AllAfter q es → AllAfter q (under es)
  after-under q [] h = tt
  after-under q (e ∷ es) h = go (is_under e) (after-under q es h.1)
    where
      go : (b : Bool) → AllAfter q (under es) → AllAfter q (cond b (e ∷ under es) (under es))
      go true more = (h.0, more)
      go false more = more

  rising-under : (es : List Entry) → IsRising es → IsRising (under es)
  rising-under [] h = tt
  rising-under (e ∷ es) h = go (is_under e) (after-under e.path es h.0) (rising-under es h.1)
    where
      go : (b : Bool) → AllAfter e.path (under es) → IsRising (under es) → IsRising (cond b (e ∷ under es) (under es))
      go true here more = (here, more)
      go false here more = more

  in-under : (es : List Entry) (x : Entry) → IsRowIn x es → IsBelow p x → IsRowIn x (under es)
  in-under [] x is h = absurd is
  in-under (e ∷ es) x (inl is) h = subst (λ (l : List Entry). IsRowIn x l) (sym (filter-yes is_under e es (subst (λ (y : Entry). is_under y ≡ true) is (under-yes x h)))) (inl is)
  in-under (e ∷ es) x (inr is) h = go (is_under e) (in-under es x is h)
    where
      go : (b : Bool) → IsRowIn x (under es) → IsRowIn x (cond b (e ∷ under es) (under es))
      go true more = inr more
      go false more = more

  under-in : (es : List Entry) (x : Entry) → IsRowIn x (under es) → IsRowIn x es × IsBelow p x
  under-in [] x is = absurd is
  under-in (e ∷ es) x is = go (is_under e) refl is (under-in es x)
    where
      go : (b : Bool) → is_under e ≡ b → IsRowIn x (cond b (e ∷ under es) (under es)) → (IsRowIn x (under es) → IsRowIn x es × IsBelow p x) → IsRowIn x (e ∷ es) × IsBelow p x
      go true u (inl here) more = (inl here, subst (IsBelow p) (sym here) (under-is e u))
      go true u (inr there) more = let m = more there in (inr m.0, m.1)
      go false u there more = let m = more there in (inr m.0, m.1)

  after-directory : (es : List Entry) → AllByRecursion (IsBelow p) es → AllAfter p es
  after-directory [] h = tt
  after-directory (e ∷ es) h = (
    other-before e.path p (false_from_ne_true (same_path e.path p) (λ t. let l = ap length (same-is e.path p t) in omega (arith, l, h.0.1))) (prefix-not-before p e.path h.0.0),
    after-directory es h.1,
  )

  child-yes : (k : Entry) → is_prefix p k.path ≡ true → length k.path ≡ length p + 1 → leads p k ≡ true
  child-yes k h long = and-yes (is_prefix p k.path) _ h (grind (arith, nat_tests))

  -- the rows below a directory are its children, each with those below it
  pub under-blocks : (rows : List Entry) (d : Entry) → IsWalkable rows → IsRowIn d rows → d.path ≡ p → under rows ≡ belows (filter (leads p) (under rows)) (under rows)
  under-blocks rows d r is path =
      blocks p d (under rows) path (subst (λ (q : List (List ℕ)). AllAfter q (under rows)) (sym path) (after-directory (under rows) (all-under rows))) (rising-under rows r.rising) (all-under rows) housed
      ∙ groups-belows (filter (leads p) (under rows)) (under rows) (all-lead (under rows))
    where
      housed : Housed p d (under rows)
      housed x is =
          let u = under-in rows x is in
          let k = ancestor rows r (length x.path - (length p + 1)) (length p + 1) x u.0 (omega (arith, u.1.1)) in
          let long : length k.0.path ≡ length p + 1 = omega (arith, ap length k.2, u.1.1, length-take (length p + 1) x.path) in
          let front : is_prefix p k.0.path ≡ true = subst (λ (q : List (List ℕ)). is_prefix p q ≡ true) (sym k.2) (prefix-front (length p + 1) p x.path u.1.0 (omega arith)) in
          inr (inr (k.0, in-under rows k.0 k.1 (front, omega (arith, long)), child-yes k.0 front long, k.2))

  -- the directory comes first of the rows at and below it
  directory-first : (es : List Entry) (d : Entry) → IsRising es → IsRowIn d es → d.path ≡ p → below es p ≡ d ∷ under es
  directory-first [] d rising is path = absurd is
  directory-first (e ∷ es) d rising (inl is) path =
      let here : e.path ≡ p = ap (λ (y : Entry). y.path) (sym is) ∙ path in
      let none : is_under e ≡ false = false_from_ne_true (is_under e) (λ u. let b = under-is e u in omega (arith, ap length here, b.1)) in
      filter-yes (λ (x : Entry). is_prefix p x.path) e es (subst (λ (q : List (List ℕ)). is_prefix p q ≡ true) (sym here) (prefix-itself p))
      ∙ (λ i. sym is i ∷ filter-alike-in (λ (x : Entry). is_prefix p x.path) is_under es (λ x there.
      bool-ext (is_prefix p x.path) (is_under x)
      (λ front. under-yes x (front, longer x.path front (subst (λ (q : List (List ℕ)). is_before q x.path ≡ true) here (after-in e.path es x rising.0 there))))
      (λ u. (under-is x u).0)) i)
      ∙ ap (λ (l : List Entry). d ∷ l) (sym (filter-no is_under e es none))
    where
      longer : (q : List (List ℕ)) → is_prefix p q ≡ true → is_before p q ≡ true → length p < length q
      longer q front before = ⊎_elim (λ (lt : length p < length q). lt)
          (λ (le : length q ≤ length p). absurd (both (is_before q q) (subst (λ (o : List (List ℕ)). is_before o q ≡ true) (prefix-whole p q front le) before) (not-before-itself q))) (cases_lt (length p) (length q))
  directory-first (e ∷ es) d rising (inr is) path =
      let before : is_before e.path p ≡ true = subst (λ (q : List (List ℕ)). is_before e.path q ≡ true) path (after-in e.path es d rising.0 is) in
      let off : is_prefix p e.path ≡ false = false_from_ne_true (is_prefix p e.path) (λ t. both (is_before e.path p) before (prefix-not-before p e.path t)) in
      let none : is_under e ≡ false = false_from_ne_true (is_under e) (λ u. both (is_prefix p e.path) (under-is e u).0 off) in
      filter-no (λ (x : Entry). is_prefix p x.path) e es off ∙ directory-first es d rising.1 is path ∙ ap (λ (l : List Entry). d ∷ l) (sym (filter-no is_under e es none))

  child-is : (k : Entry) → leads p k ≡ true → IsBelow p k
  child-is k lk = (take-front, omega (arith, child-long p k lk))
    where
      take-front : is_prefix p k.path ≡ true
      take-front = (and_parts (is_prefix p k.path) _ lk).0

  children-under : (es : List Entry) → filter (leads p) (under es) ≡ filter (leads p) es
  children-under [] = refl
  children-under (e ∷ es) = go (is_under e) refl (children-under es)
    where
      go : (b : Bool) → is_under e ≡ b → filter (leads p) (under es) ≡ filter (leads p) es → filter (leads p) (cond b (e ∷ under es) (under es)) ≡ filter (leads p) (e ∷ es)
      go true u more = ap (λ (l : List Entry). cond (leads p e) (e ∷ l) l) more
      go false u more = more ∙ sym (filter-no (leads p) e es (false_from_ne_true (leads p e) (λ t. both (is_under e) (under-yes e (child-is e t)) u)))

  below-under : (k : Entry) (es : List Entry) → leads p k ≡ true → below (under es) k.path ≡ below es k.path
  below-under k [] lk = refl
  below-under k (e ∷ es) lk = go (is_under e) refl (below-under k es lk)
    where
      go : (b : Bool) → is_under e ≡ b → below (under es) k.path ≡ below es k.path → below (cond b (e ∷ under es) (under es)) k.path ≡ below (e ∷ es) k.path
      go true u more = ap (λ (l : List Entry). cond (is_prefix k.path e.path) (e ∷ l) l) more
      go false u more = more ∙ sym (filter-no (λ (x : Entry). is_prefix k.path x.path) e es (false_from_ne_true (is_prefix k.path e.path) (λ t.
          both (is_under e) (under-yes e (prefix-trans p k.path e.path (child-is k lk).0 t, omega (arith, prefix-long k.path e.path t, child-long p k lk))) u)))

  belows-under : (ks es : List Entry) → AllByRecursion (λ (k : Entry). leads p k ≡ true) ks → belows ks (under es) ≡ belows ks es
  belows-under [] es h = refl
  belows-under (k ∷ ks) es h = λ i. below-under k es h.0 i ++ belows-under ks es h.1 i

  -- The rows at and below a directory are its own, and then those at and below each of its children.
  pub below-blocks : (rows : List Entry) (d : Entry) → IsWalkable rows → IsRowIn d rows → d.path ≡ p → below rows p ≡ d ∷ belows (filter (λ (e : Entry). is_child p e.path) rows) rows
  below-blocks rows d r is path =
      directory-first rows d r.rising is path
      ∙ ap (λ (l : List Entry). d ∷ l) (under-blocks rows d r is path ∙ ap (λ (ks : List Entry). belows ks (under rows)) (children-under rows) ∙ belows-under (filter (leads p) rows) rows (all-lead rows))
