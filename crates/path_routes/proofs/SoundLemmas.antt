-- The result of a walk over rows is a row whose pattern the path matches.
use Rattle.std.proofs.Common.{◌≡◌, ◌≢◌, ℕ, zero, suc, ◌-◌, ◌<◌, ◌≤◌, List, [], ◌∷◌, ◌++◌, length, drop, take, Option, Some, None, Bool, true, false, cond, refl, ap, ◌∙◌, arith, ◌==◌, ltb, ◌&&◌, ◌⊎◌, inl, inr, subst}
use Rattle.std.proofs.lemmas.Bool.Decides.{nat_tests}
use Rattle.std.proofs.lemmas.List.{take-append-drop, append-nil, drop_all}
use Rattle.matchit.specs.Rows.{RowsOf}
use Rattle.matchit.specs.Seek.{own, step, or_else, seek, param_step, has_slash, segment, longest_suffix, longest_from, better, cuts, with_suffix, same_text, slash}
use Rattle.path_routes.specs.Shapes.{HasNoSlash, IsSegment}

-- a path that matches a pattern: a token that is a byte is that byte, a parameter is one segment, a catch-all is anything
abbrev pub One : ℕ → (List ℕ → Type 0) → List ℕ → Type 0
One x rest path =
    ((later : List ℕ) × (path ≡ x ∷ later) × rest later)
    ⊎ (((x ≡ 256) × ((k : List ℕ) × (later : List ℕ) × (path ≡ k ++ later) × IsSegment k × rest later))
    ⊎ (x ≡ 257))

unfoldable pub Follows : List ℕ → List ℕ → Type 0
Follows [] path = path ≡ []
Follows (x ∷ t) path = One x (Follows t) path

-- a property of each row that the path matches
abbrev pub Each : {K : Type 0} → (K → Type 0) → RowsOf K → List ℕ → Type 0
Each P [] path = Unit {0}
Each P ((t, key) ∷ rest) path = (Follows t path → P key) × Each P rest path

module _ {K : Type 0} (P : K → Type 0) where
  pub own-sound : (rs : RowsOf K) (r : K) → Each P rs [] → own rs ≡ Some r → P r
  unfolding Follows
  own-sound [] r h e = cc
  own-sound (([], key) ∷ rest) r h e =
      let same : key ≡ r = cc in
      subst P same (h.0 refl)
  own-sound ((x ∷ t, key) ∷ rest) r h e = own-sound rest r h.1 e

  pub step-sound : (b : ℕ) (rs : RowsOf K) (p : List ℕ) → Each P rs (b ∷ p) → Each P (step b rs) p
  unfolding Follows
  step-sound b [] p h = tt
  step-sound b (([], key) ∷ rest) p h = step-sound b rest p h.1
  step-sound b ((x ∷ t, key) ∷ rest) p h = by (x == b) refl (step-sound b rest p h.1)
    where
      by : (v : Bool) → (x == b) ≡ v → Each P (step b rest) p → Each P (cond v ((t, key) ∷ step b rest) (step b rest)) p
      by true q ih =
          let xb : x ≡ b = grind (arith, nat_tests) in
          ((λ f. h.0 (inl (p, rw xb refl, f))), ih)
      by false q ih = ih

  -- the rows after a parameter that takes k
  pub param-rows : (rs : RowsOf K) (k later : List ℕ) → IsSegment k → Each P rs (k ++ later) → Each P (step 256 rs) later
  unfolding Follows
  param-rows [] k later s h = tt
  param-rows (([], key) ∷ rest) k later s h = param-rows rest k later s h.1
  param-rows ((x ∷ t, key) ∷ rest) k later s h = by (x == 256) refl (param-rows rest k later s h.1)
    where
      by : (v : Bool) → (x == 256) ≡ v → Each P (step 256 rest) later → Each P (cond v ((t, key) ∷ step 256 rest) (step 256 rest)) later
      by true q ih =
          let xb : x ≡ 256 = grind (arith, nat_tests) in
          ((λ f. h.0 (inr (inl (xb, (k, later, refl, s, f))))), ih)
      by false q ih = ih

  pub suffix-rows : (u : List ℕ) (rs : RowsOf K) (p : List ℕ) → Each P rs p → Each P (with_suffix u rs) p
  suffix-rows u [] p h = tt
  suffix-rows u ((t, key) ∷ rest) p h = by (same_text (segment t) u) (suffix-rows u rest p h.1)
    where
      by : (v : Bool) → Each P (with_suffix u rest) p → Each P (cond v ((t, key) ∷ with_suffix u rest) (with_suffix u rest)) p
      by true ih = (h.0, ih)
      by false ih = ih

  pub catch-rows : (rs : RowsOf K) (p later : List ℕ) → Each P rs p → Each P (step 257 rs) later
  unfolding Follows
  catch-rows [] p later h = tt
  catch-rows (([], key) ∷ rest) p later h = catch-rows rest p later h.1
  catch-rows ((x ∷ t, key) ∷ rest) p later h = by (x == 257) refl (catch-rows rest p later h.1)
    where
      by : (v : Bool) → (x == 257) ≡ v → Each P (step 257 rest) later → Each P (cond v ((t, key) ∷ step 257 rest) (step 257 rest)) later
      by true q ih =
          let xb : x ≡ 257 = grind (arith, nat_tests) in
          ((λ f. h.0 (inr (inr xb))), ih)
      by false q ih = ih

-- a prefix of a path, shorter than its first segment
pub front-clear : (path : List ℕ) (n : ℕ) → n < length (segment path) → HasNoSlash (take n path)
front-clear [] zero h = tt
front-clear [] (suc n) h = elim h [ ]
front-clear (x ∷ p) zero h = tt
front-clear (x ∷ p) (suc n) h = by (x == 47) refl h (front-clear p n)
  where
    by : (v : Bool) → (x == 47) ≡ v → suc n < length (cond v (x ∷ []) (x ∷ segment p)) → (n < length (segment p) → HasNoSlash (take n p)) → HasNoSlash (x ∷ take n p)
    by true q h2 ih = absurd (omega arith)
    by false q h2 ih =
        let ne : x ≢ 47 = λ e. grind (arith, nat_tests) in
        (ne, ih (omega arith))

pub clear-path : (path : List ℕ) → has_slash path ≡ false → HasNoSlash path
clear-path [] h = tt
clear-path (x ∷ p) h = by (x == 47) refl h (clear-path p)
  where
    by : (v : Bool) → (x == 47) ≡ v → cond v true (has_slash p) ≡ false → (has_slash p ≡ false → HasNoSlash p) → HasNoSlash (x ∷ p)
    by true q h2 ih = cc
    by false q h2 ih =
        let ne : x ≢ 47 = λ e. grind (arith, nat_tests) in
        (ne, ih h2)

pub segment-within : (p : List ℕ) → length (segment p) ≤ length p
segment-within [] = omega arith
segment-within (x ∷ p) =
    let h = segment-within p in
    elim (x == slash) as (λ v. length (cond v (x ∷ []) (x ∷ segment p)) ≤ suc (length p)) [
      | true ↦ omega arith
      | false ↦ omega arith
    ]

pub better-short : (seg best s : List ℕ) → (length best ≡ 0) ⊎ (length best < length seg) → (length (better seg best s) ≡ 0) ⊎ (length (better seg best s) < length seg)
better-short seg best s h = by (ltb (length best) (length s) && cuts seg s) refl
  where
    by : (v : Bool) → (ltb (length best) (length s) && cuts seg s) ≡ v → (length (better seg best s) ≡ 0) ⊎ (length (better seg best s) < length seg)
    by true q =
        let l : length s < length seg = grind (arith, nat_tests) in
        rw q (inr l)
    by false q = rw q h

module _ {K : Type 0} where
  pub longest-short : (seg best : List ℕ) (r : RowsOf K) → (length best ≡ 0) ⊎ (length best < length seg) → (length (longest_from seg best r) ≡ 0) ⊎ (length (longest_from seg best r) < length seg)
  longest-short seg best [] h = h
  longest-short seg best ((t, k) ∷ r) h = longest-short seg (better seg best (segment t)) r (better-short seg best (segment t) h)

module _ {K : Type 0} (P : K → Type 0) where
  -- a part that ends before the first slash
  pub part-each : (rs : RowsOf K) (b : ℕ) (p : List ℕ) (n : ℕ) → 0 < n → n < length (segment (b ∷ p)) → Each P rs (b ∷ p) → Each P (step 256 rs) (drop (n - 1) p)
  part-each rs b p zero l m h = absurd (omega arith)
  part-each rs b p (suc n) l m h =
      let e : suc n - 1 ≡ n = omega arith in
      let split : take (suc n) (b ∷ p) ++ drop n p ≡ b ∷ p = take-append-drop (suc n) (b ∷ p) in
      rw e (param-rows P rs (take (suc n) (b ∷ p)) (drop n p) ((λ q. cc), front-clear (b ∷ p) (suc n) m) (rw split h))

  -- the rows that continue after a parameter, at the rest of the path
  pub param-each : (rs : RowsOf K) (b : ℕ) (p : List ℕ) → Each P rs (b ∷ p)
      → Each P (param_step (step 256 rs) (b ∷ p)).1 (drop ((param_step (step 256 rs) (b ∷ p)).0 - 1) p)
  unfolding param_step
  param-each rs b p h = by (ltb 0 (length u)) refl (longest-short (segment (b ∷ p)) [] (step 256 rs) (inl refl))
    where
      u : List ℕ
      u = longest_suffix (segment (b ∷ p)) (step 256 rs)

      rest : Bool → ℕ × RowsOf K
      rest v = cond v (0, []) (length (b ∷ p), step 256 rs)

      at : Bool → ℕ × RowsOf K
      at v = cond v (length (segment (b ∷ p)) - length u, with_suffix u (step 256 rs)) (rest (has_slash (b ∷ p)))

      none : (v : Bool) → has_slash (b ∷ p) ≡ v → Each P (rest v).1 (drop ((rest v).0 - 1) p)
      none true q = tt
      none false q =
          let e : suc (length p) - 1 ≡ length p = omega arith in
          let all : drop (length p) p ≡ [] = drop_all (length p) p (omega arith) in
          rw (e, all) (param-rows P rs (b ∷ p) [] ((λ q. cc), clear-path (b ∷ p) q) (rw append-nil h))

      by : (v : Bool) → ltb 0 (length u) ≡ v → (length u ≡ 0) ⊎ (length u < length (segment (b ∷ p))) → Each P (at v).1 (drop ((at v).0 - 1) p)
      by true q (inl z) =
          let some : 0 < length u = grind (arith, nat_tests) in
          absurd (omega arith)
      by true q (inr s) =
          let some : 0 < length u = grind (arith, nat_tests) in
          suffix-rows P u (step 256 rs) _ (part-each rs b p (length (segment (b ∷ p)) - length u) (omega arith) (omega arith) h)
      by false q s = none (has_slash (b ∷ p)) refl

  -- the result of the walk has the property
  pub seek-sound : (s : ℕ) (rs : RowsOf K) (path : List ℕ) (r : K) → Each P rs (drop s path) → seek s rs path ≡ Some r → P r
  unfolding seek
  seek-sound zero rs [] r h e = own-sound P rs r h e
  seek-sound (suc s) rs [] r h e = own-sound P rs r h e
  seek-sound (suc s) rs (b ∷ p) r h e = seek-sound s rs p r h e
  seek-sound zero rs (b ∷ p) r h e =
      three (seek 0 (step b rs) p) (seek ((param_step (step 256 rs) (b ∷ p)).0 - 1) (param_step (step 256 rs) (b ∷ p)).1 p) (own (step 257 rs))
      e
      (λ q. seek-sound 0 (step b rs) p r (step-sound P b rs p h) q)
      (λ q. seek-sound ((param_step (step 256 rs) (b ∷ p)).0 - 1) (param_step (step 256 rs) (b ∷ p)).1 p r (param-each rs b p h) q)
      (λ q. own-sound P (step 257 rs) r (catch-rows P rs (b ∷ p) [] h) q)
    where
      three : (x y z : Option K) → or_else x (or_else y z) ≡ Some r → (x ≡ Some r → P r) → (y ≡ Some r → P r) → (z ≡ Some r → P r) → P r
      three None None z f a b c = c f
      three None (Some k) z f a b c = b f
      three (Some k) y z f a b c = a f

-- ---- reading a literal pattern

-- each is a byte
abbrev pub all_bytes : List ℕ → Bool
all_bytes [] = true
all_bytes (b ∷ rest) = ltb b 256 && all_bytes rest

pub Follows-text : (w t path : List ℕ) → all_bytes w ≡ true → Follows (w ++ t) path → (later : List ℕ) × (path ≡ w ++ later) × Follows t later
unfolding Follows
Follows-text [] t path h f = (path, refl, f)
Follows-text (x ∷ w) t path h (inl f) =
    let xs : all_bytes w ≡ true = grind (arith, nat_tests) in
    let r = Follows-text w t f.0 xs f.2 in
    (r.0, f.1 ∙ ap (λ z. x ∷ z) r.1, r.2)
Follows-text (x ∷ w) t path h (inr (inl f)) =
    let lt : x < 256 = grind (arith, nat_tests) in
    absurd (omega (arith, f.0))
Follows-text (x ∷ w) t path h (inr (inr f)) =
    let lt : x < 256 = grind (arith, nat_tests) in
    absurd (omega (arith, f))

pub Follows-literal : (w path : List ℕ) → all_bytes w ≡ true → Follows w path → path ≡ w
unfolding Follows
Follows-literal w path h f =
    let r = Follows-text w [] path h (rw append-nil f) in
    r.1 ∙ ap (λ z. w ++ z) r.2 ∙ append-nil w

-- text, one segment, text
pub Follows-part : (w u path : List ℕ) → all_bytes w ≡ true → all_bytes u ≡ true → Follows (w ++ (256 ∷ u)) path
    → (k : List ℕ) × (path ≡ w ++ (k ++ u)) × IsSegment k
unfolding Follows
Follows-part w u path h g f = by r.2
  where
    r : (later : List ℕ) × (path ≡ w ++ later) × Follows (256 ∷ u) later
    r = Follows-text w (256 ∷ u) path h f

    by : One 256 (Follows u) r.0 → (k : List ℕ) × (path ≡ w ++ (k ++ u)) × IsSegment k
    by (inl a) =
        let same : a.0 ≡ u = Follows-literal u a.0 g a.2 in
        (256 ∷ [], r.1 ∙ ap (λ z. w ++ z) (a.1 ∙ ap (λ z. 256 ∷ z) same), ((λ q. cc), ((λ q. omega arith), tt)))
    by (inr (inl a)) =
        let same : a.1.1 ≡ u = Follows-literal u a.1.1 g a.1.4 in
        (a.1.0, r.1 ∙ ap (λ z. w ++ z) (a.1.2 ∙ ap (λ z. a.1.0 ++ z) same), a.1.3)
    by (inr (inr a)) = absurd (omega (arith, a))
