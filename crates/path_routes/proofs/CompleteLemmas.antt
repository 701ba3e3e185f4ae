-- The result of a walk over rows at a path that matches a row's pattern.
use Rattle.std.proofs.Common.{◌≡◌, ◌≢◌, ℕ, zero, suc, ◌+◌, ◌-◌, ◌<◌, ◌≤◌, List, [], ◌∷◌, ◌++◌, length, drop, Option, Some, None, Bool, true, false, cond, refl, sym, ap, ◌∙◌, arith, nat_eq, ◌==◌, ltb, ◌&&◌}
use Rattle.std.proofs.lemmas.Bool.Decides.{nat_tests}
use Rattle.std.proofs.lemmas.List.{drop_all, length-append}
use Rattle.std.proofs.Math.Seq.{drop-append_seam}
use Rattle.std.specs.Cmp.Lexicographic.{pointwise}
use Rattle.std.proofs.lemmas.Bool.{and_right, and_from}
use Rattle.matchit.specs.Rows.{RowsOf}
use Rattle.matchit.specs.Seek.{own, step, or_else, seek, param_step, has_slash, segment, longest_suffix, longest_from, cuts, with_suffix}
use Rattle.path_routes.specs.Shapes.{HasNoSlash}

module _ {K : Type 0} where
  -- no row begins with a parameter or a catch-all
  abbrev pub plain : RowsOf K → Bool
  plain [] = true
  plain (([], key) ∷ rest) = plain rest
  plain ((x ∷ t, key) ∷ rest) = ltb x 256 && plain rest

  -- the rows after some bytes
  abbrev pub along : List ℕ → RowsOf K → RowsOf K
  along [] rs = rs
  along (b ∷ w) rs = along w (step b rs)

  abbrev pub all_plain : List ℕ → RowsOf K → Bool
  all_plain [] rs = true
  all_plain (b ∷ w) rs = plain rs && all_plain w (step b rs)

  -- each row begins with a parameter
  abbrev pub all_param : RowsOf K → Bool
  all_param [] = true
  all_param (([], key) ∷ rest) = false
  all_param ((x ∷ t, key) ∷ rest) = (x == 256) && all_param rest

  -- each row ends here or continues with a slash
  abbrev pub slashy : RowsOf K → Bool
  slashy [] = true
  slashy (([], key) ∷ rest) = slashy rest
  slashy ((x ∷ t, key) ∷ rest) = (x == 47) && slashy rest

  -- some row continues
  abbrev pub goes_on : RowsOf K → Bool
  goes_on [] = false
  goes_on (([], key) ∷ rest) = goes_on rest
  goes_on ((x ∷ t, key) ∷ rest) = true

  pub seek-drop : (k : ℕ) (r : RowsOf K) (p : List ℕ) → seek k r p ≡ seek 0 r (drop k p)
  unfolding seek
  seek-drop zero r p = refl
  seek-drop (suc k) r [] = refl
  seek-drop (suc k) r (b ∷ p) = seek-drop k r p

  pub or_else-none : (a : Option K) → or_else a None ≡ a
  or_else-none None = refl
  or_else-none (Some k) = refl

  pub step-none : (b : ℕ) (rs : RowsOf K) → 256 ≤ b → plain rs ≡ true → step b rs ≡ []
  step-none b [] l h = refl
  step-none b (([], key) ∷ rest) l h = step-none b rest l h
  step-none b ((x ∷ t, key) ∷ rest) l h =
      let lt : x < 256 = grind (arith, nat_tests) in
      let more : plain rest ≡ true = grind (arith, nat_tests) in
      let e : (x == b) ≡ false = grind (arith, nat_tests) in
      rw e (step-none b rest l more)

  pub step-param : (b : ℕ) (rs : RowsOf K) → b ≢ 256 → all_param rs ≡ true → step b rs ≡ []
  step-param b [] l h = refl
  step-param b (([], key) ∷ rest) l h = cc
  step-param b ((x ∷ t, key) ∷ rest) l h =
      let same : x ≡ 256 = grind (arith, nat_tests) in
      let more : all_param rest ≡ true = grind (arith, nat_tests) in
      let ne : x ≢ b = λ q. l (cc) in
      let e : (x == b) ≡ false = grind (arith, nat_tests) in
      rw e (step-param b rest l more)

  pub param_step-empty : (p : List ℕ) → (param_step {K = K} [] p).1 ≡ []
  unfolding param_step
  param_step-empty p =
      elim (has_slash p) as (λ v. (cond {A = ℕ × RowsOf K} v (0, []) (length p, [])).1 ≡ []) [
        | true ↦ refl
        | false ↦ refl
      ]

  pub seek-empty : (k : ℕ) (p : List ℕ) → seek {K = K} k [] p ≡ None
  unfolding seek
  seek-empty k [] = refl
  seek-empty (suc k) (b ∷ p) = seek-empty k p
  seek-empty zero (b ∷ p) = simp (seek-empty 0 p, param_step-empty (b ∷ p), seek-empty (((param_step {K = K} [] (b ∷ p)).0) - 1) p)

  pub seek-byte : (b : ℕ) (p : List ℕ) (rs : RowsOf K) → plain rs ≡ true → seek 0 rs (b ∷ p) ≡ seek 0 (step b rs) p
  unfolding seek
  seek-byte b p rs h =
      simp (step-none 256 rs (omega arith) h, step-none 257 rs (omega arith) h, param_step-empty (b ∷ p), seek-empty ((param_step {K = K} [] (b ∷ p)).0 - 1) p, or_else-none)

  pub seek-along : (w rest : List ℕ) (rs : RowsOf K) → all_plain w rs ≡ true → seek 0 rs (w ++ rest) ≡ seek 0 (along w rs) rest
  seek-along [] rest rs h = refl
  seek-along (b ∷ w) rest rs h =
      let one : plain rs ≡ true = grind (arith, nat_tests) in
      let more : all_plain w (step b rs) ≡ true = grind (arith, nat_tests) in
      seek-byte b (w ++ rest) rs one ∙ seek-along w rest (step b rs) more

  pub seek-open : (b : ℕ) (p : List ℕ) (rs : RowsOf K) → b < 256 → all_param rs ≡ true
      → seek 0 rs (b ∷ p) ≡ seek ((param_step (step 256 rs) (b ∷ p)).0 - 1) (param_step (step 256 rs) (b ∷ p)).1 p
  unfolding seek
  seek-open b p rs l h =
      simp (step-param b rs (λ q. omega arith) h, step-param 257 rs (λ q. omega arith) h, seek-empty 0 p, or_else-none)

pub segment-clear : (k : List ℕ) → HasNoSlash k → segment k ≡ k
segment-clear [] h = refl
segment-clear (b ∷ k) h =
    let ne : b ≢ 47 = h.0 in
    let e : (b == 47) ≡ false = grind (arith, nat_tests) in
    rw e (ap (λ z. b ∷ z) (segment-clear k h.1))

pub has_slash-clear : (k : List ℕ) → HasNoSlash k → has_slash k ≡ false
has_slash-clear [] h = refl
has_slash-clear (b ∷ k) h =
    let ne : b ≢ 47 = h.0 in
    let e : (b == 47) ≡ false = grind (arith, nat_tests) in
    rw e (has_slash-clear k h.1)

pub segment-cut : (k u : List ℕ) → HasNoSlash k → segment (k ++ (47 ∷ u)) ≡ k ++ (47 ∷ [])
segment-cut [] u h = refl
segment-cut (b ∷ k) u h =
    let ne : b ≢ 47 = h.0 in
    let e : (b == 47) ≡ false = grind (arith, nat_tests) in
    rw e (ap (λ z. b ∷ z) (segment-cut k u h.1))

pub clear-drop : (n : ℕ) (k : List ℕ) → HasNoSlash k → HasNoSlash (drop n k)
clear-drop zero k h = h
clear-drop (suc n) [] h = tt
clear-drop (suc n) (b ∷ k) h = clear-drop n k h.1

pub starts-clear : (d : List ℕ) → HasNoSlash d → pointwise nat_eq (47 ∷ []) d ≡ false
starts-clear [] h = refl
starts-clear (y ∷ d) h =
    let ne : 47 ≢ y = λ q. h.0 (sym q) in
    let e : nat_eq 47 y ≡ false = grind (arith, nat_tests) in
    rw e refl

pub cuts-clear : (k : List ℕ) → HasNoSlash k → cuts k (47 ∷ []) ≡ false
cuts-clear k h = and_right (ltb 1 (length k)) _ (starts-clear (drop (length k - 1) k) (clear-drop (length k - 1) k h))

pub cuts-cut : (b : ℕ) (k : List ℕ) → cuts (b ∷ (k ++ (47 ∷ []))) (47 ∷ []) ≡ true
cuts-cut b k = and_from _ _ l1 l3
  where
    len : length (k ++ (47 ∷ [])) ≡ length k + 1
    len = length-append k (47 ∷ [])

    l1 : ltb 1 (suc (length (k ++ (47 ∷ [])))) ≡ true
    l1 = rw len (grind (arith, nat_tests))

    l3 : pointwise nat_eq (47 ∷ []) (drop (suc (length (k ++ (47 ∷ []))) - 1) (b ∷ (k ++ (47 ∷ [])))) ≡ true
    l3 =
        let n : suc (length (k ++ (47 ∷ []))) - 1 ≡ suc (length k) = omega (arith, len) in
        rw (n, drop-append_seam k (47 ∷ [])) refl

module _ {K : Type 0} where
  pub longest-clear : (k : List ℕ) (rs : RowsOf K) → HasNoSlash k → slashy rs ≡ true → longest_from k [] rs ≡ []
  longest-clear k [] h s = refl
  longest-clear k (([], key) ∷ rest) h s = longest-clear k rest h s
  longest-clear k ((x ∷ t, key) ∷ rest) h s =
      let same : x ≡ 47 = grind (arith, nat_tests) in
      let more : slashy rest ≡ true = grind (arith, nat_tests) in
      rw (same, cuts-clear k h) (longest-clear k rest h more)

  pub longest-stays : (seg : List ℕ) (rs : RowsOf K) → slashy rs ≡ true → longest_from seg (47 ∷ []) rs ≡ 47 ∷ []
  longest-stays seg [] s = refl
  longest-stays seg (([], key) ∷ rest) s = longest-stays seg rest s
  longest-stays seg ((x ∷ t, key) ∷ rest) s =
      let e : (x == 47) ≡ true = grind (arith, nat_tests) in
      let more : slashy rest ≡ true = grind (arith, nat_tests) in
      rw e (longest-stays seg rest more)

  pub longest-cut : (seg : List ℕ) (rs : RowsOf K) → cuts seg (47 ∷ []) ≡ true → slashy rs ≡ true → goes_on rs ≡ true → longest_from seg [] rs ≡ 47 ∷ []
  longest-cut seg [] c s g = cc
  longest-cut seg (([], key) ∷ rest) c s g = longest-cut seg rest c s g
  longest-cut seg ((x ∷ t, key) ∷ rest) c s g =
      let same : x ≡ 47 = grind (arith, nat_tests) in
      let more : slashy rest ≡ true = grind (arith, nat_tests) in
      rw (same, c) (longest-stays seg rest more)

  pub param_step-cut : (rs : RowsOf K) (path seg : List ℕ) → segment path ≡ seg → longest_suffix seg rs ≡ 47 ∷ [] → param_step rs path ≡ (length seg - 1, with_suffix (47 ∷ []) rs)
  unfolding param_step
  param_step-cut rs path seg e lon = rw (e, lon) refl

  pub param_step-end : (rs : RowsOf K) (path : List ℕ) → segment path ≡ path → longest_suffix path rs ≡ [] → has_slash path ≡ false → param_step rs path ≡ (length path, rs)
  unfolding param_step
  param_step-end rs path e lon none = rw (e, lon, none) refl

  -- a part, then a slash
  pub through : (rs : RowsOf K) (b : ℕ) (k u : List ℕ) → HasNoSlash (b ∷ k) → b < 256 → all_param rs ≡ true → slashy (step 256 rs) ≡ true → goes_on (step 256 rs) ≡ true
      → seek 0 rs ((b ∷ k) ++ (47 ∷ u)) ≡ seek 0 (with_suffix (47 ∷ []) (step 256 rs)) (47 ∷ u)
  through rs b k u h l p s g =
      let cut : segment ((b ∷ k) ++ (47 ∷ u)) ≡ (b ∷ k) ++ (47 ∷ []) = segment-cut (b ∷ k) u h in
      let lon : longest_suffix ((b ∷ k) ++ (47 ∷ [])) (step 256 rs) ≡ 47 ∷ [] = longest-cut (b ∷ (k ++ (47 ∷ []))) (step 256 rs) (cuts-cut b k) s g in
      let n : length ((b ∷ k) ++ (47 ∷ [])) - 1 - 1 ≡ length k = omega (arith, length-append (b ∷ k) (47 ∷ [])) in
      seek-open b (k ++ (47 ∷ u)) rs l p
      ∙ ap (λ z. seek (z.0 - 1) z.1 (k ++ (47 ∷ u))) (param_step-cut (step 256 rs) ((b ∷ k) ++ (47 ∷ u)) ((b ∷ k) ++ (47 ∷ [])) cut lon)
      ∙ ap (λ z. seek z (with_suffix (47 ∷ []) (step 256 rs)) (k ++ (47 ∷ u))) n
      ∙ seek-drop (length k) (with_suffix (47 ∷ []) (step 256 rs)) (k ++ (47 ∷ u))
      ∙ ap (λ z. seek 0 (with_suffix (47 ∷ []) (step 256 rs)) z) (drop-append_seam k (47 ∷ u))

  -- a part at the end of the path
  pub to_end : (rs : RowsOf K) (b : ℕ) (k : List ℕ) → HasNoSlash (b ∷ k) → b < 256 → all_param rs ≡ true → slashy (step 256 rs) ≡ true
      → seek 0 rs (b ∷ k) ≡ own (step 256 rs)
  unfolding seek
  to_end rs b k h l p s =
      let n : suc (length k) - 1 ≡ length k = omega arith in
      seek-open b k rs l p
      ∙ ap (λ z. seek (z.0 - 1) z.1 k) (param_step-end (step 256 rs) (b ∷ k) (segment-clear (b ∷ k) h) (longest-clear (b ∷ k) (step 256 rs) h s) (has_slash-clear (b ∷ k) h))
      ∙ ap (λ z. seek z (step 256 rs) k) n
      ∙ seek-drop (length k) (step 256 rs) k
      ∙ ap (λ z. seek 0 (step 256 rs) z) (drop_all (length k) k (omega arith))
