-- A path from its segments, and its segments from the path.
use Rattle.std.proofs.Common.{◌≡◌, ◌≢◌, ℕ, List, [], ◌∷◌, ◌++◌, Bool, true, false, cond, ◌==◌, refl, sym, ap, ◌∙◌, arith, subst}
use Rattle.std.proofs.lemmas.Bool.Decides.{nat_tests}
use Rattle.path_routes.specs.Shapes.{HasNoSlash, onto, segments}

-- segments joined by slashes
abbrev pub join : List (List ℕ) → List ℕ
join [] = []
join (s ∷ []) = s
join (s ∷ t ∷ rest) = s ++ (47 ∷ join (t ∷ rest))

join-onto : (b : ℕ) (ss : List (List ℕ)) → join (onto b ss) ≡ b ∷ join ss
join-onto b [] = refl
join-onto b (s ∷ []) = refl
join-onto b (s ∷ t ∷ rest) = refl

join-cons : (ss : List (List ℕ)) → ss ≢ [] → join ([] ∷ ss) ≡ 47 ∷ join ss
join-cons [] n = absurd (n refl)
join-cons (t ∷ rest) n = refl

onto-some : (b : ℕ) (ss : List (List ℕ)) → onto b ss ≢ []
onto-some b [] = λ q. cc
onto-some b (s ∷ rest) = λ q. cc

segments-some : (path : List ℕ) → segments path ≢ []
segments-some [] = λ q. cc
segments-some (b ∷ path) = by (b == 47)
  where
    by : (v : Bool) → cond v ([] ∷ segments path) (onto b (segments path)) ≢ []
    by true = λ q. cc
    by false = onto-some b (segments path)

join-segments : (path : List ℕ) → join (segments path) ≡ path
join-segments [] = refl
join-segments (b ∷ path) = by (b == 47) refl (join-segments path)
  where
    by : (v : Bool) → (b == 47) ≡ v → join (segments path) ≡ path → join (cond v ([] ∷ segments path) (onto b (segments path))) ≡ b ∷ path
    by true q ih =
        let same : b ≡ 47 = grind (arith, nat_tests) in
        join-cons (segments path) (segments-some path) ∙ cc
    by false q ih = join-onto b (segments path) ∙ ap (λ z. b ∷ z) ih

abbrev pub AllClear : List (List ℕ) → Type 0
AllClear [] = Unit {0}
AllClear (s ∷ rest) = HasNoSlash s × AllClear rest

clear-onto : (b : ℕ) (ss : List (List ℕ)) → b ≢ 47 → AllClear ss → AllClear (onto b ss)
clear-onto b [] n h = ((n, tt), tt)
clear-onto b (s ∷ rest) n h = ((n, h.0), h.1)

clear-segments : (path : List ℕ) → AllClear (segments path)
clear-segments [] = (tt, tt)
clear-segments (b ∷ path) = by (b == 47) refl (clear-segments path)
  where
    by : (v : Bool) → (b == 47) ≡ v → AllClear (segments path) → AllClear (cond v ([] ∷ segments path) (onto b (segments path)))
    by true q ih = (tt, ih)
    by false q ih =
        let n : b ≢ 47 = λ e. grind (arith, nat_tests) in
        clear-onto b (segments path) n ih

pub segments-end : (k : List ℕ) → HasNoSlash k → segments k ≡ k ∷ []
segments-end [] h = refl
segments-end (b ∷ k) h =
    let n : b ≢ 47 = h.0 in
    let e : (b == 47) ≡ false = grind (arith, nat_tests) in
    rw e (ap (onto b) (segments-end k h.1))

pub segments-cut : (k u : List ℕ) → HasNoSlash k → segments (k ++ (47 ∷ u)) ≡ k ∷ segments u
segments-cut [] u h = refl
segments-cut (b ∷ k) u h =
    let n : b ≢ 47 = h.0 in
    let e : (b == 47) ≡ false = grind (arith, nat_tests) in
    rw e (ap (onto b) (segments-cut k u h.1))

pub path-filled : (path : List ℕ) (ss : List (List ℕ)) → segments path ≡ ss → path ≡ join ss
path-filled path ss e = sym (join-segments path) ∙ ap join e

pub clear-filled : (path : List ℕ) (ss : List (List ℕ)) → segments path ≡ ss → AllClear ss
clear-filled path ss e = subst AllClear e (clear-segments path)
