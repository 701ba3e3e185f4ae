-- What a filter keeps of the first elements of a list, and of the rest.
use Rattle.std.proofs.Common.{◌≡◌, ℕ, ◌+◌, ◌<◌, ◌≤◌, zero, suc, Bool, true, false, cond, List, [], ◌∷◌, ◌++◌, take, drop, Some, refl, ap, ◌∙◌, arith}
use Rattle.std.specs.Prelude.{slice_get}
use Rattle.std.specs.List.{filter}

module _ {X : Type 0} (test : X → Bool) where
  pub filter-parts : (k : ℕ) (es : List X) → filter test es ≡ filter test (take k es) ++ filter test (drop k es)
  filter-parts zero es = refl
  filter-parts (suc k) [] = refl
  filter-parts (suc k) (e ∷ es) = go (test e) (filter-parts k es)
    where
      go : (t : Bool) → filter test es ≡ filter test (take k es) ++ filter test (drop k es) → cond t (e ∷ filter test es) (filter test es) ≡ cond t (e ∷ filter test (take k es)) (filter test (take k es)) ++ filter test (drop k es)
      go true ih = ap (λ (xs : List X). e ∷ xs) ih
      go false ih = ih

  pub filter-none : (es : List X) → ((k : ℕ) (e : X) → slice_get es k ≡ Some e → test e ≡ false) → filter test es ≡ []
  filter-none [] h = refl
  filter-none (e ∷ es) h = ap (λ (t : Bool). cond t (e ∷ filter test es) (filter test es)) (h 0 e refl) ∙ filter-none es (λ k x g. h (suc k) x g)

  pub none-take : (n : ℕ) (es : List X) → ((k : ℕ) (e : X) → k < n → slice_get es k ≡ Some e → test e ≡ false) → filter test (take n es) ≡ []
  none-take zero es h = refl
  none-take (suc n) [] h = refl
  none-take (suc n) (e ∷ es) h = ap (λ (t : Bool). cond t (e ∷ filter test (take n es)) (filter test (take n es))) (h 0 e (omega arith) refl) ∙ none-take n es (λ k x b g. h (suc k) x (omega arith) g)

  pub none-drop : (n : ℕ) (es : List X) → ((k : ℕ) (e : X) → n ≤ k → slice_get es k ≡ Some e → test e ≡ false) → filter test (drop n es) ≡ []
  none-drop zero es h = filter-none es (λ k e g. h k e (omega arith) g)
  none-drop (suc n) [] h = refl
  none-drop (suc n) (e ∷ es) h = none-drop n es (λ k x b g. h (suc k) x (omega arith) g)

  filter-next : (k : ℕ) (es : List X) (e : X) → slice_get es k ≡ Some e → filter test (take (suc k) es) ≡ filter test (take k es) ++ cond (test e) (e ∷ []) []
  filter-next k [] e g = cc
  filter-next zero (x ∷ es) e g = let f : x ≡ e = cc in ap (λ (y : X). cond (test y) (y ∷ []) []) f
  filter-next (suc k) (x ∷ es) e g = go (test x) (filter-next k es e g)
    where
      go : (t : Bool) → filter test (take (suc k) es) ≡ filter test (take k es) ++ cond (test e) (e ∷ []) []
          → cond t (x ∷ filter test (take (suc k) es)) (filter test (take (suc k) es)) ≡ cond t (x ∷ filter test (take k es)) (filter test (take k es)) ++ cond (test e) (e ∷ []) []
      go true ih = ap (λ (xs : List X). x ∷ xs) ih
      go false ih = ih

  pub filter-more : (k : ℕ) (es : List X) (e : X) → slice_get es k ≡ Some e → filter test (take (k + 1) es) ≡ filter test (take k es) ++ cond (test e) (e ∷ []) []
  filter-more k es e g = let n : k + 1 ≡ suc k = omega arith in ap (λ (m : ℕ). filter test (take m es)) n ∙ filter-next k es e g
