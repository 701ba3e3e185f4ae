-- What a file may be read as after a crash, if one of its gates may be torn.
use Rattle.std.proofs.Common.{◌≡◌, ◌≢◌, ◌⊎◌, ℕ, ◌==◌, true, false, List, [], ◌∷◌, set, refl, sym, ◌∙◌, ap, subst, arith, inl, inr}
use Rattle.std.specs.List.{list_any}
use Rattle.std.proofs.lemmas.Bool.Decides.{nat_tests}
use Rattle.std.proofs.lemmas.Bool.{cases_eq}
use Rattle.frame_log.specs.FormatTwo.{Always, AreTorn, Content, Holds, IsTorn, log_in, with_ones}

-- one of three offsets
pub one_of_three : (x y z k : ℕ) → list_any (λ g. g == k) (x ∷ y ∷ z ∷ []) ≡ true → (k ≡ x) ⊎ ((k ≡ y) ⊎ (k ≡ z))
one_of_three x y z k is = elim (cases_eq x k) [
  | inl same ↦ inl (sym same)
  | inr no_x ↦ elim (cases_eq y k) [
    | inl same ↦ inr (inl (sym same))
    | inr no_y ↦ elim (cases_eq z k) [
      | inl same ↦ inr (inr (sym same))
      | inr no_z ↦ let none : list_any (λ g. g == k) (x ∷ y ∷ z ∷ []) ≡ false = grind (arith, nat_tests) in absurd (cc (is, none))
    ]
  ]
]

-- a file of which reading a gate as 1 changes nothing
pub always_one : (file : ℕ) (bytes : List ℕ) (c : Content) → ((k : ℕ) → IsTorn file bytes k → set bytes k 1 ≡ bytes) → log_in file bytes ≡ Holds c → Always file (λ x. x ≡ c) bytes
always_one file bytes c stays holds r m = (c, go m.opened m.torn m.reads, refl)
  where
    go : (ks : List ℕ) → AreTorn file ks bytes → log_in file (with_ones ks bytes) ≡ r → r ≡ Holds c
    go [] torn is = sym is ∙ holds
    go (k ∷ ks) torn is =
        let same = stays k torn.0 in
        go ks (subst (AreTorn file ks) same torn.1) (sym (ap (λ (l : List ℕ). log_in file (with_ones ks l)) same) ∙ is)

-- The file with a byte as the gate at an offset. It has one content while that byte is not 1, and another one if it is; reading other
-- gates as 1 changes nothing.
module _ (file : ℕ) (bytes : ℕ → List ℕ) (at : ℕ) (opens : (h : ℕ) → set (bytes h) at 1 ≡ bytes 1) (stays : (h k : ℕ) → IsTorn file (bytes h) k → (k ≡ at) ⊎ (set (bytes h) k 1 ≡ bytes h)) (before after : Content) (shut : (h : ℕ) → h ≢ 1 → log_in file (bytes h) ≡ Holds before) (now : log_in file (bytes 1) ≡ Holds after) where
  pub always_two : (h : ℕ) → Always file (λ x. (x ≡ before) ⊎ (x ≡ after)) (bytes h)
  always_two gate r m = go gate m.opened m.torn m.reads
    where
      go : (h : ℕ) (ks : List ℕ) → AreTorn file ks (bytes h) → log_in file (with_ones ks (bytes h)) ≡ r → (c : Content) × (r ≡ Holds c) × ((c ≡ before) ⊎ (c ≡ after))
      go h [] torn is = elim (cases_eq h 1) [
        | inl one ↦ (after, sym is ∙ ap (λ (x : ℕ). log_in file (bytes x)) one ∙ now, inr refl)
        | inr other ↦ (before, sym is ∙ shut h other, inl refl)
      ]
      go h (k ∷ ks) torn is = elim (stays h k torn.0) [
        | inl here ↦
            let same : set (bytes h) k 1 ≡ bytes 1 = ap (λ (x : ℕ). set (bytes h) x 1) here ∙ opens h in
            go 1 ks (subst (AreTorn file ks) same torn.1) (sym (ap (λ (l : List ℕ). log_in file (with_ones ks l)) same) ∙ is)
        | inr same ↦ go h ks (subst (AreTorn file ks) same torn.1) (sym (ap (λ (l : List ℕ). log_in file (with_ones ks l)) same) ∙ is)
      ]
