-- When nodes are removed, each node that is left keeps its rows under its new number.
use Rattle.std.proofs.Common.{◌≡◌, ℕ, zero, suc, ◌+◌, ◌<◌, ◌≤◌, Bool, true, false, List, [], ◌∷◌, ◌++◌, length, map, refl, sym, ◌∙◌, ap, arith, inl, inr}
use Rattle.std.specs.Prelude.{if◌then◌else◌}
use Rattle.std.specs.List.{AllByRecursion}
use Rattle.std.proofs.lemmas.Bool.{cases_lt}
use Rattle.frozen_nodes.specs.Forest.{FrozenNode, Subtree, kid_rows, rows_from, subtree_at, subtree_of, subtrees_after, under}
use Rattle.frozen_nodes.specs.Kept.{AreKidsMarked, IsKidKept, kept, kept_from, new_number, renumbered}
use Rattle.frozen_nodes.proofs.Subtrees.{at-last, at-push, longer}

module _ (mark : ℕ → Bool) where
  step_true : (k : ℕ) → mark k ≡ true → new_number mark (suc k) ≡ suc (new_number mark k)
  step_true k is = ap (λ (b : Bool). if b then suc (new_number mark k) else new_number mark k) is

  step_false : (k : ℕ) → mark k ≡ false → new_number mark (suc k) ≡ new_number mark k
  step_false k is = ap (λ (b : Bool). if b then suc (new_number mark k) else new_number mark k) is

  rises : (k : ℕ) → new_number mark k ≤ new_number mark (suc k)
  rises k = go (mark k) refl
    where
      go : (b : Bool) → mark k ≡ b → new_number mark k ≤ new_number mark (suc k)
      go true is = omega (arith, step_true k is)
      go false is = omega (arith, step_false k is)

  -- a marked node's new number is below that of any later place
  pub number-before : (i k : ℕ) → k < i → mark k ≡ true → new_number mark k < new_number mark i
  number-before zero k lt is = absurd (omega arith)
  number-before (suc i) k lt is = elim (cases_lt k i) [
    | inl early ↦ omega (arith, number-before i k early is, rises i)
    | inr late ↦
        let same : k ≡ i = omega arith in
        let now : mark i ≡ true = ap mark (sym same) ∙ is in
        let equal : new_number mark k ≡ new_number mark i = ap (new_number mark) same in
        omega (arith, step_true i now, equal)
  ]

  kids_same : (i : ℕ) (done slid : List Subtree) → ((k : ℕ) → k < i → mark k ≡ true → subtree_at slid (new_number mark k) ≡ subtree_at done k) → (ks : List ℕ) → AllByRecursion (IsKidKept mark i) ks
      → kid_rows (subtree_at slid) (map (new_number mark) ks) ≡ kid_rows (subtree_at done) ks
  kids_same i done slid same [] all = refl
  kids_same i done slid same (k ∷ ks) all = λ j. map (under (same k all.0.below all.0.marked j).name) (same k all.0.below all.0.marked j).rows ++ kids_same i done slid same ks all.1 j

  slide : (ns : List FrozenNode) (i : ℕ) (done slid : List Subtree) → length done ≡ i → length slid ≡ new_number mark i → ((k : ℕ) → k < i → mark k ≡ true → subtree_at slid (new_number mark k) ≡ subtree_at done k) → AreKidsMarked mark i ns
      → (k : ℕ) → k < i + length ns → mark k ≡ true → subtree_at (subtrees_after slid (kept_from mark i ns)) (new_number mark k) ≡ subtree_at (subtrees_after done ns) k
  slide [] i done slid long short same closed k lt is = same k (omega arith) is
  slide (n ∷ ns) i done slid long short same closed k lt is = go (slide ns (suc i)) (mark i) refl
    where
      go : ((d s : List Subtree) → length d ≡ suc i → length s ≡ new_number mark (suc i) → ((j : ℕ) → j < suc i → mark j ≡ true → subtree_at s (new_number mark j) ≡ subtree_at d j) → AreKidsMarked mark (suc i) ns
          → (j : ℕ) → j < suc i + length ns → mark j ≡ true → subtree_at (subtrees_after s (kept_from mark (suc i) ns)) (new_number mark j) ≡ subtree_at (subtrees_after d ns) j)
          → (b : Bool) → mark i ≡ b → subtree_at (subtrees_after slid (if b then renumbered mark n ∷ kept_from mark (suc i) ns else kept_from mark (suc i) ns)) (new_number mark k) ≡ subtree_at (subtrees_after (done ++ subtree_of done n ∷ []) ns) k
      go further true now =
          further (done ++ subtree_of done n ∷ []) (slid ++ subtree_of slid (renumbered mark n) ∷ [])
          (omega (arith, long, longer done (subtree_of done n)))
          (omega (arith, short, longer slid (subtree_of slid (renumbered mark n)), step_true i now))
          each closed.1 k (omega arith) is
        where
          equal : subtree_of slid (renumbered mark n) ≡ subtree_of done n
          equal = λ j. record { name = n.name; rows = record { path = []; row = n.row } ∷ kids_same i done slid same n.kids (closed.0 now) j }

          each : (j : ℕ) → j < suc i → mark j ≡ true → subtree_at (slid ++ subtree_of slid (renumbered mark n) ∷ []) (new_number mark j) ≡ subtree_at (done ++ subtree_of done n ∷ []) j
          each j less marked = elim (cases_lt j i) [
            | inl early ↦
                at-push slid (subtree_of slid (renumbered mark n)) (new_number mark j) (omega (arith, number-before i j early marked, short))
                ∙ same j early marked ∙ sym (at-push done (subtree_of done n) j (omega (arith, long)))
            | inr late ↦
                let at : j ≡ i = omega arith in
                let at_count : length slid ≡ new_number mark j = short ∙ sym (ap (new_number mark) at) in
                at-last slid (subtree_of slid (renumbered mark n)) (new_number mark j) at_count ∙ equal ∙ sym (at-last done (subtree_of done n) j (omega (arith, long, at)))
          ]
      go further false now =
          further (done ++ subtree_of done n ∷ []) slid
          (omega (arith, long, longer done (subtree_of done n)))
          (omega (arith, short, step_false i now))
          each closed.1 k (omega arith) is
        where
          each : (j : ℕ) → j < suc i → mark j ≡ true → subtree_at slid (new_number mark j) ≡ subtree_at (done ++ subtree_of done n ∷ []) j
          each j less marked = elim (cases_lt j i) [
            | inl early ↦ same j early marked ∙ sym (at-push done (subtree_of done n) j (omega (arith, long)))
            | inr late ↦ let at : j ≡ i = omega arith in let here : mark i ≡ true = ap mark (sym at) ∙ marked in absurd (cc (here, now))
          ]

  pub rows-slid : (ns : List FrozenNode) → AreKidsMarked mark 0 ns → (k : ℕ) → k < length ns → mark k ≡ true → rows_from (kept mark ns) (new_number mark k) ≡ rows_from ns k
  unfolding rows_from
  rows-slid ns closed k lt is = ap (λ (s : Subtree). s.rows) (slide ns 0 [] [] refl refl (λ j less marked. absurd (omega arith)) closed k (omega arith) is)
