-- A node without children is written.
use Rattle.std.proofs.Common.{◌≡◌, ℕ, ◌<◌, ◌≤◌, zero, suc, cond, List, [], ◌∷◌, ◌++◌, length, get_or, set, Option, refl, sym, ap, ◌∙◌, subst, arith, inl, inr, length-set, get_or-set_same, get_or-set_other}
use Rattle.std.specs.Prelude.{◌==◌}
use Rattle.std.proofs.lemmas.Bool.{cases_eq}
use Rattle.inode_tree.specs.declared.rows.Node.{Node}
use Rattle.inode_tree.specs.Arena.{AllWithin, IsLeaf, IsLinked, IsLive, IsTree, blank, node_at, path_of, rows_of, up}
use Rattle.inode_tree.proofs.Grows.{path-new}
use Rattle.inode_tree.proofs.Ranks.{within-at}

-- a node below the root without children
pub record IsUnpassed (ns : List Node) (n : ℕ) : Type 0 where
  pub below : n < length ns
  pub deep : n ≡ 0 → ⊥
  pub none : (m : ℕ) → m < length ns → (node_at ns m).parent ≡ n → ⊥

-- the parent of each node is live
pub parent-live : (ns : List Node) (order : List ℕ) (ids : ℕ → Option ℕ) → IsTree ns order ids → (m : ℕ) → m < length ns → IsLive order (node_at ns m).parent
parent-live ns order ids t m h = elim (cases_eq (node_at ns m).parent 0) [
  | inl e ↦ let w = t.rooted in (w.0, w.1, w.2 ∙ sym e)
  | inr a ↦ (
      let w = t.used m h a in
      let v = t.housed w.0 w.1 in
      (v.0, v.1, v.2 ∙ ap (λ (k : ℕ). (node_at ns k).parent) w.2))
]

-- a node that is not live
pub unpassed-free : (ns : List Node) (order : List ℕ) (ids : ℕ → Option ℕ) (n : ℕ) → IsTree ns order ids → n < length ns → ((k : ℕ) → k < length order → get_or order k 0 ≡ n → ⊥) → IsUnpassed ns n
unpassed-free ns order ids n t h apart = record {
  below = h;
  deep = λ e. let w = t.rooted in apart w.0 w.1 (w.2 ∙ sym e);
  none = λ m b e. let w = parent-live ns order ids t m b in apart w.0 w.1 (w.2 ∙ e);
}

-- a live node without live children
pub unpassed-leaf : (ns : List Node) (order : List ℕ) (ids : ℕ → Option ℕ) (at : ℕ) → IsTree ns order ids → IsLeaf ns order at → IsUnpassed ns (get_or order at 0)
unpassed-leaf ns order ids at t l = record {
  below = within-at (length ns) order at t.within l.inside;
  deep = l.deep;
  none = λ m b e.
      let w = t.used m b (λ f. l.deep (sym e ∙ f)) in
      l.none w.0 w.1 (ap (λ (k : ℕ). (node_at ns k).parent) w.2 ∙ e);
}

module _ (ns : List Node) (n : ℕ) (x : Node) (u : IsUnpassed ns n) (l : IsLinked ns) where
  pub written : node_at (set ns n x) n ≡ x
  written = get_or-set_same ns n x blank u.below

  pub unwritten : (m : ℕ) → (m ≡ n → ⊥) → node_at (set ns n x) m ≡ node_at ns m
  unwritten m a = get_or-set_other ns n m x blank a

  up-other : (f m : ℕ) → m < length ns → (m ≡ n → ⊥) → up f (set ns n x) m ≡ up f ns m
  unfolding up
  up-other zero m h a = refl
  up-other (suc f) m h a =
      ap (λ (y : Node). cond (m == 0) [] (up f (set ns n x) y.parent ++ (y.name ∷ []))) (unwritten m a)
      ∙ ap (λ (q : List (List ℕ)). cond (m == 0) [] (q ++ ((node_at ns m).name ∷ []))) (up-other f (node_at ns m).parent (l.below m h) (u.none m h))

  pub path-other : (m : ℕ) → m < length ns → (m ≡ n → ⊥) → path_of (set ns n x) m ≡ path_of ns m
  unfolding path_of
  path-other m h a = up-other 128 m h a

  pub rows-other : (order : List ℕ) → AllWithin (length ns) order → ((k : ℕ) → k < length order → get_or order k 0 ≡ n → ⊥) → rows_of (set ns n x) order ≡ rows_of ns order
  rows-other [] w a = refl
  rows-other (m ∷ order) w a =
      let e : path_of (set ns n x) m ≡ path_of ns m = path-other m w.0 (a 0 (omega arith)) in
      let f : node_at (set ns n x) m ≡ node_at ns m = unwritten m (a 0 (omega arith)) in
      let g : rows_of (set ns n x) order ≡ rows_of ns order = rows-other order w.1 (λ k b. a (suc k) (omega arith)) in
      λ i. record { path = e i; row = (f i).row } ∷ g i

  module _ (within : x.parent < length ns) (apart : x.parent ≡ n → ⊥) (short : length (path_of ns x.parent) ≤ 127) where
    pub path-written : path_of (set ns n x) n ≡ path_of ns x.parent ++ (x.name ∷ [])
    path-written =
        let e : path_of (set ns n x) (node_at (set ns n x) n).parent ≡ path_of ns x.parent = ap (λ (y : Node). path_of (set ns n x) y.parent) written ∙ path-other x.parent within apart in
        path-new (set ns n x) n u.deep (subst (λ (q : List (List ℕ)). length q ≤ 127) (sym e) short)
        ∙ ap (λ (q : List (List ℕ)). q ++ ((node_at (set ns n x) n).name ∷ [])) e
        ∙ ap (λ (y : Node). path_of ns x.parent ++ (y.name ∷ [])) written

    pub linked-written : IsLinked (set ns n x)
    linked-written = record {
      some = let some = l.some in omega (arith, length-set ns n x);
      below = λ m h.
          let b : m < length ns = omega (arith, length-set ns n x) in
          elim (cases_eq m n) [
            | inl e ↦ subst (λ (j : ℕ). (node_at (set ns n x) j).parent < length (set ns n x)) (sym e) (subst (λ (y : Node). y.parent < length (set ns n x)) (sym written) (omega (arith, length-set ns n x)))
            | inr a ↦ subst (λ (y : Node). y.parent < length (set ns n x)) (sym (unwritten m a)) (let c = l.below m b in omega (arith, length-set ns n x))
          ];
      step = λ m h deep.
          let b : m < length ns = omega (arith, length-set ns n x) in
          elim (cases_eq m n) [
            | inl e ↦ subst (λ (j : ℕ). path_of (set ns n x) j ≡ path_of (set ns n x) (node_at (set ns n x) j).parent ++ ((node_at (set ns n x) j).name ∷ [])) (sym e) here
            | inr a ↦ (path-other m b a ∙ l.step m b deep
                ∙ ap (λ (q : List (List ℕ)). q ++ ((node_at ns m).name ∷ [])) (sym (path-other (node_at ns m).parent (l.below m b) (u.none m b)))
                ∙ ap (λ (y : Node). path_of (set ns n x) y.parent ++ (y.name ∷ [])) (sym (unwritten m a)))
          ];
    }
      where
        here : path_of (set ns n x) n ≡ path_of (set ns n x) (node_at (set ns n x) n).parent ++ ((node_at (set ns n x) n).name ∷ [])
        here =
            path-written
            ∙ ap (λ (q : List (List ℕ)). q ++ (x.name ∷ [])) (sym (path-other x.parent within apart))
            ∙ ap (λ (y : Node). path_of (set ns n x) y.parent ++ (y.name ∷ [])) (sym written)
