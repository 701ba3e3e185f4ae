-- Nodes near a path.
use Rattle.std.proofs.Common.{◌≡◌, ℕ, ◌-◌, ◌≤◌, Option, zero, suc, List, [], ◌∷◌, ◌++◌, length, take, refl, sym, ap, ◌∙◌, arith, inl, inr, length-append, length-take-le, Ordering}
use Rattle.std.specs.declared.cmp.Ordering.TheVariants.{Equal}
use Rattle.std.specs.Ordering.{ordering_then}
use Rattle.std.proofs.lemmas.Bool.{cases_eq}
use Rattle.std.proofs.lemmas.Cmp.{nat_list_cmp_total, tied_itself}
use Rattle.inode_tree.specs.declared.rows.Node.{Node}
use Rattle.inode_tree.specs.Arena.{IsLive, IsNear, IsTree, cmp_front, node_at, path_of}
use Rattle.inode_tree.proofs.Ups.{path-root}
use Rattle.inode_tree.proofs.ZoneLemmas.{below-live}

-- two prefixes of a path agree as far as both go
pub front-takes : (a b : ℕ) (p : List (List ℕ)) → cmp_front (take a p) (take b p) ≡ Equal
front-takes zero b p = refl
front-takes (suc a) b [] = refl
front-takes (suc a) zero (x ∷ p) = refl
front-takes (suc a) (suc b) (x ∷ p) = ap (λ (o : Ordering). ordering_then o (cmp_front (take a p) (take b p))) (tied_itself nat_list_cmp_total x) ∙ front-takes a b p

-- so a node at a prefix of a path agrees with each prefix
pub front-near : (ns : List Node) (n d u : ℕ) (p : List (List ℕ)) → path_of ns n ≡ take d p → cmp_front (path_of ns n) (take u p) ≡ Equal
front-near ns n d u p e = ap (λ (q : List (List ℕ)). cmp_front q (take u p)) e ∙ front-takes d u p

pub length-near : (ns : List Node) (n d : ℕ) (p : List (List ℕ)) → path_of ns n ≡ take d p → d ≤ length p → length (path_of ns n) ≡ d
length-near ns n d p e h = ap length e ∙ length-take-le d p h

pub near-root : (ns : List Node) (p : List (List ℕ)) → IsNear ns p (record { node = 0; above = 0; depth = 0 })
near-root ns p = record { path = path-root ns; parent = path-root ns; depth = omega arith }

-- all names of a prefix of a path but the last
front-of : (d : ℕ) (p q : List (List ℕ)) (x : List ℕ) → take d p ≡ q ++ x ∷ [] → q ≡ take (length q) p
front-of d p [] x e = refl
front-of zero p (y ∷ q) x e = cc
front-of (suc d) [] (y ∷ q) x e = cc
front-of (suc d) (z ∷ p) (y ∷ q) x e =
    let f : y ≡ z = cc in
    let g : take d p ≡ q ++ x ∷ [] = cc in
    let h : q ≡ take (length q) p = front-of d p q x g in
    λ i. f i ∷ h i

-- the node above one at a prefix of a path
pub near-above : (ns : List Node) (order : List ℕ) (ids : ℕ → Option ℕ) (n d : ℕ) (p : List (List ℕ)) → IsTree ns order ids → IsLive order n → path_of ns n ≡ take d p → d ≤ length p → path_of ns (node_at ns n).parent ≡ take (d - 1) p
near-above ns order ids n d p t w e h = elim (cases_eq n 0) [
  | inl z ↦ (
      let none : path_of ns n ≡ [] = ap (path_of ns) z ∙ path-root ns in
      let short : d ≡ 0 = sym (length-near ns n d p e h) ∙ ap length none in
      let fewer : d - 1 ≡ 0 = omega arith in
      ap (λ (m : ℕ). path_of ns (node_at ns m).parent) z ∙ ap (path_of ns) t.root_in ∙ path-root ns ∙ ap (λ (k : ℕ). take k p) (sym fewer))
  | inr z ↦ (
      let step = t.linked.step n (below-live ns order ids n t w) z in
      let same = front-of d p (path_of ns (node_at ns n).parent) (node_at ns n).name (sym e ∙ step) in
      let long = ap length step ∙ length-append (path_of ns (node_at ns n).parent) ((node_at ns n).name ∷ []) in
      let fewer : length (path_of ns (node_at ns n).parent) ≡ d - 1 = let l = length-near ns n d p e h in omega arith in
      same ∙ ap (λ (k : ℕ). take k p) fewer)
]
