-- A forest with one more node.
use Rattle.std.proofs.Common.{◌≡◌, ℕ, ◌<◌, ◌≤◌, zero, suc, List, [], ◌∷◌, ◌++◌, length, refl, sym, ◌∙◌, ap, subst, arith, length-append, inl, inr}
use Rattle.std.specs.Ordering.{is_lt, nat_cmp}
use Rattle.std.specs.Cmp.Lexicographic.{slice_cmp}
use Rattle.std.proofs.lemmas.Bool.{cases_lt}
use Rattle.std.proofs.lemmas.List.{get_or_push}
use Rattle.name_calls.specs.Paths.{is_component}
use Rattle.frozen_nodes.proofs.Subtrees.{rows-stay}
use Rattle.frozen_nodes.specs.Forest.{AllNamedAfter, AreBelow, AreKids, AreNamedInOrder, FrozenNode, HaveNames, IsForest, KeepsNodes, no_node, node_at}

pub kept-at : (ns : List FrozenNode) (x : FrozenNode) (k : ℕ) → k < length ns → node_at (ns ++ x ∷ []) k ≡ node_at ns k
kept-at [] x k lt = absurd (omega arith)
kept-at (n ∷ ns) x zero lt = refl
kept-at (n ∷ ns) x (suc k) lt = kept-at ns x k (omega arith)

past-at : (ns : List FrozenNode) (x : FrozenNode) (k : ℕ) → length ns < k → node_at (ns ++ x ∷ []) k ≡ no_node
past-at [] x zero lt = absurd (omega arith)
past-at [] x (suc k) lt = refl
past-at (n ∷ ns) x zero lt = absurd (omega arith)
past-at (n ∷ ns) x (suc k) lt = past-at ns x k (omega arith)

module _ (ns : List FrozenNode) (x : FrozenNode) (n : ℕ) (le : n ≤ length ns) where
  after-kept : (name : List ℕ) (ks : List ℕ) → AreBelow n ks → AllNamedAfter ns name ks → AllNamedAfter (ns ++ x ∷ []) name ks
  after-kept name [] b a = tt
  after-kept name (k ∷ ks) b a = (ap (λ (m : FrozenNode). is_lt (slice_cmp nat_cmp name m.name)) (kept-at ns x k (let w = b.0 in omega arith)) ∙ a.0, after-kept name ks b.1 a.1)

  order-kept : (ks : List ℕ) → AreBelow n ks → AreNamedInOrder ns ks → AreNamedInOrder (ns ++ x ∷ []) ks
  order-kept [] b o = tt
  order-kept (k ∷ ks) b o = (subst (λ (m : FrozenNode). AllNamedAfter (ns ++ x ∷ []) m.name ks) (sym (kept-at ns x k (let w = b.0 in omega arith))) (after-kept (node_at ns k).name ks b.1 o.0), order-kept ks b.1 o.1)

  names-kept : (ks : List ℕ) → AreBelow n ks → HaveNames ns ks → HaveNames (ns ++ x ∷ []) ks
  names-kept [] b h = tt
  names-kept (k ∷ ks) b h = (ap (λ (m : FrozenNode). is_component m.name) (kept-at ns x k (let w = b.0 in omega arith)) ∙ h.0, names-kept ks b.1 h.1)

  pub kids-kept : (ks : List ℕ) → AreKids ns n ks → AreKids (ns ++ x ∷ []) n ks
  kids-kept ks a = record { below = a.below; order = order-kept ks a.below a.order; ruled = names-kept ks a.below a.ruled }

pub no-kids : (ns : List FrozenNode) (n : ℕ) → AreKids ns n []
no-kids ns n = record { below = tt; order = tt; ruled = tt }

pub forest-grown : (ns : List FrozenNode) (x : FrozenNode) → IsForest ns → AreKids ns (length ns) x.kids → IsForest (ns ++ x ∷ [])
forest-grown ns x forest kids n = elim (cases_lt n (length ns)) [
  | inl early ↦ subst (λ (m : FrozenNode). AreKids (ns ++ x ∷ []) n m.kids) (sym (kept-at ns x n early)) (kids-kept ns x n (omega arith) (node_at ns n).kids (forest n))
  | inr late ↦ elim (cases_lt (length ns) n) [
    | inl past ↦ subst (λ (m : FrozenNode). AreKids (ns ++ x ∷ []) n m.kids) (sym (past-at ns x n past)) (no-kids (ns ++ x ∷ []) n)
    | inr upto ↦
        let same : length ns ≡ n = omega arith in
        subst (λ (m : FrozenNode). AreKids (ns ++ x ∷ []) n m.kids) (sym (get_or_push ns x no_node n same))
        (subst (λ (m : ℕ). AreKids (ns ++ x ∷ []) m x.kids) same (kids-kept ns x (length ns) (omega arith) x.kids kids))
  ]
]

pub keeps-itself : (ns : List FrozenNode) → KeepsNodes ns ns
keeps-itself ns = record { most = omega arith; nodes = λ n lt. refl; rows = λ n lt. refl }

pub keeps-grown : (ns : List FrozenNode) (x : FrozenNode) → KeepsNodes ns (ns ++ x ∷ [])
keeps-grown ns x = record { most = omega (arith, length-append ns (x ∷ [])); nodes = kept-at ns x; rows = rows-stay ns x }

-- the new node
pub node-new : (ns new : List FrozenNode) (x : FrozenNode) (n : ℕ) → new ≡ ns ++ x ∷ [] → n ≡ length ns → (node_at new n ≡ x) × (n < length new)
node-new ns new x n is at = (
  ap (λ (ms : List FrozenNode). node_at ms n) is ∙ get_or_push ns x no_node n (sym at),
  omega (arith, ap length is, at, length-append ns (x ∷ [])),
)
