-- Nodes that are copied from one forest to another, kids first.
use Rattle.std.proofs.Common.{◌≡◌, ℕ, ◌+◌, ◌<◌, zero, suc, List, [], ◌∷◌, ◌++◌, length, map, Option, Some, None, refl, sym, ◌∙◌, ap, subst, arith, inl, inr}
use Rattle.std.specs.Prelude.{slice_get, slice_set}
use Rattle.std.specs.Ordering.{is_lt, nat_cmp}
use Rattle.std.specs.Cmp.Lexicographic.{slice_cmp}
use Rattle.name_calls.specs.Paths.{is_component}
use Rattle.frozen_nodes.specs.Forest.{AllNamedAfter, AreBelow, AreKids, AreNamedInOrder, FrozenNode, HaveNames, IsForest, KeepsNodes, kid_rows, node_at, rows_from, rows_of_node, subtree_at, subtrees, under}
use Rattle.frozen_nodes.specs.Moves.{AllMoved, AllReached, AreNumbers, IsAmong, IsMoved, IsReached, LeadsTo}
use Rattle.std.proofs.lemmas.Bool.{cases_lt}
use Rattle.frozen_nodes.proofs.Subtrees.{name-is, rows-by-kids}

pub moved-kept : (old ns ms : List FrozenNode) (k m : ℕ) → KeepsNodes ns ms → IsMoved old ns k m → IsMoved old ms k m
moved-kept old ns ms k m keeps is = record {
  within = let a = is.within in let b = keeps.most in omega arith;
  name = ap (λ (n : FrozenNode). n.name) (keeps.nodes m is.within) ∙ is.name;
  rows = keeps.rows m is.within ∙ is.rows;
}

pub all-kept : (old ns ms : List FrozenNode) (ks js : List ℕ) → KeepsNodes ns ms → AllMoved old ns ks js → AllMoved old ms ks js
all-kept old ns ms [] [] keeps a = tt
all-kept old ns ms [] (j ∷ js) keeps a = a
all-kept old ns ms (k ∷ ks) [] keeps a = a
all-kept old ns ms (k ∷ ks) (j ∷ js) keeps a = (moved-kept old ns ms k j keeps a.0, all-kept old ns ms ks js keeps a.1)

pub all-more : (old ns : List FrozenNode) (ks js : List ℕ) (k j : ℕ) → AllMoved old ns ks js → IsMoved old ns k j → AllMoved old ns (ks ++ k ∷ []) (js ++ j ∷ [])
all-more old ns [] [] k j a is = (is, tt)
all-more old ns [] (i ∷ js) k j a is = absurd a
all-more old ns (l ∷ ks) [] k j a is = absurd a
all-more old ns (l ∷ ks) (i ∷ js) k j a is = (a.0, all-more old ns ks js k j a.1 is)

pub numbers-kept : (old ns ms : List FrozenNode) (numbers : List (Option ℕ)) → KeepsNodes ns ms → AreNumbers old ns numbers → AreNumbers old ms numbers
numbers-kept old ns ms numbers keeps a = λ k m is. moved-kept old ns ms k m keeps (a k m is)

-- one number more
pub numbers-set : (old ns : List FrozenNode) (numbers : List (Option ℕ)) (n j : ℕ) → AreNumbers old ns numbers → IsMoved old ns n j → AreNumbers old ns (slice_set numbers n (Some j))
numbers-set old ns numbers n j a is k m found = go numbers n k (λ e. a k m e) found (λ same here. subst (λ (i : ℕ). IsMoved old ns i m) same (subst (λ (i : ℕ). IsMoved old ns n i) here is))
  where
    go : (xs : List (Option ℕ)) (p q : ℕ) → (slice_get xs q ≡ Some (Some m) → IsMoved old ns k m) → slice_get (slice_set xs p (Some j)) q ≡ Some (Some m) → (p ≡ q → j ≡ m → IsMoved old ns k m) → IsMoved old ns k m
    go [] p q old_one f new_one = old_one f
    go (x ∷ xs) zero zero old_one f new_one = let e : j ≡ m = cc in new_one refl e
    go (x ∷ xs) zero (suc q) old_one f new_one = old_one f
    go (x ∷ xs) (suc p) zero old_one f new_one = old_one f
    go (x ∷ xs) (suc p) (suc q) old_one f new_one = go xs p q old_one f (λ e. new_one (ap suc e))

-- the kids of the copy

module _ (old new : List FrozenNode) where
  below-new : (ks js : List ℕ) → AllMoved old new ks js → AreBelow (length new) js
  below-new [] [] a = tt
  below-new [] (j ∷ js) a = absurd a
  below-new (k ∷ ks) [] a = tt
  below-new (k ∷ ks) (j ∷ js) a = (a.0.within, below-new ks js a.1)

  after-new : (name : List ℕ) (ks js : List ℕ) → AllMoved old new ks js → AllNamedAfter old name ks → AllNamedAfter new name js
  after-new name [] [] a o = tt
  after-new name [] (j ∷ js) a o = absurd a
  after-new name (k ∷ ks) [] a o = tt
  after-new name (k ∷ ks) (j ∷ js) a o = (ap (λ (x : List ℕ). is_lt (slice_cmp nat_cmp name x)) a.0.name ∙ o.0, after-new name ks js a.1 o.1)

  order-new : (ks js : List ℕ) → AllMoved old new ks js → AreNamedInOrder old ks → AreNamedInOrder new js
  order-new [] [] a o = tt
  order-new [] (j ∷ js) a o = absurd a
  order-new (k ∷ ks) [] a o = tt
  order-new (k ∷ ks) (j ∷ js) a o = (subst (λ (x : List ℕ). AllNamedAfter new x js) (sym a.0.name) (after-new (node_at old k).name ks js a.1 o.0), order-new ks js a.1 o.1)

  names-new : (ks js : List ℕ) → AllMoved old new ks js → HaveNames old ks → HaveNames new js
  names-new [] [] a h = tt
  names-new [] (j ∷ js) a h = absurd a
  names-new (k ∷ ks) [] a h = tt
  names-new (k ∷ ks) (j ∷ js) a h = (ap is_component a.0.name ∙ h.0, names-new ks js a.1 h.1)

  pub kids-new : (n : ℕ) (ks js : List ℕ) → AreKids old n ks → AllMoved old new ks js → AreKids new (length new) js
  kids-new n ks js kids a = record { below = below-new ks js a; order = order-new ks js a kids.order; ruled = names-new ks js a kids.ruled }

  subtree-moved : (k j : ℕ) → IsMoved old new k j → subtree_at (subtrees new) j ≡ subtree_at (subtrees old) k
  unfolding rows_from
  subtree-moved k j is =
      let name : (subtree_at (subtrees new) j).name ≡ (subtree_at (subtrees old) k).name = name-is new j ∙ is.name ∙ sym (name-is old k) in
      let rows : (subtree_at (subtrees new) j).rows ≡ (subtree_at (subtrees old) k).rows = is.rows in
      λ i. record { name = name i; rows = rows i }

  rows-moved : (ks js : List ℕ) → AllMoved old new ks js → kid_rows (subtree_at (subtrees new)) js ≡ kid_rows (subtree_at (subtrees old)) ks
  rows-moved [] [] a = refl
  rows-moved [] (j ∷ js) a = absurd a
  rows-moved (k ∷ ks) [] a = absurd a
  rows-moved (k ∷ ks) (j ∷ js) a = λ i. map (under (subtree-moved k j a.0 i).name) (subtree-moved k j a.0 i).rows ++ rows-moved ks js a.1 i

  node-rows : (x : FrozenNode) (js : List ℕ) → AllMoved old new x.kids js → rows_of_node new (record { name = x.name; row = x.row; kids = js }) ≡ rows_of_node old x
  unfolding rows_of_node
  node-rows x js a = λ i. record { path = []; row = x.row } ∷ rows-moved x.kids js a i

  -- the copy of a node
  pub moved-new : (all : List FrozenNode) (n number : ℕ) (js : List ℕ) → IsForest old → n < length old → AllMoved old new (node_at old n).kids js → all ≡ new ++ record { name = (node_at old n).name; row = (node_at old n).row; kids = js } ∷ []
      → node_at all number ≡ record { name = (node_at old n).name; row = (node_at old n).row; kids = js } → number < length all → rows_from all number ≡ rows_of_node new (record { name = (node_at old n).name; row = (node_at old n).row; kids = js }) → IsMoved old all n number
  moved-new all n number js forest lt a grown node within rows = record {
    within = within;
    name = ap (λ (x : FrozenNode). x.name) node;
    rows = rows ∙ node-rows (node_at old n) js a ∙ sym (rows-by-kids old forest n lt);
  }

-- no numbers yet

pub none-first : (xs : List (Option ℕ)) → xs ≡ [] → (k m : ℕ) → slice_get xs k ≡ Some (Some m) → ⊥
none-first xs e k m h = let f : slice_get [] k ≡ Some (Some m) = sym (ap (λ (ys : List (Option ℕ)). slice_get ys k) e) ∙ h in go k f
  where
    go : (j : ℕ) → slice_get {X = Option ℕ} [] j ≡ Some (Some m) → ⊥
    go zero f = cc
    go (suc j) f = cc

pub none-more : (xs ys : List (Option ℕ)) → ys ≡ xs ++ None ∷ [] → ((k m : ℕ) → slice_get xs k ≡ Some (Some m) → ⊥) → (k m : ℕ) → slice_get ys k ≡ Some (Some m) → ⊥
none-more xs ys e none k m h = go xs k none (sym (ap (λ (zs : List (Option ℕ)). slice_get zs k) e) ∙ h)
  where
    go : (zs : List (Option ℕ)) (j : ℕ) → ((i l : ℕ) → slice_get zs i ≡ Some (Some l) → ⊥) → slice_get (zs ++ None ∷ []) j ≡ Some (Some m) → ⊥
    go [] zero n f = cc
    go [] (suc zero) n f = cc
    go [] (suc (suc j)) n f = cc
    go (z ∷ zs) zero n f = n 0 m f
    go (z ∷ zs) (suc j) n f = go zs j (λ i l g. n (suc i) l g) f

pub all-length : (old ns : List FrozenNode) (ks js : List ℕ) → AllMoved old ns ks js → length js ≡ length ks
all-length old ns [] [] a = refl
all-length old ns [] (j ∷ js) a = absurd a
all-length old ns (k ∷ ks) [] a = absurd a
all-length old ns (k ∷ ks) (j ∷ js) a = ap suc (all-length old ns ks js a.1)

-- which nodes are reached

among-more : (ks : List ℕ) (j k : ℕ) → IsAmong ks k → IsAmong (ks ++ j ∷ []) k
among-more [] j k a = absurd a
among-more (i ∷ ks) j k (inl e) = inl e
among-more (i ∷ ks) j k (inr a) = inr (among-more ks j k a)

among-last : (ks : List ℕ) (j k : ℕ) → IsAmong (j ∷ []) k → IsAmong (ks ++ j ∷ []) k
among-last [] j k a = a
among-last (i ∷ ks) j k a = inr (among-last ks j k a)

leads-kept : (ns ms : List FrozenNode) (n m : ℕ) (ks : List ℕ) → KeepsNodes ns ms → LeadsTo ns n ks m → LeadsTo ms n ks m
leads-kept ns ms n m [] keeps l = l
leads-kept ns ms n m (k ∷ ks) keeps l = (
  let a = l.0 in let b = keeps.most in omega arith,
  subst (λ (x : FrozenNode). IsAmong x.kids k) (sym (keeps.nodes n l.0)) l.1,
  leads-kept ns ms k m ks keeps l.2,
)

reached-kept : (ns ms : List FrozenNode) (roots : List ℕ) (n : ℕ) → KeepsNodes ns ms → IsReached ns roots n → IsReached ms roots n
reached-kept ns ms roots n keeps r = record { root = r.root; among = r.among; steps = r.steps; leads = leads-kept ns ms r.root n r.steps keeps r.leads }

-- one root more
pub reached-more : (first : ℕ) (ns ms : List FrozenNode) (roots : List ℕ) (j : ℕ) → KeepsNodes ns ms → AllReached first ns roots → AllReached (length ns) ms (j ∷ []) → AllReached first ms (roots ++ j ∷ [])
reached-more first ns ms roots j keeps old new n le lt = elim (cases_lt n (length ns)) [
  | inl early ↦
      let r = reached-kept ns ms roots n keeps (old n le early) in
      record { root = r.root; among = among-more roots j r.root r.among; steps = r.steps; leads = r.leads }
  | inr late ↦ let r = new n late lt in record { root = r.root; among = among-last roots j r.root r.among; steps = r.steps; leads = r.leads }
]

-- what the kids of a new node reach, and the node itself
pub reached-node : (first : ℕ) (ns ms : List FrozenNode) (roots : List ℕ) (number : ℕ) → KeepsNodes ns ms → AllReached first ns roots → length ms ≡ length ns + 1 → number ≡ length ns → (node_at ms number).kids ≡ roots → AllReached first ms (number ∷ [])
reached-node first ns ms roots number keeps old one at kids n le lt = elim (cases_lt n (length ns)) [
  | inl early ↦
      let r = reached-kept ns ms roots n keeps (old n le early) in
      record { root = number; among = inl refl; steps = r.root ∷ r.steps; leads = (omega arith, subst (λ (ks : List ℕ). IsAmong ks r.root) (sym kids) r.among, r.leads) }
  | inr late ↦ record { root = number; among = inl refl; steps = []; leads = omega arith }
]

pub reached-none : (ns : List FrozenNode) (roots : List ℕ) → AllReached (length ns) ns roots
reached-none ns roots n le lt = absurd (omega arith)
