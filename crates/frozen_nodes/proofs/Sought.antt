-- Kids in the order of their names: where a name is among them.
use Rattle.std.proofs.Common.{◌≡◌, ℕ, ◌<◌, ◌≤◌, zero, suc, Bool, true, false, cond, List, [], ◌∷◌, length, get_or, Some, None, refl, ◌∙◌, ap, arith, Ordering}
use Rattle.std.specs.declared.cmp.Ordering.TheVariants.{Less, Equal, Greater}
use Rattle.std.specs.List.Sorted.{IsPartitionPoint, IsPartitionedBy}
use Rattle.std.specs.Ordering.{is_eq, is_lt, nat_cmp, ordering_reverse}
use Rattle.std.specs.Cmp.Lexicographic.{slice_cmp}
use Rattle.std.specs.Str.{bytes_eq}
use Rattle.std.proofs.lemmas.Cmp.{nat_list_cmp_total}
use Rattle.std.proofs.lemmas.Map.Text.{is_eq-slice_cmp}
use Rattle.frozen_nodes.specs.Forest.{AllNamedAfter, AreNamedInOrder, FrozenNode, kid_named, node_at}
use Rattle.frozen_nodes.proofs.Kids.{differ, none-named}

lt-less : (o : Ordering) → is_lt o ≡ true → o ≡ Less
lt-less Less h = refl
lt-less Equal h = cc
lt-less Greater h = cc

gt-reversed : (o : Ordering) → is_lt o ≡ false → is_eq o ≡ false → is_lt (ordering_reverse o) ≡ true
gt-reversed Less h k = cc
gt-reversed Equal h k = cc
gt-reversed Greater h k = refl

abbrev pub is_less : List ℕ → List ℕ → Bool
is_less x y = is_lt (slice_cmp nat_cmp x y)

less-trans : (x y z : List ℕ) → is_less x y ≡ true → is_less y z ≡ true → is_less x z ≡ true
less-trans x y z h k = ap is_lt (nat_list_cmp_total.trans x y z (lt-less (slice_cmp nat_cmp x y) h) (lt-less (slice_cmp nat_cmp y z) k))

other-less : (x y : List ℕ) → is_less x y ≡ false → bytes_eq x y ≡ false → is_less y x ≡ true
other-less x y h k = ap is_lt (nat_list_cmp_total.antisymm y x) ∙ gt-reversed (slice_cmp nat_cmp x y) h (is_eq-slice_cmp x y ∙ k)

-- the name of a node comes before a name
abbrev pub comes_first : List FrozenNode → List ℕ → ℕ → Bool
comes_first ns x k = is_lt (slice_cmp nat_cmp (node_at ns k).name x)

module _ (ns : List FrozenNode) where
  after-at : (x : List ℕ) (ks : List ℕ) (j d : ℕ) → AllNamedAfter ns x ks → j < length ks → is_less x (node_at ns (get_or ks j d)).name ≡ true
  after-at x [] j d a h = absurd (omega arith)
  after-at x (k ∷ ks) zero d a h = a.0
  after-at x (k ∷ ks) (suc j) d a h = after-at x ks j d a.1 (omega arith)

  -- the kids whose names come before a name are the first ones
  pub order-parted : (x : List ℕ) (ks : List ℕ) → AreNamedInOrder ns ks → IsPartitionedBy (comes_first ns x) ks
  order-parted x [] r i j d le h b = absurd (omega arith)
  order-parted x (k ∷ ks) r zero zero d le h b = b
  order-parted x (k ∷ ks) r zero (suc j) d le h b = less-trans (node_at ns k).name (node_at ns (get_or ks j d)).name x (after-at (node_at ns k).name ks j d r.0 (omega arith)) b
  order-parted x (k ∷ ks) r (suc i) zero d le h b = absurd (omega arith)
  order-parted x (k ∷ ks) r (suc i) (suc j) d le h b = order-parted x ks r.1 i j d (omega arith) (omega arith) b

  abbrev pub Parted : List ℕ → List ℕ → ℕ → Type 0
  Parted x ks i = IsPartitionPoint (λ k. is_lt (slice_cmp nat_cmp (node_at ns k).name x) ≡ true) (λ k. is_lt (slice_cmp nat_cmp (node_at ns k).name x) ≡ false) ks i

  parted-rest : (x : List ℕ) (k : ℕ) (ks : List ℕ) (i : ℕ) → Parted x (k ∷ ks) (suc i) → Parted x ks i
  parted-rest x k ks i h = (λ j d low high. h.0 (suc j) d (omega arith) (omega arith), λ j d low high. h.1 (suc j) d (omega arith) (omega arith))

  -- no kid past the last one has the name
  pub sought-past : (x : List ℕ) (ks : List ℕ) (i : ℕ) → length ks ≤ i → Parted x ks i → kid_named ns ks x ≡ None
  sought-past x [] i b h = refl
  sought-past x (k ∷ ks) zero b h = absurd (omega arith)
  sought-past x (k ∷ ks) (suc i) b h =
      ap (λ (t : Bool). cond t (Some k) (kid_named ns ks x)) (differ (node_at ns k).name x (h.0 0 k (omega arith) (omega arith)))
      ∙ sought-past x ks i (omega arith) (parted-rest x k ks i h)

  after-trans : (x y : List ℕ) (ks : List ℕ) → is_less x y ≡ true → AllNamedAfter ns y ks → AllNamedAfter ns x ks
  after-trans x y [] b a = tt
  after-trans x y (k ∷ ks) b a = (less-trans x y (node_at ns k).name b a.0, after-trans x y ks b a.1)

  -- the kid that has the name is the one at the place, if it has it
  pub sought-here : (x : List ℕ) (ks : List ℕ) (i d : ℕ) → AreNamedInOrder ns ks → i < length ks → Parted x ks i
      → kid_named ns ks x ≡ cond (bytes_eq (node_at ns (get_or ks i d)).name x) (Some (get_or ks i d)) None
  sought-here x [] i d r b h = absurd (omega arith)
  sought-here x (k ∷ ks) zero d r b h = go (bytes_eq (node_at ns k).name x) refl
    where
      go : (t : Bool) → bytes_eq (node_at ns k).name x ≡ t → cond t (Some k) (kid_named ns ks x) ≡ cond t (Some k) None
      go true e = refl
      go false e = none-named ns ks x (after-trans x (node_at ns k).name ks (other-less (node_at ns k).name x (h.1 0 k (omega arith) (omega arith)) e) r.0)
  sought-here x (k ∷ ks) (suc i) d r b h =
      ap (λ (t : Bool). cond t (Some k) (kid_named ns ks x)) (differ (node_at ns k).name x (h.0 0 k (omega arith) (omega arith)))
      ∙ sought-here x ks i d r.1 (omega arith) (parted-rest x k ks i h)
