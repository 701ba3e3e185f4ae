-- The rows of kids by the names of the kids.
use Rattle.std.proofs.Common.{◌≡◌, ℕ, ◌<◌, Bool, true, false, cond, List, [], ◌∷◌, ◌++◌, map, Option, Some, None, refl, sym, ◌∙◌, ap, subst, Ordering}
use Rattle.std.specs.Option.{option_map_or}
use Rattle.std.specs.Ordering.{is_lt, nat_cmp}
use Rattle.std.specs.Cmp.Lexicographic.{slice_cmp}
use Rattle.std.specs.Str.{bytes_eq}
use Rattle.std.proofs.lemmas.List.{append-nil}
use Rattle.std.proofs.lemmas.Slice.Eq.{bytes_eq-Decides}
use Rattle.std.proofs.lemmas.Cmp.{nat_list_cmp_total, tied_itself}
use Rattle.inode_tree.specs.Listing.{children}
use Rattle.inode_tree.specs.Rows.{Entry}
use Rattle.frozen_nodes.specs.Forest.{AllNamedAfter, AreBelow, AreNamedInOrder, FrozenNode, Subtree, child_at, kid_named, kid_rows, node_at, under}
use Rattle.frozen_nodes.proofs.Steps.{AllDeep, children-append, deep-append, deep-under, inside, inside-append, inside-under, none-deeper}

not-itself : (x : List ℕ) → is_lt (slice_cmp nat_cmp x x) ≡ true → ⊥
not-itself x h = let e : slice_cmp nat_cmp x x ≡ Ordering.Equal = tied_itself nat_list_cmp_total x in let f : false ≡ true = sym (ap is_lt e) ∙ h in cc

-- a name that comes before another is not the same
pub differ : (x y : List ℕ) → is_lt (slice_cmp nat_cmp x y) ≡ true → bytes_eq x y ≡ false
differ x y h = go (bytes_eq x y) refl
  where
    go : (t : Bool) → bytes_eq x y ≡ t → t ≡ false
    go false e = refl
    go true e = absurd (not-itself y (subst (λ (z : List ℕ). is_lt (slice_cmp nat_cmp z y) ≡ true) ((bytes_eq-Decides x y).0 e) h))

differ-turned : (x y : List ℕ) → is_lt (slice_cmp nat_cmp x y) ≡ true → bytes_eq y x ≡ false
differ-turned x y h = go (bytes_eq y x) refl
  where
    go : (t : Bool) → bytes_eq y x ≡ t → t ≡ false
    go false e = refl
    go true e = absurd (not-itself x (subst (λ (z : List ℕ). is_lt (slice_cmp nat_cmp x z) ≡ true) ((bytes_eq-Decides y x).0 e) h))

-- a name that comes before those of all kids is that of none
pub none-named : (ns : List FrozenNode) (ks : List ℕ) (x : List ℕ) → AllNamedAfter ns x ks → kid_named ns ks x ≡ None
none-named ns [] x a = refl
none-named ns (k ∷ ks) x a = ap (λ (t : Bool). cond t (Some k) (kid_named ns ks x)) (differ-turned x (node_at ns k).name a.0) ∙ none-named ns ks x a.1

-- a kid that is found is one of the kids
pub kid-below : (ns : List FrozenNode) (n : ℕ) (ks : List ℕ) (x : List ℕ) (k : ℕ) → AreBelow n ks → kid_named ns ks x ≡ Some k → k < n
kid-below ns n [] x k b h = cc
kid-below ns n (j ∷ ks) x k b h = go (bytes_eq (node_at ns j).name x) (kid-below ns n ks x k b.1) h
  where
    go : (t : Bool) → (kid_named ns ks x ≡ Some k → k < n) → cond t (Some j) (kid_named ns ks x) ≡ Some k → k < n
    go true further e = let same : j ≡ k = cc in subst (λ (i : ℕ). i < n) same b.0
    go false further e = further e

module _ (ns : List FrozenNode) (at : ℕ → Subtree) (named : (k : ℕ) → (at k).name ≡ (node_at ns k).name) where
  -- the rows below a name are those of the kid with the name
  pub inside-kids : (x : List ℕ) (ks : List ℕ) → AreNamedInOrder ns ks → inside x (kid_rows at ks) ≡ option_map_or (λ k. (at k).rows) (kid_named ns ks x) []
  inside-kids x [] o = refl
  inside-kids x (k ∷ ks) o =
      inside-append x (map (under (at k).name) (at k).rows) (kid_rows at ks)
      ∙ ap (λ (es : List Entry). es ++ inside x (kid_rows at ks)) (inside-under x (at k).name (at k).rows)
      ∙ ap (λ (m : List ℕ). cond (bytes_eq m x) (at k).rows [] ++ inside x (kid_rows at ks)) (named k)
      ∙ go (bytes_eq (node_at ns k).name x) refl (inside-kids x ks o.1)
    where
      go : (t : Bool) → bytes_eq (node_at ns k).name x ≡ t → inside x (kid_rows at ks) ≡ option_map_or (λ j. (at j).rows) (kid_named ns ks x) []
          → cond t (at k).rows [] ++ inside x (kid_rows at ks) ≡ option_map_or (λ j. (at j).rows) (cond t (Some k) (kid_named ns ks x)) []
      go false h ih = ih
      go true h ih =
          let same : (node_at ns k).name ≡ x = (bytes_eq-Decides (node_at ns k).name x).0 h in
          let none : kid_named ns ks x ≡ None = none-named ns ks x (subst (λ (y : List ℕ). AllNamedAfter ns y ks) same o.0) in
          ap (λ (es : List Entry). (at k).rows ++ es) (ih ∙ ap (λ (p : Option ℕ). option_map_or (λ j. (at j).rows) p []) none) ∙ append-nil (at k).rows

  pub deep-kids : (ks : List ℕ) → AllDeep (kid_rows at ks)
  deep-kids [] = tt
  deep-kids (k ∷ ks) = deep-append (map (under (at k).name) (at k).rows) (kid_rows at ks) (deep-under (at k).name (at k).rows) (deep-kids ks)

-- the children of a directory are its kids
pub children-kids : (ns : List FrozenNode) (at : ℕ → Subtree) (n : ℕ) (ks : List ℕ) → ((k : ℕ) → (at k).name ≡ (node_at ns k).name)
    → ((k : ℕ) → k < n → (es : List Entry) × AllDeep es × ((at k).rows ≡ record { path = []; row = (node_at ns k).row } ∷ es)) → AreBelow n ks
    → children (kid_rows at ks) [] ≡ map (child_at ns) ks
children-kids ns at n [] named own b = refl
children-kids ns at n (k ∷ ks) named own b =
    children-append [] (map (under (at k).name) (at k).rows) (kid_rows at ks)
    ∙ (λ i. one i ++ children-kids ns at n ks named own b.1 i)
  where
    one : children (map (under (at k).name) (at k).rows) [] ≡ child_at ns k ∷ []
    one =
        let w = own k b.0 in
        (λ i. children (map (under (named k i)) (w.2 i)) [])
        ∙ (λ i. child_at ns k ∷ none-deeper (node_at ns k).name w.0 w.1 i)
