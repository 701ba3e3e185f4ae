-- The tree of the root alone.
use Rattle.std.proofs.Common.{◌≡◌, ℕ, ◌<◌, Bool, true, false, cond, [], ◌∷◌, get_or, Option, Some, None, refl, sym, ap, ◌∙◌, subst, arith}
use Rattle.std.specs.Bool.{nat_eq}
use Rattle.std.proofs.lemmas.Bool.Decides.{nat_tests}
use Rattle.inode_tree.specs.declared.rows.Kind.TheVariants.{Dir}
use Rattle.name_calls.specs.Paths.{is_relative}
use Rattle.inode_tree.specs.Rows.{is_dir, root_only}
use Rattle.inode_tree.specs.Arena.{IsFree, IsTree, blank, rows_of, path_of}
use Rattle.inode_tree.proofs.Ups.{path-root}

zero-only : (k : ℕ) → k < 1 → k ≡ 0
zero-only k h = omega arith

pub first-tree : (ids : ℕ → Option ℕ) → ((q : ℕ) → ids q ≡ cond (nat_eq 0 q) (Some 0) None) → IsTree (blank ∷ []) (0 ∷ []) ids
first-tree ids e = record {
  linked = record {
    some = omega arith;
    below = λ m h. subst (λ (j : ℕ). (get_or (blank ∷ []) j blank).parent < 1) (sym (zero-only m h)) (omega arith);
    step = λ m h apart. absurd (apart (zero-only m h));
  };
  within = (omega arith, tt);
  rising = (tt, tt);
  ruled = λ k h. subst (λ (j : ℕ). is_relative (path_of (blank ∷ []) (get_or (0 ∷ []) j 0)) ≡ true) (sym (zero-only k h)) (ap is_relative (path-root (blank ∷ [])));
  root_is = refl;
  root_dir = refl;
  root_in = refl;
  nested = λ k h. subst (λ (j : ℕ). is_dir (get_or (blank ∷ []) (get_or (blank ∷ []) (get_or (0 ∷ []) j 0) blank).parent blank).row.kind ≡ true) (sym (zero-only k h)) refl;
  rooted = (0, omega arith, refl);
  full = omega arith;
  few = omega arith;
  named = λ k h. subst (λ (j : ℕ). ids (get_or (blank ∷ []) (get_or (0 ∷ []) j 0) blank).row.id ≡ Some (get_or (0 ∷ []) j 0)) (sym (zero-only k h)) (e 0);
  stands = λ id n f. go (nat_eq 0 id) id n refl (sym (e id) ∙ f);
  housed = λ k h. (0, omega arith, subst (λ (j : ℕ). 0 ≡ (get_or (blank ∷ []) (get_or (0 ∷ []) j 0) blank).parent) (sym (zero-only k h)) refl);
  used = λ m h a. (0, omega arith, sym (zero-only m h));
  held = λ m h a. (0, omega arith, sym (zero-only m h));
}
  where
    go : (t : Bool) (id n : ℕ) → nat_eq 0 id ≡ t → cond t (Some 0) None ≡ Some n → (k : ℕ) × (k < 1) × (get_or (0 ∷ []) k 0 ≡ n) × ((get_or (blank ∷ []) n blank).row.id ≡ id)
    go true id n f g = let h : 0 ≡ n = cc in (0, omega arith, h, subst (λ (j : ℕ). (get_or (blank ∷ []) j blank).row.id ≡ id) h (yes id f))
      where
        yes : (id : ℕ) → nat_eq 0 id ≡ true → 0 ≡ id
        yes id f = grind (arith, nat_tests)
    go false id n f g = cc

pub first-rows : rows_of (blank ∷ []) (0 ∷ []) ≡ root_only
first-rows = λ i. record { path = path-root (blank ∷ []) i; row = record { id = 0; kind = Dir None } } ∷ []

pub first-free : IsFree (blank ∷ []) (0 ∷ []) []
first-free = record {
  below = λ k h. absurd (omega arith);
  unused = λ k j h. absurd (omega arith);
  once = λ j k l h. absurd (omega arith);
  count = refl;
  most = omega arith;
}
