-- The part of an image that a buffer keeps.
use Rattle.std.proofs.Common.{◌≡◌, ℕ, ◌+◌, ◌^◌, ◌<◌, ◌≤◌, true, cond, List, [], length, take, drop, min, sym, ◌∙◌, arith, refl, subst, length-drop}
use Rattle.std.proofs.Math.Nat.{min-le_left, min-le_right}
use Rattle.std.specs.Prelude.{◌-◌, nat_lt}
use Rattle.std.proofs.lemmas.Bool.Decides.{nat_tests}
use Rattle.hk_base.specs.Disk.{piece}
use Rattle.image_parts.specs.Parts.{KeepsPart, count_told}
use Rattle.name_images.proofs.Lists.{at-dropped, same-front}

pub nothing-told : (at : ℕ) (buf : List ℕ) → KeepsPart at 0 [] buf
nothing-told at buf = record { count = refl; holds = λ few i within lt. absurd (omega (arith, lt)) }

pub count-is : (n : ℕ) → n < 2 ^ 64 → count_told n ≡ n
count-is n few = λ i. cond (yes i) n (2 ^ 64 - 1)
  where
    yes : nat_lt n (2 ^ 64) ≡ true
    yes = grind (arith, nat_tests)

pub part-is : (at seen r : ℕ) (all buf : List ℕ) → KeepsPart at seen all buf → length all < 2 ^ 64 → r ≤ length buf → at + r ≤ length all → take r buf ≡ piece at r all
part-is at seen r all buf kept few short within =
    same-front r buf (drop at all) short (omega (arith, length-drop at all, within))
    (λ i lt. kept.holds few i (omega (arith, lt, short)) (omega (arith, lt, within)) ∙ sym (at-dropped at i all))

pub at-most : (a b r : ℕ) → r ≡ min a b → (r ≤ a) × (r ≤ b)
at-most a b r e = (subst (λ (x : ℕ). x ≤ a) (sym e) (min-le_left a b), subst (λ (x : ℕ). x ≤ b) (sym e) (min-le_right a b))
