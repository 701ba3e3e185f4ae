-- What calls in a tree's functions require, over plain variables.
use Rattle.std.proofs.Common.{◌≡◌, ℕ, ◌+◌, ◌-◌, ◌<◌, ◌≤◌, Bool, true, false, cond, List, length, get_or, take, Option, sym, ap, ◌∙◌, subst, arith, take_all}
use Rattle.std.specs.Prelude.{nat_le}
use Rattle.std.proofs.lemmas.Bool.Decides.{nat_tests}
use Rattle.name_calls.specs.Paths.{is_relative}
use Rattle.inode_tree.specs.declared.rows.Node.{Node}
use Rattle.inode_tree.specs.Rows.{Entry}
use Rattle.inode_tree.specs.Listed.{shifted, turned}
use Rattle.inode_tree.specs.Arena.{IsSkip, IsTree, path_of, rank}
use Rattle.inode_tree.proofs.Ranks.{within-at}

pub at-most : (a b : ℕ) → a ≡ b → a ≤ b
at-most a b e = omega arith

pub below-upto : (k upto n : ℕ) → k < upto → upto ≤ n → k < n
below-upto k upto n h m = omega arith

pub within-upto : (k upto n : ℕ) → k ≤ upto → upto ≤ n → k ≤ n
within-upto k upto n h m = omega arith

pub at-most-of : (a b upto : ℕ) → a ≡ b → b ≤ upto → a ≤ upto
at-most-of a b upto e h = omega arith

-- the names that are left of a path without its first ones
pub fewer : (depth from count n : ℕ) → count ≡ depth - from → depth ≡ n → count ≤ n
fewer depth from count n e f = omega arith

-- a loop goes back from a place after the first
pub shorter : (from at : ℕ) → from < at → at - 1 < at
shorter from at h = omega arith

pub one-less : (a b : ℕ) → a ≡ b → a - 1 ≤ b
one-less a b e = omega arith

-- a loop over places comes nearer to its end
pub nearer : (at next end : ℕ) → at < next → at < end → end - next < end - at
nearer at next end h m = omega arith

pub after : (at : ℕ) → at < at + 1
after at = omega arith

pub place-is : (es : List Entry) (p : List (List ℕ)) (len at : ℕ) → len ≡ length p → at ≡ rank es (take len p) → at ≡ rank es p
place-is es p len at e f = f ∙ ap (rank es) (take_all len p (omega arith))

-- the node at a place of the order
module _ (ns : List Node) (order : List ℕ) (ids : ℕ → Option ℕ) (t : IsTree ns order ids) (at n : ℕ) (h : at < length order) (e : n ≡ get_or order at 0) where
  pub node-within : n < length ns
  node-within = subst (λ (k : ℕ). k < length ns) (sym e) (within-at (length ns) order at t.within h)

  pub node-relative : is_relative (path_of ns n) ≡ true
  node-relative = ap (λ (k : ℕ). is_relative (path_of ns k)) e ∙ t.ruled at h

-- no row is between a place and the next one
pub next-skip : (ns : List Node) (order : List ℕ) (at : ℕ) → at < length order → IsSkip ns order at (at + 1)
next-skip ns order at h = record { after = omega arith; most = omega arith; below = λ k a b. absurd (omega arith) }

-- a move of places to an earlier place, or to a later one
module _ (from end at from' end' at' : ℕ) (xs : List ℕ) (ef : from ≡ from') (ee : end ≡ end') (ea : at ≡ at') where
  same : shifted from end at xs ≡ shifted from' end' at' xs
  same =
      ap (λ (k : ℕ). shifted k end at xs) ef
      ∙ ap (λ (k : ℕ). shifted from' k at xs) ee
      ∙ ap (λ (k : ℕ). shifted from' end' k xs) ea

  pub shifted-left : at ≤ from → turned at from end xs ≡ shifted from' end' at' xs
  shifted-left h = ap (λ (b : Bool). cond b (turned at from end xs) (turned from end at xs)) (sym (yes-le at from h)) ∙ same
    where
      yes-le : (a b : ℕ) → a ≤ b → nat_le a b ≡ true
      yes-le a b h = grind (arith, nat_tests)

  pub shifted-right : from < at → turned from end at xs ≡ shifted from' end' at' xs
  shifted-right h = ap (λ (b : Bool). cond b (turned at from end xs) (turned from end at xs)) (sym (no-le at from h)) ∙ same
    where
      no-le : (a b : ℕ) → b < a → nat_le a b ≡ false
      no-le a b h = grind (arith, nat_tests)
