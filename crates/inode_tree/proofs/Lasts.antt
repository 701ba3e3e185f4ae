-- The last name of a path, a tree whose ids are found as before, and as many nodes.
use Rattle.std.proofs.Common.{◌≡◌, ℕ, ◌+◌, ◌<◌, ◌≤◌, zero, suc, List, [], ◌∷◌, ◌++◌, length, get_or, take, Option, refl, sym, ◌∙◌, subst, arith, take_all}
use Rattle.std.proofs.lemmas.List.{take_more}
use Rattle.name_calls.specs.Paths.{last_name}
use Rattle.inode_tree.specs.declared.rows.Node.{Node}
use Rattle.inode_tree.specs.Arena.{IsFree, IsTree}

pub last-split : (p : List (List ℕ)) (u : ℕ) → length p ≡ u + 1 → p ≡ take u p ++ (get_or p u [] ∷ [])
last-split p u e = sym (take_all (u + 1) p (omega arith)) ∙ take_more p u [] (omega arith)

pub last-name : (p : List (List ℕ)) (u : ℕ) → length p ≡ u + 1 → last_name p ≡ get_or p u []
last-name [] u e = absurd (omega arith)
last-name (x ∷ []) zero e = refl
last-name (x ∷ []) (suc u) e = absurd (omega arith)
last-name (x ∷ y ∷ p) zero e = absurd (omega arith)
last-name (x ∷ y ∷ p) (suc u) e = last-name (y ∷ p) u (omega arith)

pub last-joined : (p : List (List ℕ)) (x : List ℕ) → last_name (p ++ x ∷ []) ≡ x
last-joined [] x = refl
last-joined (y ∷ []) x = refl
last-joined (y ∷ z ∷ p) x = last-joined (z ∷ p) x

pub tree-same : (ns : List Node) (order : List ℕ) (ids ids' : ℕ → Option ℕ) → ((q : ℕ) → ids' q ≡ ids q) → IsTree ns order ids → IsTree ns order ids'
tree-same ns order ids ids' e t = record {
  linked = t.linked;
  within = t.within;
  rising = t.rising;
  ruled = t.ruled;
  root_is = t.root_is;
  root_dir = t.root_dir;
  root_in = t.root_in;
  nested = t.nested;
  rooted = t.rooted;
  full = t.full;
  few = t.few;
  named = λ k b. e _ ∙ t.named k b;
  stands = λ id n f. t.stands id n (sym (e id) ∙ f);
  housed = t.housed;
  used = t.used;
  held = t.held;
}

-- as many nodes, and the same of them free
pub free-same : (ns ns' : List Node) (order free : List ℕ) → length ns' ≡ length ns → IsFree ns order free → IsFree ns' order free
free-same ns ns' order free e f = record {
  below = λ k h. subst (λ (n : ℕ). get_or free k 0 < n) (sym e) (f.below k h);
  unused = f.unused;
  once = f.once;
  count = f.count ∙ sym e;
  most = subst (λ (n : ℕ). n ≤ 1000001) (sym e) f.most;
}
