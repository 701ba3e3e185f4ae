-- Paths of nodes.
use Rattle.std.proofs.Common.{◌≡◌, ℕ, ◌+◌, ◌<◌, ◌≤◌, zero, suc, Bool, true, false, cond, List, [], ◌∷◌, ◌++◌, length, refl, sym, ap, ◌∙◌, subst, arith, length-append}
use Rattle.std.specs.Prelude.{◌==◌}
use Rattle.inode_tree.specs.declared.rows.Link.{Link}
use Rattle.inode_tree.specs.declared.rows.Node.{Node}
use Rattle.inode_tree.specs.Arena.{link_at, node_at, up, path_of, IsLinked}

-- a climb of f steps passes at most f names
pub length-up : (f : ℕ) (ns : List Node) (n : ℕ) → length (up f ns n) ≤ f
unfolding up
length-up zero ns n = omega arith
length-up (suc f) ns n = go (n == 0) (length-up f ns (node_at ns n).parent)
  where
    go : (b : Bool) → length (up f ns (node_at ns n).parent) ≤ f → length (cond b [] (up f ns (node_at ns n).parent ++ ((node_at ns n).name ∷ []))) ≤ suc f
    go true h = omega arith
    go false h = omega (arith, length-append (up f ns (node_at ns n).parent) ((node_at ns n).name ∷ []))

pub path-short : (ns : List Node) (n : ℕ) → length (path_of ns n) ≤ 128
unfolding path_of
path-short ns n = length-up 128 ns n

pub path-root : (ns : List Node) → path_of ns 0 ≡ []
unfolding path_of up
path-root ns = refl

pub path-step : (ns : List Node) → IsLinked ns → (m : ℕ) → m < length ns → (m ≡ 0 → ⊥) → length (path_of ns m) ≡ length (path_of ns (node_at ns m).parent) + 1
path-step ns l m below apart = ap length (l.step m below apart) ∙ length-append (path_of ns (node_at ns m).parent) ((node_at ns m).name ∷ [])

-- one step of a climb that counts
pub step-from : (ns : List Node) → IsLinked ns → (m : ℕ) (x : Link) → m < length ns → (m ≡ 0 → ⊥) → x ≡ link_at ns m → length (path_of ns m) ≡ length (path_of ns x.parent) + 1
step-from ns l m x below apart e = path-step ns l m below apart ∙ ap (λ (y : Link). length (path_of ns y.parent) + 1) (sym e)

pub below-from : (ns : List Node) → IsLinked ns → (m : ℕ) (x : Link) → m < length ns → x ≡ link_at ns m → x.parent < length ns
below-from ns l m x below e = subst (λ (y : Link). y.parent < length ns) (sym e) (l.below m below)

pub full-from : (ns : List Node) → IsLinked ns → (m : ℕ) (x : Link) → m < length ns → (m ≡ 0 → ⊥) → x ≡ link_at ns m → path_of ns m ≡ path_of ns x.parent ++ (x.name ∷ [])
full-from ns l m x below apart e = l.step m below apart ∙ ap (λ (y : Link). path_of ns y.parent ++ (y.name ∷ [])) (sym e)

pub length-root : (ns : List Node) (m : ℕ) → m ≡ 0 → length (path_of ns m) ≡ 0
length-root ns m e = ap (λ (k : ℕ). length (path_of ns k)) e ∙ ap length (path-root ns)
