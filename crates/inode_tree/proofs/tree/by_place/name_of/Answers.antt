use Rattle.std.proofs.Common.{◌≡◌, ◌∙◌, ◌<◌, ◌+◌, ◌∷◌, [], ℕ, zero, suc, List, ap, sym, refl, arith, length, get_or}
use Rattle.std.proofs.lemmas.List.{get_or_append_left}
use Rattle.inode_tree.specs.Arena.{IsLinked, link_at, path_of}
use Rattle.inode_tree.specs.declared.rows.Link.{Link}
use Rattle.inode_tree.specs.declared.rows.Node.{Node}
use Rattle.inode_tree.proofs.Lasts.{last-name}
use Rattle.inode_tree.proofs.Ups.{below-from, full-from, length-root, step-from}
use Rattle.inode_tree.proofs.tree.by_place.name_of.Goals as goal

positive : (k : ℕ) → (k ≡ 0 → ⊥) → 0 < k
positive zero g = absurd (g refl)
positive (suc k) g = omega arith

-- one step up from a node with some names after the k-th
module _ (ns : List Node) (l : IsLinked ns) (m k left : ℕ) (x : Link) (below : m < length ns) (e : x ≡ link_at ns m) (count : length (path_of ns m) ≡ left + k + 1) where
  deep : m ≡ 0 → ⊥
  deep z = let i = length-root ns m z in absurd (omega (arith, i, count))

  pub step : length (path_of ns m) ≡ length (path_of ns x.parent) + 1
  step = step-from ns l m x below deep e

  pub same : 0 < left → get_or (path_of ns x.parent) k [] ≡ get_or (path_of ns m) k []
  same some =
      sym (get_or_append_left (path_of ns x.parent) (x.name ∷ []) [] k (omega (arith, some, count, step)))
      ∙ sym (ap (λ (p : List (List ℕ)). get_or p k []) (full-from ns l m x below deep e))

pub climb-preserved : goal.climb-preserved
climb-preserved c =
    let some : 0 < c.climb.left = positive c.climb.left c.climb-test.true in
    let one = step c.args.nodes.now.items c.requires.linked c.climb.m c.args.k c.climb.left c.link.result.now c.climb.invariant.live c.link.ensures c.climb.invariant.count in
    let count = c.climb.invariant.count in
    record {
      live = below-from c.args.nodes.now.items c.requires.linked c.climb.m c.link.result.now c.climb.invariant.live c.link.ensures;
      count = omega (arith, some, one, count);
      same =
          same c.args.nodes.now.items c.requires.linked c.climb.m c.args.k c.climb.left c.link.result.now c.climb.invariant.live c.link.ensures c.climb.invariant.count some
          ∙ c.climb.invariant.same;
    }

pub returns : goal.returns
returns c =
    let none : c.climb.left ≡ 0 = c.climb-test.false in
    let count = c.climb.invariant.count in
    c.own_name.ensures ∙ last-name (path_of c.args.nodes.now.items c.climb.m) c.args.k (omega (arith, none, count)) ∙ c.climb.invariant.same
