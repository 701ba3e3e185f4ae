use Rattle.std.proofs.Common.{◌≡◌, ◌∙◌, ◌<◌, ◌≤◌, ◌-◌, ◌++◌, ◌∷◌, [], ℕ, List, ap, sym, arith, length, drop}
use Rattle.inode_tree.specs.Arena.{path_of}
use Rattle.name_calls.specs.Paths.{is_relative}
use Rattle.inode_tree.specs.declared.rows.Link.{Link}
use Rattle.inode_tree.specs.declared.rows.Node.{Node}
use Rattle.inode_tree.specs.Arena.{IsLinked, link_at}
use Rattle.name_calls.proofs.PathLemmas.{relative-front}
use Rattle.inode_tree.proofs.Places.{last-names, relative-drop}
use Rattle.inode_tree.proofs.Ups.{below-from, full-from, length-root, step-from}
use Rattle.inode_tree.proofs.tree.by_place.+build_last.Goals as goal

module _ (ns : List Node) (l : IsLinked ns) (n count : ℕ) (x : Link) (below : n < length ns) (e : x ≡ link_at ns n) (some : count ≡ 0 → ⊥) (most : count ≤ length (path_of ns n)) where
  deep : n ≡ 0 → ⊥
  deep z = some (let i = length-root ns n z in omega arith)

  pub full : path_of ns n ≡ path_of ns x.parent ++ x.name ∷ []
  full = full-from ns l n x below deep e

  pub shorter : count - 1 ≤ length (path_of ns x.parent)
  shorter = let i = step-from ns l n x below deep e in omega arith

  pub split : drop (length (path_of ns n) - count) (path_of ns n) ≡ drop (length (path_of ns x.parent) - (count - 1)) (path_of ns x.parent) ++ x.name ∷ []
  split = last-names (path_of ns n) (path_of ns x.parent) x.name count full (let g : count ≡ 0 → ⊥ = some in positive count g) most
    where
      positive : (k : ℕ) → (k ≡ 0 → ⊥) → 0 < k
      positive k g = grind arith

pub build_last-requires : goal.build_last-requires
build_last-requires t c = (
  omega arith,
  (
    c.requires.linked,
    (
      below-from c.args.nodes.now.items c.requires.linked c.args.n c.link-link.result.now c.requires.live c.link-link.ensures,
      (
        relative-front (path_of c.args.nodes.now.items c.link-link.result.now.parent) c.link-link.result.now.name
            (ap is_relative (sym (full c.args.nodes.now.items c.requires.linked c.args.n c.args.count c.link-link.result.now c.requires.live c.link-link.ensures c.if-count-eq0.false c.requires.count)) ∙ c.requires.rule),
        shorter c.args.nodes.now.items c.requires.linked c.args.n c.args.count c.link-link.result.now c.requires.live c.link-link.ensures c.if-count-eq0.false c.requires.count,
      ),
    ),
  ),
)

pub extend-requires : goal.extend-requires
extend-requires t c =
    ap is_relative (ap (λ (p : List (List ℕ)). p ++ c.link-link.result.now.name ∷ []) c.in_ok-path.ensures ∙ sym (split c.args.nodes.now.items c.requires.linked c.args.n c.args.count c.link-link.result.now c.requires.live c.link-link.ensures c.if-count-eq0.false c.requires.count))
    ∙ relative-drop (length (path_of c.args.nodes.now.items c.args.n) - c.args.count) (path_of c.args.nodes.now.items c.args.n) c.requires.rule

pub returns : goal.returns
returns t c =
    c.in_ok-extend.ensures
    ∙ ap (λ (p : List (List ℕ)). p ++ c.link-link.result.now.name ∷ []) c.in_ok-path.ensures
    ∙ sym (split c.args.nodes.now.items c.requires.linked c.args.n c.args.count c.link-link.result.now c.requires.live c.link-link.ensures c.if-count-eq0.false c.requires.count)
