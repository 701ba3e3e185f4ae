use Rattle.std.proofs.Common.{◌≡◌, ◌∙◌, ◌<◌, ◌≤◌, ◌+◌, ◌-◌, ◌++◌, ◌∷◌, [], ℕ, List, ap, sym, arith, drop, length, refl, true}
use Rattle.inode_tree.specs.Arena.{IsLinked, link_at, path_of}
use Rattle.inode_tree.specs.declared.rows.Link.{Link}
use Rattle.inode_tree.specs.declared.rows.Node.{Node}
use Rattle.name_calls.specs.Paths.{is_relative, names_text}
use Rattle.name_calls.proofs.PathLemmas.{relative-front}
use Rattle.inode_tree.proofs.MovedLengths.{short-text, size-more}
use Rattle.inode_tree.proofs.Ups.{below-from, full-from, length-root, step-from}
use Rattle.inode_tree.proofs.tree.lengths.+last_size.Goals as goal

module _ (ns : List Node) (l : IsLinked ns) (n count : ℕ) (x : Link) (below : n < length ns) (e : x ≡ link_at ns n) (some : count ≡ 0 → ⊥) (most : count ≤ length (path_of ns n)) where
  deep : n ≡ 0 → ⊥
  deep z = some (let i = length-root ns n z in omega arith)

  full : path_of ns n ≡ path_of ns x.parent ++ x.name ∷ []
  full = full-from ns l n x below deep e

  pub shorter : count - 1 ≤ length (path_of ns x.parent)
  shorter = let i = step-from ns l n x below deep e in omega arith

  pub ruled : is_relative (path_of ns n) ≡ true → is_relative (path_of ns x.parent) ≡ true
  ruled h = relative-front (path_of ns x.parent) x.name (ap is_relative (sym full) ∙ h)

  pub size : (above len : ℕ) (bytes : List ℕ) → above ≡ length (names_text (drop (length (path_of ns x.parent) - (count - 1)) (path_of ns x.parent))) → bytes ≡ x.name → len ≡ length bytes → above + len + 1 ≡ length (names_text (drop (length (path_of ns n) - count) (path_of ns n)))
  size above len bytes ea eb el = let s = size-more (path_of ns n) (path_of ns x.parent) x.name count full (positive count some) most in let f = ap length eb in omega arith
    where
      positive : (k : ℕ) → (k ≡ 0 → ⊥) → 0 < k
      positive k g = grind arith

  pub bound : (above len : ℕ) (bytes : List ℕ) → is_relative (path_of ns n) ≡ true → above ≡ length (names_text (drop (length (path_of ns x.parent) - (count - 1)) (path_of ns x.parent))) → bytes ≡ x.name → len ≡ length bytes → above + len + 1 ≤ 8000
  bound above len bytes h ea eb el = let s = size above len bytes ea eb el in let b = short-text (path_of ns n) (length (path_of ns n) - count) h in omega arith

pub last_size-above-requires : goal.last_size-above-requires
last_size-above-requires t c = (
  let z = c.if-count-eq0.false in let d = c.decreases in omega arith,
  (
    c.requires.linked,
    (
      below-from c.args.nodes.now.items c.requires.linked c.args.n c.link-link.result.now c.requires.live c.link-link.ensures,
      (
        ruled c.args.nodes.now.items c.requires.linked c.args.n c.args.count c.link-link.result.now c.requires.live c.link-link.ensures c.if-count-eq0.false c.requires.count c.requires.rule,
        shorter c.args.nodes.now.items c.requires.linked c.args.n c.args.count c.link-link.result.now c.requires.live c.link-link.ensures c.if-count-eq0.false c.requires.count,
      ),
    ),
  ),
)

pub overflow_cast-result : goal.overflow_cast-result
overflow_cast-result t c =
    let b = bound c.args.nodes.now.items c.requires.linked c.args.n c.args.count c.link-link.result.now c.requires.live c.link-link.ensures c.if-count-eq0.false c.requires.count
    c.last_size-above.result (length c.as_bytes.result.now) c.as_bytes.result.now c.requires.rule c.last_size-above.ensures.size c.as_bytes.ensures.bytes refl in omega arith

pub overflow_add-result : goal.overflow_add-result
overflow_add-result t c =
    let b = bound c.args.nodes.now.items c.requires.linked c.args.n c.args.count c.link-link.result.now c.requires.live c.link-link.ensures c.if-count-eq0.false c.requires.count
    c.last_size-above.result (length c.as_bytes.result.now) c.as_bytes.result.now c.requires.rule c.last_size-above.ensures.size c.as_bytes.ensures.bytes refl in omega arith

pub overflow_add-result-2 : goal.overflow_add-result-2
overflow_add-result-2 t c =
    let b = bound c.args.nodes.now.items c.requires.linked c.args.n c.args.count c.link-link.result.now c.requires.live c.link-link.ensures c.if-count-eq0.false c.requires.count
    c.last_size-above.result (length c.as_bytes.result.now) c.as_bytes.result.now c.requires.rule c.last_size-above.ensures.size c.as_bytes.ensures.bytes refl in omega arith

pub returns-clause-size : goal.returns-clause-size
returns-clause-size t c = size c.args.nodes.now.items c.requires.linked c.args.n c.args.count c.link-link.result.now c.requires.live c.link-link.ensures c.if-count-eq0.false c.requires.count
    c.last_size-above.result (length c.as_bytes.result.now) c.as_bytes.result.now c.last_size-above.ensures.size c.as_bytes.ensures.bytes refl

pub returns-clause-most : goal.returns-clause-most
returns-clause-most t c = bound c.args.nodes.now.items c.requires.linked c.args.n c.args.count c.link-link.result.now c.requires.live c.link-link.ensures c.if-count-eq0.false c.requires.count
    c.last_size-above.result (length c.as_bytes.result.now) c.as_bytes.result.now c.requires.rule c.last_size-above.ensures.size c.as_bytes.ensures.bytes refl
