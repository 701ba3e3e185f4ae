use Rattle.std.proofs.Common.{◌≡◌, ◌∙◌, ◌<◌, ◌≤◌, ◌+◌, ◌-◌, ◌++◌, ◌∷◌, [], ℕ, List, Result, Ok, Err, ap, sym, arith, append_assoc, length, true}
use Rattle.std.specs.Prelude.{OnErr}
use Rattle.inode_tree.specs.Arena.{IsLinked, link_at, path_of}
use Rattle.inode_tree.specs.Written.{last_bytes}
use Rattle.inode_tree.specs.declared.rows.Link.{Link}
use Rattle.inode_tree.specs.declared.rows.Node.{Node}
use Rattle.name_calls.specs.Paths.{is_relative}
use Rattle.name_calls.proofs.PathLemmas.{relative-front}
use Rattle.inode_tree.proofs.PathBytes.{last-length, last-more, name-short}
use Rattle.inode_tree.proofs.Ups.{below-from, full-from, length-root, step-from}
use Rattle.inode_tree.proofs.tree.path_bytes.+write_last.Goals as goal

on-err : {T E P : Type 0} (r : Result T E) → P → OnErr r P
on-err (Ok v) p = tt
on-err (Err e) p = p

module _ (ns : List Node) (l : IsLinked ns) (n count : ℕ) (x : Link) (below : n < length ns) (e : x ≡ link_at ns n) (some : count ≡ 0 → ⊥) (most : count ≤ length (path_of ns n)) where
  deep : n ≡ 0 → ⊥
  deep z = some (let i = length-root ns n z in omega arith)

  full : path_of ns n ≡ path_of ns x.parent ++ x.name ∷ []
  full = full-from ns l n x below deep e

  pub shorter : count - 1 ≤ length (path_of ns x.parent)
  shorter = let i = step-from ns l n x below deep e in omega arith

  pub ruled : is_relative (path_of ns n) ≡ true → is_relative (path_of ns x.parent ++ x.name ∷ []) ≡ true
  ruled h = ap is_relative (sym full) ∙ h

  pub bytes : last_bytes count (path_of ns n) ≡ last_bytes (count - 1) (path_of ns x.parent) ++ length x.name ∷ x.name
  bytes = last-more (path_of ns n) (path_of ns x.parent) x.name count full some most

  pub size : length (last_bytes count (path_of ns n)) ≡ length (last_bytes (count - 1) (path_of ns x.parent)) + length x.name + 1
  size = last-length (path_of ns n) (path_of ns x.parent) x.name count full some most

pub write_last-requires : goal.write_last-requires
write_last-requires t c = (
  omega arith,
  (
    c.requires.linked,
    (
      below-from c.args.nodes.now.items c.requires.linked c.args.n c.link-link.result.now c.requires.live c.link-link.ensures,
      (
        relative-front (path_of c.args.nodes.now.items c.link-link.result.now.parent) c.link-link.result.now.name
            (ruled c.args.nodes.now.items c.requires.linked c.args.n c.args.count c.link-link.result.now c.requires.live c.link-link.ensures c.if-count-eq0.false c.requires.count c.requires.rule),
        shorter c.args.nodes.now.items c.requires.linked c.args.n c.args.count c.link-link.result.now c.requires.live c.link-link.ensures c.if-count-eq0.false c.requires.count,
      ),
    ),
  ),
)

pub returns-in_err-write_last-clause-full : goal.returns-in_err-write_last-clause-full
returns-in_err-write_last-clause-full t c =
    on-err c.from_residual.result
    (let s = size c.args.nodes.now.items c.requires.linked c.args.n c.args.count c.link-link.result.now c.requires.live c.link-link.ensures c.if-count-eq0.false c.requires.count in let f = c.in_err-write_last.ensures.full in omega arith)

pub append_name-requires : goal.append_name-requires
append_name-requires t c =
    name-short (path_of c.args.nodes.now.items c.link-link.result.now.parent) c.link-link.result.now.name
    (ruled c.args.nodes.now.items c.requires.linked c.args.n c.args.count c.link-link.result.now c.requires.live c.link-link.ensures c.if-count-eq0.false c.requires.count c.requires.rule)

pub returns-in_err-append_name-clause-full : goal.returns-in_err-append_name-clause-full
returns-in_err-append_name-clause-full t c =
    on-err c.from_residual-in_err-append_name.result
    (let s = size c.args.nodes.now.items c.requires.linked c.args.n c.args.count c.link-link.result.now c.requires.live c.link-link.ensures c.if-count-eq0.false c.requires.count in
    let f = c.in_err-append_name.ensures.full in
    let n = c.in_ok-write_last.ensures.len in
    let k = c.write_last.ensures.capacity in omega arith)

pub returns-clause-ok : goal.returns-clause-ok
returns-clause-ok t c =
    c.in_ok-append_name.ensures.ok
    ∙ ap (λ (bytes : List ℕ). bytes ++ length c.link-link.result.now.name ∷ c.link-link.result.now.name) c.in_ok-write_last.ensures.ok
    ∙ append_assoc c.args.out.now.items (last_bytes (c.args.count - 1) (path_of c.args.nodes.now.items c.link-link.result.now.parent)) (length c.link-link.result.now.name ∷ c.link-link.result.now.name)
    ∙ ap (λ (bytes : List ℕ). c.args.out.now.items ++ bytes) (sym (bytes c.args.nodes.now.items c.requires.linked c.args.n c.args.count c.link-link.result.now c.requires.live c.link-link.ensures c.if-count-eq0.false c.requires.count))

pub returns-clause-len : goal.returns-clause-len
returns-clause-len t c =
    let s = size c.args.nodes.now.items c.requires.linked c.args.n c.args.count c.link-link.result.now c.requires.live c.link-link.ensures c.if-count-eq0.false c.requires.count in
    let n = c.in_ok-write_last.ensures.len in
    let m = c.in_ok-append_name.ensures.len in omega arith
