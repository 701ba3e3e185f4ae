use Rattle.std.proofs.Common.{arith, ◌≡◌, ◌<◌, length, take, ℕ, ◌-◌, List, sym, ap, ◌∙◌, Ordering, Less, Equal, Greater}
use Rattle.inode_tree.specs.Arena.{IsLinked, link_at, path_of, cmp_front, name_cmp}
use Rattle.inode_tree.proofs.Ups.{full-from, length-root, path-root, path-short}
use Rattle.inode_tree.proofs.NearLemmas.{front-near, length-near}
use Rattle.inode_tree.proofs.Orders.{front-snoc}
use Rattle.std.specs.Ordering.{ordering_then}
use Rattle.inode_tree.specs.declared.rows.Link.{Link}
use Rattle.inode_tree.specs.declared.rows.Node.{Node}
use Rattle.inode_tree.proofs.climbs.+meet.Goals as goal

joined : (ns : List Node) (l : IsLinked ns) (n d : ℕ) (x : Link) (p : List (List ℕ)) (o : Ordering) → n < length ns → (n ≡ 0 → ⊥) → x ≡ link_at ns n → d ≡ length (path_of ns x.parent) → o ≡ cmp_front (path_of ns x.parent) p
    → cmp_front (path_of ns n) p ≡ ordering_then o (name_cmp x.name p d)
joined ns l n d x p o h apart ex ed eo =
    ap (λ (q : List (List ℕ)). cmp_front q p) (full-from ns l n x h apart ex)
    ∙ front-snoc (path_of ns x.parent) x.name p
    ∙ ap (λ (z : Ordering). ordering_then z (name_cmp x.name p (length (path_of ns x.parent)))) (sym eo)
    ∙ ap (λ (k : ℕ). ordering_then o (name_cmp x.name p k)) (sym ed)

pub returns-then-n-eq0-clause-found : goal.returns-then-n-eq0-clause-found
returns-then-n-eq0-clause-found t c = sym (ap (λ (k : ℕ). cmp_front (path_of c.args.nodes.now.items k) (take c.args.upto c.args.path.now)) c.if-n-eq0.true ∙ ap (λ (q : List (List ℕ)). cmp_front q (take c.args.upto c.args.path.now)) (path-root c.args.nodes.now.items))

pub returns-then-n-eq0-clause-depth : goal.returns-then-n-eq0-clause-depth
returns-then-n-eq0-clause-depth t c = sym (length-root c.args.nodes.now.items c.args.n c.if-n-eq0.true)

pub returns-then-n-near-clause-found : goal.returns-then-n-near-clause-found
returns-then-n-near-clause-found t c = sym (front-near c.args.nodes.now.items c.args.n c.args.near.depth c.args.upto c.args.path.now (ap (path_of c.args.nodes.now.items) c.if-n-near.true ∙ c.requires.near.path))

pub returns-then-n-near-clause-depth : goal.returns-then-n-near-clause-depth
returns-then-n-near-clause-depth t c = sym (length-near c.args.nodes.now.items c.args.n c.args.near.depth c.args.path.now (ap (path_of c.args.nodes.now.items) c.if-n-near.true ∙ c.requires.near.path) c.requires.near.depth)

pub returns-then-n-near-2-clause-found : goal.returns-then-n-near-2-clause-found
returns-then-n-near-2-clause-found t c = sym (front-near c.args.nodes.now.items c.args.n (c.args.near.depth - 1) c.args.upto c.args.path.now (ap (path_of c.args.nodes.now.items) c.if-n-near-2.true ∙ c.requires.near.parent))

pub returns-then-n-near-2-clause-depth : goal.returns-then-n-near-2-clause-depth
returns-then-n-near-2-clause-depth t c = c.saturating_sub.ensures ∙ sym (length-near c.args.nodes.now.items c.args.n (c.args.near.depth - 1) c.args.path.now (ap (path_of c.args.nodes.now.items) c.if-n-near-2.true ∙ c.requires.near.parent) (let d = c.requires.near.depth in omega arith))

pub overflow_add-depth : goal.overflow_add-depth
overflow_add-depth t c = let short = path-short c.args.nodes.now.items c.link-link.result.now.parent in let e = c.meet-above.ensures.depth in omega arith

pub returns-in-Less-clause-found : goal.returns-in-Less-clause-found
returns-in-Less-clause-found t c = sym (joined c.args.nodes.now.items c.requires.linked c.args.n c.meet-above.result.depth c.link-link.result.now (take c.args.upto c.args.path.now) Less c.requires.live c.if-n-eq0.false c.link-link.ensures c.meet-above.ensures.depth (sym c.in-Less.is ∙ c.meet-above.ensures.found))

pub returns-in-Greater-clause-found : goal.returns-in-Greater-clause-found
returns-in-Greater-clause-found t c = sym (joined c.args.nodes.now.items c.requires.linked c.args.n c.meet-above.result.depth c.link-link.result.now (take c.args.upto c.args.path.now) Greater c.requires.live c.if-n-eq0.false c.link-link.ensures c.meet-above.ensures.depth (sym c.in-Greater.is ∙ c.meet-above.ensures.found))

pub returns-in-Equal-clause-found : goal.returns-in-Equal-clause-found
returns-in-Equal-clause-found t c = c.compare_at.ensures ∙ sym (joined c.args.nodes.now.items c.requires.linked c.args.n c.meet-above.result.depth c.link-link.result.now (take c.args.upto c.args.path.now) Equal c.requires.live c.if-n-eq0.false c.link-link.ensures c.meet-above.ensures.depth (sym c.in-Equal.is ∙ c.meet-above.ensures.found))
