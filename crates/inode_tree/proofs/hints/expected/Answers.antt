use Rattle.std.proofs.Common.{arith, ◌∙◌, ◌≡◌, ◌≤◌, ◌<◌, ap, sym, subst, take, ℕ, ◌-◌, List, length}
use Rattle.inode_tree.specs.Arena.{IsLive, link_at, path_of}
use Rattle.inode_tree.specs.declared.rows.Link.{Link}
use Rattle.inode_tree.specs.declared.rows.Node.{Node}
use Rattle.inode_tree.proofs.HintLemmas.{named-step}
use Rattle.inode_tree.proofs.Ups.{path-root, step-from}
use Rattle.inode_tree.proofs.ZoneLemmas.{below-live, live-parent}
use Rattle.inode_tree.proofs.hints.expected.Goals as goal

-- at the root, what was found on the way there is at the path
ended : (ns : List Node) (m k near depth upto : ℕ) (p : List (List ℕ)) → m ≡ 0 → k ≡ 0 → (path_of ns m ≡ take k p → k ≤ upto → (path_of ns near ≡ take depth p) × (depth ≤ upto)) → (path_of ns near ≡ take depth p) × (depth ≤ upto)
ended ns m k near depth upto p em ek h = h (ap (path_of ns) em ∙ path-root ns ∙ ap (λ (j : ℕ). take j p) (sym ek)) (omega arith)

pub near_at-requires-clause-path : goal.near_at-requires-clause-path
near_at-requires-clause-path c = path-root c.args.nodes.now.items

pub near_at-requires-then-k-ne0-clause-path : goal.near_at-requires-then-k-ne0-clause-path
near_at-requires-then-k-ne0-clause-path c = path-root c.args.nodes.now.items

pub link-link-requires : goal.link-link-requires
link-link-requires c = let h = below-live c.args.nodes.now.items c.args.order.now.items c.requires.tree.0 c.climb.m c.requires.tree.1 c.climb.invariant.live in omega arith

pub climb-smaller : goal.climb-smaller
climb-smaller c =
    let h = below-live c.args.nodes.now.items c.args.order.now.items c.requires.tree.0 c.climb.m c.requires.tree.1 c.climb.invariant.live in
    let step = step-from c.args.nodes.now.items c.requires.tree.1.linked c.climb.m c.link-link.result.now h c.climb-test.true c.link-link.ensures in omega arith

pub climb-smaller-then-not-has_name : goal.climb-smaller-then-not-has_name
climb-smaller-then-not-has_name c =
    let h = below-live c.args.nodes.now.items c.args.order.now.items c.requires.tree.0 c.climb.m c.requires.tree.1 c.climb.invariant.live in
    let step = step-from c.args.nodes.now.items c.requires.tree.1.linked c.climb.m c.link-link.result.now h c.climb-test.true c.link-link.ensures in omega arith

pub climb-preserved : goal.climb-preserved
climb-preserved c =
    let h = below-live c.args.nodes.now.items c.args.order.now.items c.requires.tree.0 c.climb.m c.requires.tree.1 c.climb.invariant.live in
    let link : c.link-link.result.now ≡ link_at c.args.nodes.now.items c.climb.m = c.link-link.ensures in
    let some : 0 < c.climb.k = let z = c.if-k-eq0.false in omega arith in
    let named = c.has_name.ensures c.if-not-has_name.false in
    let within : c.climb.k - 1 < length c.args.path.now = let u = c.requires.upto in let n = named.0 in omega arith in
    record {
      live = subst (λ (x : Link). IsLive c.args.order.now.items x.parent) (sym link) (live-parent c.args.nodes.now.items c.args.order.now.items c.requires.tree.0 c.climb.m c.requires.tree.1 c.climb.invariant.live);
      found = c.climb.invariant.found;
      path = λ e b. c.climb.invariant.path (named-step c.args.nodes.now.items c.args.order.now.items c.requires.tree.0 c.requires.tree.1 c.climb.m c.climb.k c.link-link.result.now c.args.path.now h c.climb-test.true c.link-link.ensures some within named.1 e) (let n = named.0 in omega arith);
    }

pub climb-preserved-then-not-has_name : goal.climb-preserved-then-not-has_name
climb-preserved-then-not-has_name c =
    let h = below-live c.args.nodes.now.items c.args.order.now.items c.requires.tree.0 c.climb.m c.requires.tree.1 c.climb.invariant.live in
    let link : c.link-link.result.now ≡ link_at c.args.nodes.now.items c.climb.m = c.link-link.ensures in
    let live = subst (λ (x : Link). IsLive c.args.order.now.items x.parent) (sym link) (live-parent c.args.nodes.now.items c.args.order.now.items c.requires.tree.0 c.climb.m c.requires.tree.1 c.climb.invariant.live) in
    record { live = live; found = live; path = λ e b. (e, b) }

pub near_at-requires-2-clause-path : goal.near_at-requires-2-clause-path
near_at-requires-2-clause-path c = (ended c.args.nodes.now.items c.climb.m c.climb.k c.climb.near c.climb.depth c.args.upto c.args.path.now c.climb-test.false c.if-k-ne0.false c.climb.invariant.path).0

pub near_at-requires-2-clause-depth : goal.near_at-requires-2-clause-depth
near_at-requires-2-clause-depth c =
    let e = (ended c.args.nodes.now.items c.climb.m c.climb.k c.climb.near c.climb.depth c.args.upto c.args.path.now c.climb-test.false c.if-k-ne0.false c.climb.invariant.path).1 in
    let u = c.requires.upto in omega arith

pub returns-clause-upto : goal.returns-clause-upto
returns-clause-upto c =
    let e = (ended c.args.nodes.now.items c.climb.m c.climb.k c.climb.near c.climb.depth c.args.upto c.args.path.now c.climb-test.false c.if-k-ne0.false c.climb.invariant.path).1 in
    let d = c.near_at-2.ensures.depth in omega arith
