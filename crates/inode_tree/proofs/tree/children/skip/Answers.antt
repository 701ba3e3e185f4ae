use Rattle.std.proofs.Common.{arith, ◌∙◌, ◌≤◌, ◌+◌, ℕ, List, sym, ap, subst}
use Rattle.inode_tree.specs.Arena.{IsSkip, path_of, rank_past, rows_of}
use Rattle.inode_tree.proofs.Listings.{skip-past}
use Rattle.inode_tree.proofs.Insides.{next-skip, node-relative, node-within}
use Rattle.inode_tree.proofs.tree.children.skip.Goals as goal

pub past-requires-clause-from : goal.past-requires-clause-from
past-requires-clause-from c =
    let after = (skip-past c.args.nodes.now.items c.args.order.now.items c.requires.tree.0 c.requires.tree.1 c.args.at c.requires.at).after in
    subst (λ (q : List (List ℕ)). c.args.at + 1 ≤ rank_past (rows_of c.args.nodes.now.items c.args.order.now.items) q)
    (sym (c.in_ok-path.ensures ∙ ap (path_of c.args.nodes.now.items) c.get-n.ensures)) (omega arith)

pub returns : goal.returns
returns c =
    subst (IsSkip c.args.nodes.now.items c.args.order.now.items c.args.at)
    (sym (c.past.ensures ∙ ap (rank_past (rows_of c.args.nodes.now.items c.args.order.now.items)) (c.in_ok-path.ensures ∙ ap (path_of c.args.nodes.now.items) c.get-n.ensures)))
    (skip-past c.args.nodes.now.items c.args.order.now.items c.requires.tree.0 c.requires.tree.1 c.args.at c.requires.at)

pub get-n-requires : goal.get-n-requires
get-n-requires c = c.requires.at

pub returns-then-next-len : goal.returns-then-next-len
returns-then-next-len c = next-skip c.args.nodes.now.items c.args.order.now.items c.args.at c.requires.at

pub returns-then-link-n : goal.returns-then-link-n
returns-then-link-n c = next-skip c.args.nodes.now.items c.args.order.now.items c.args.at c.requires.at

pub build-requires-clause-linked : goal.build-requires-clause-linked
build-requires-clause-linked c = c.requires.tree.1.linked

pub build-requires-clause-live : goal.build-requires-clause-live
build-requires-clause-live c = node-within c.args.nodes.now.items c.args.order.now.items c.requires.tree.0 c.requires.tree.1 c.args.at c.get-n.result c.requires.at c.get-n.ensures

pub build-requires-clause-rule : goal.build-requires-clause-rule
build-requires-clause-rule c = node-relative c.args.nodes.now.items c.args.order.now.items c.requires.tree.0 c.requires.tree.1 c.args.at c.get-n.result c.requires.at c.get-n.ensures

pub past-requires-clause-linked : goal.past-requires-clause-linked
past-requires-clause-linked c = c.requires.tree.1.linked

pub past-requires-clause-within : goal.past-requires-clause-within
past-requires-clause-within c = c.requires.tree.1.within

pub past-requires-clause-rising : goal.past-requires-clause-rising
past-requires-clause-rising c = c.requires.tree.1.rising
