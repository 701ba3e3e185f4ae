use Rattle.std.proofs.Common.{arith, ◌<◌, length, take, ℕ, ap, sym, ◌∙◌, subst, Less, Equal, Greater}
use Rattle.inode_tree.proofs.HintLemmas.{live-number}
use Rattle.inode_tree.proofs.Ranks.{within-at}
use Rattle.inode_tree.proofs.Trees.{sought, sought-past}
use Rattle.inode_tree.proofs.tree.search.Goals as goal

pub returns-then-near-upto : goal.returns-then-near-upto
returns-then-near-upto c =
    sym (live-number c.args.nodes.now.items c.args.order.now.items c.requires.tree.0 c.requires.tree.1 c.args.near.node (take c.args.upto c.args.path.now) c.requires.live
    (c.requires.near.path ∙ ap (λ (k : ℕ). take k c.args.path.now) c.if-near-upto.true))

pub compare-requires-clause-live : goal.compare-requires-clause-live
compare-requires-clause-live c = subst (λ (k : ℕ). k < length c.args.nodes.now.items) (sym c.get-n.ensures) (within-at _ _ _ c.requires.tree.1.within (omega arith))

pub returns-in-Less : goal.returns-in-Less
returns-in-Less c = sought c.args.nodes.now.items c.args.order.now.items (take c.args.upto c.args.path.now) c.place_near-at.result c.get-n.result Less c.requires.tree.1.rising c.place_near-at.ensures (omega arith) c.get-n.ensures c.in-Less.ensures

pub returns-in-Equal : goal.returns-in-Equal
returns-in-Equal c = sought c.args.nodes.now.items c.args.order.now.items (take c.args.upto c.args.path.now) c.place_near-at.result c.get-n.result Equal c.requires.tree.1.rising c.place_near-at.ensures (omega arith) c.get-n.ensures c.in-Equal.ensures

pub returns-in-Greater : goal.returns-in-Greater
returns-in-Greater c = sought c.args.nodes.now.items c.args.order.now.items (take c.args.upto c.args.path.now) c.place_near-at.result c.get-n.result Greater c.requires.tree.1.rising c.place_near-at.ensures (omega arith) c.get-n.ensures c.in-Greater.ensures

pub returns-else-at-len : goal.returns-else-at-len
returns-else-at-len c = sought-past c.args.nodes.now.items c.args.order.now.items (take c.args.upto c.args.path.now) c.place_near-at.result c.requires.tree.1.rising c.place_near-at.ensures (omega arith)
