use Rattle.std.proofs.Common.{arith, ◌≡◌, length, take, ℕ, List, sym, ap, ◌∙◌, take_all, subst, Ordering, Less, Equal, Greater}
use Rattle.inode_tree.specs.Arena.{IsNear, path_of, cmp_front}
use Rattle.inode_tree.proofs.Pasts.{upto-by}
use Rattle.inode_tree.proofs.NearLemmas.{near-root}
use Rattle.inode_tree.proofs.climbs.before_or_below.Goals as goal

pub meet-met-requires-clause-near : goal.meet-met-requires-clause-near
meet-met-requires-clause-near c = subst (IsNear c.args.nodes.now.items c.args.path.now) (sym c.root.ensures) (near-root c.args.nodes.now.items c.args.path.now)

whole : (p q : List (List ℕ)) (u : ℕ) (o : Ordering) → u ≡ length p → o ≡ cmp_front q (take u p) → o ≡ cmp_front q p
whole p q u o eu eo = eo ∙ ap (cmp_front q) (take_all u p (omega arith))

pub returns-in-Less : goal.returns-in-Less
returns-in-Less c = sym (upto-by c.args.path.now (path_of c.args.nodes.now.items c.args.n) Less (whole c.args.path.now (path_of c.args.nodes.now.items c.args.n) c.len.result Less c.len.ensures.len (sym c.in-Less.is ∙ c.meet-met.ensures.found)))

pub returns-in-Equal : goal.returns-in-Equal
returns-in-Equal c = sym (upto-by c.args.path.now (path_of c.args.nodes.now.items c.args.n) Equal (whole c.args.path.now (path_of c.args.nodes.now.items c.args.n) c.len.result Equal c.len.ensures.len (sym c.in-Equal.is ∙ c.meet-met.ensures.found)))

pub returns-in-Greater : goal.returns-in-Greater
returns-in-Greater c = sym (upto-by c.args.path.now (path_of c.args.nodes.now.items c.args.n) Greater (whole c.args.path.now (path_of c.args.nodes.now.items c.args.n) c.len.result Greater c.len.ensures.len (sym c.in-Greater.is ∙ c.meet-met.ensures.found)))
