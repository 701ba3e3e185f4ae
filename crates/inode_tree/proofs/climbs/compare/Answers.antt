use Rattle.std.proofs.Common.{length-take-le, ◌≡◌, length, take, ℕ, List, sym, ap, ◌∙◌, Ordering, Less, Equal, Greater}
use Rattle.inode_tree.specs.Arena.{path_of, cmp_front}
use Rattle.name_calls.specs.Paths.{path_cmp}
use Rattle.inode_tree.proofs.Orders.{path-cmp-is}
use Rattle.std.specs.Ordering.{ordering_then, nat_cmp}
use Rattle.inode_tree.proofs.climbs.compare.Goals as goal

differ : (q p : List (List ℕ)) (o : Ordering) → o ≡ cmp_front q p → path_cmp q p ≡ ordering_then o (nat_cmp (length q) (length p))
differ q p o e = path-cmp-is q p ∙ ap (λ (z : Ordering). ordering_then z (nat_cmp (length q) (length p))) (sym e)

pub returns-in-Less : goal.returns-in-Less
returns-in-Less c = sym (differ _ (take c.args.upto c.args.path.now) Less (sym c.in-Less.is ∙ c.meet-met.ensures.found))

pub returns-in-Equal : goal.returns-in-Equal
returns-in-Equal c = c.cmp.ensures ∙ ap (λ (a : ℕ). nat_cmp a c.args.upto) c.meet-met.ensures.depth ∙ ap (nat_cmp (length (path_of c.args.nodes.now.items c.args.n))) (sym (length-take-le c.args.upto c.args.path.now c.requires.upto)) ∙ sym (differ _ (take c.args.upto c.args.path.now) Equal (sym c.in-Equal.is ∙ c.meet-met.ensures.found))

pub returns-in-Greater : goal.returns-in-Greater
returns-in-Greater c = sym (differ _ (take c.args.upto c.args.path.now) Greater (sym c.in-Greater.is ∙ c.meet-met.ensures.found))
