use Rattle.std.proofs.Common.{◌∙◌, ◌<◌, ℕ, ap, arith, sym, subst, length}
use Rattle.frozen_nodes.specs.Copies.{path_at}
use Rattle.frozen_nodes.proofs.Blocks.{block-count, rank-found}
use Rattle.frozen_nodes.proofs.takes.block_of.Goals as goal

pub end_below-end-requires-clause-from : goal.end_below-end-requires-clause-from
end_below-end-requires-clause-from c =
    subst (λ (n : ℕ). n < length c.args.tree.now.rows) (sym c.place-at.ensures) (rank-found c.args.tree.now.rows c.args.path.now c.rows-count.ensures.rules.rising c.requires).0

pub end_below-end-requires-clause-path : goal.end_below-end-requires-clause-path
end_below-end-requires-clause-path c = ap (path_at c.args.tree.now.rows) c.place-at.ensures ∙ (rank-found c.args.tree.now.rows c.args.path.now c.rows-count.ensures.rules.rising c.requires).1

pub returns-clause-count : goal.returns-clause-count
returns-clause-count c = omega (arith, block-count c.args.tree.now.rows c.rows-count.ensures.rules c.args.path.now c.place-at.result c.end_below-end.result c.end_below-end.ensures)
