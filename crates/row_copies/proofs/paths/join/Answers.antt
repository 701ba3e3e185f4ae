use Rattle.std.proofs.Common.{◌∙◌, inl, inr, refl, sym}
use Rattle.row_copies.proofs.PathLemmas.{may-join, too-long}
use Rattle.row_copies.proofs.paths.join.Goals as goal

pub join_short-requires : goal.join_short-requires
join_short-requires c = may-join c.args.to.now c.args.from.now c.can_follow.ensures.path c.can_follow.ensures.names (sym c.can_follow.ensures.short ∙ c.if-not-can_follow.false)

pub returns-then-not-can_follow-clause-ends : goal.returns-then-not-can_follow-clause-ends
returns-then-not-can_follow-clause-ends c = inr (refl, too-long c.args.to.now c.args.from.now (sym c.can_follow.ensures.short ∙ c.if-not-can_follow.true))

pub returns-in-Err-clause-ends : goal.returns-in-Err-clause-ends
returns-in-Err-clause-ends c = inl refl
