use Rattle.std.proofs.Common.{ap, ◌∙◌, arith}
use Rattle.hk_base.proofs.Pieces.{some_pending}
use Rattle.hk_base.proofs.reading.Reader.fill.Goals as goal

pub returns-then-self-clause-end : goal.returns-then-self-clause-end
returns-then-self-clause-end g c = λ _ none. absurd (some_pending c.self.inside.from c.self.inside.to c.self.inside.piece c.if-self.true (omega (arith, c.self.told)) (ap (λ p. p.bytes) c.self.view_is ∙ none))
