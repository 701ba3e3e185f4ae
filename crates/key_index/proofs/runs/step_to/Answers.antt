use Rattle.std.proofs.Common.{◌≡◌, ℕ, ◌+◌, ◌*◌, ap, ◌∙◌, arith}
use Rattle.key_index.proofs.runs.step_to.Goals as goal

pub returns-then-count-eq1-clause-next : goal.returns-then-count-eq1-clause-next
returns-then-count-eq1-clause-next c h =
    let alone : c.args.place ≡ c.args.first + c.args.step = h ∙ ap (λ (n : ℕ). c.args.first + c.args.step * n) c.if-count-eq1.true ∙ omega arith in
    c.distance.ensures.near c.args.step alone (omega arith)

pub returns-then-count-eq1-clause-second : goal.returns-then-count-eq1-clause-second
returns-then-count-eq1-clause-second c next one h near = c.distance.ensures.near next h near
