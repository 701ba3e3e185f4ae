use Rattle.std.proofs.Common.{◌≡◌, sym, ◌∙◌, arith}
use Rattle.hk_base.proofs.Versions.{decimal_once}
use Rattle.replay_text.proofs.fields.read_small_number.Goals as goal

pub returns-then-number-gt-LAST_NUMBER : goal.returns-then-number-gt-LAST_NUMBER
returns-then-number-gt-LAST_NUMBER c = λ n small is.
    let same : c.in-Some.number ≡ n = decimal_once c.in-Some.number n c.in-Some.ensures.0 (omega arith) (sym c.in-Some.ensures.1 ∙ is) in
    absurd (omega arith)
