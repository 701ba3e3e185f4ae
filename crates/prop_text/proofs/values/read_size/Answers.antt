use Rattle.std.proofs.Common.{◌≡◌, ◌<◌, ◌^◌, sym, ◌∙◌, arith}
use Rattle.hk_base.proofs.Versions.{decimal_once}
use Rattle.prop_text.proofs.values.read_size.Goals as goal

pub returns-then-number-eq0 : goal.returns-then-number-eq0
returns-then-number-eq0 c = λ prop spelled.
    let small : spelled.number < 2 ^ 64 = omega (arith, spelled.few, c.most-most.ensures.value, c.most-most.ensures.few) in
    let same : c.in-Some.number ≡ spelled.number = decimal_once c.in-Some.number spelled.number c.in-Some.ensures.0 small (sym c.in-Some.ensures.1 ∙ spelled.value_is) in
    absurd (omega (arith, spelled.some))

pub returns-then-number-most : goal.returns-then-number-most
returns-then-number-most c = λ prop spelled.
    let small : spelled.number < 2 ^ 64 = omega (arith, spelled.few, c.most-most.ensures.value, c.most-most.ensures.few) in
    let same : c.in-Some.number ≡ spelled.number = decimal_once c.in-Some.number spelled.number c.in-Some.ensures.0 small (sym c.in-Some.ensures.1 ∙ spelled.value_is) in
    absurd (omega (arith, spelled.few, c.most-most.ensures.value))
