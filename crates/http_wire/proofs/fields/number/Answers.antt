use Rattle.std.proofs.Common.{◌+◌, ◌*◌, ◌∙◌, ap, arith, refl, get_or}
use Rattle.http_wire.proofs.NumberLemmas.{DigitMore, digit_more}
use Rattle.http_wire.proofs.fields.number.Goals as goal

pub overflow_mul-number : goal.overflow_mul-number
overflow_mul-number c =
    let digits = c.args.digits.now in
    let i = c.digits.digit-index in
    let more : DigitMore digits i c.digits.number (get_or digits i 0) = digit_more digits i c.digits.number (get_or digits i 0) c.requires.digits c.requires.few c.digits-test.true c.digits.invariant refl in
    omega (arith, more.fits)

pub overflow_add-number : goal.overflow_add-number
overflow_add-number c =
    let digits = c.args.digits.now in
    let i = c.digits.digit-index in
    let more : DigitMore digits i c.digits.number (get_or digits i 0) = digit_more digits i c.digits.number (get_or digits i 0) c.requires.digits c.requires.few c.digits-test.true c.digits.invariant refl in
    omega (arith, more.fits, more.high, c.from.ensures)

pub digits-preserved : goal.digits-preserved
digits-preserved c =
    let digits = c.args.digits.now in
    let i = c.digits.digit-index in
    let more : DigitMore digits i c.digits.number (get_or digits i 0) = digit_more digits i c.digits.number (get_or digits i 0) c.requires.digits c.requires.few c.digits-test.true c.digits.invariant refl in
    ap (λ n. c.digits.number * 10 + n) c.from.ensures ∙ more.more
