use Rattle.std.proofs.Common.{◌<◌, List, ℕ, arith, length, subst, sym}
use Rattle.std.proofs.lemmas.Bool.Decides.{nat_tests}
use Rattle.std.specs.Str.Parse.{ParsesUnsigned}
use Rattle.kms_rest.proofs.QueryLemmas.{count_parsed, digits_utf8}
use Rattle.kms_rest.proofs.query.read_count.Goals as goal

pub returns-in_default : goal.returns-in_default
returns-in_default c = absurd (c.in_default.ensures.none (digits_utf8 c.args.text.now (sym c.if-not-all_digits.ensures)))

pub returns : goal.returns
returns c =
    let some : 0 < length c.args.text.now = grind (arith, nat_tests) in
    let parsed = subst (λ (t : List ℕ). ParsesUnsigned 32 10 t c.parse.result) c.in-Some.ensures.some c.parse.ensures.value.0 in
    rw c.ok.ensures.value (count_parsed _ c.args.text.now c.parse.result parsed (sym c.if-not-all_digits.ensures) some)
