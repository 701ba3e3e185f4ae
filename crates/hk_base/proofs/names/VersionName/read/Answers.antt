use Rattle.std.proofs.Common.{◌≡◌, sym, ◌∙◌, subst, arith}
use Rattle.hk_base.specs.Names.{IsKeyName}
use Rattle.hk_base.proofs.Versions.{cut_is, decimal_once, joined}
use Rattle.hk_base.proofs.names.VersionName.read.Goals as goal

pub returns-in_err-key : goal.returns-in_err-key
returns-in_err-key c = rw c.from_residual-in_err-key.ensures (λ key number name below is.
    let cut = cut_is c.args.bytes.now key number c.in_ok-at.at name is (sym c.at_sign.ensures.first ∙ c.in_ok-at.was) in
    c.in_err-key.ensures (subst IsKeyName (sym cut.0) name))

pub returns-in_err-number : goal.returns-in_err-number
returns-in_err-number c = rw c.from_residual-in_err-number.ensures (λ key number name below is.
    let cut = cut_is c.args.bytes.now key number c.in_ok-at.at name is (sym c.at_sign.ensures.first ∙ c.in_ok-at.was) in
    c.in_err-number.ensures number (omega arith) cut.1)

pub returns-then-number-gt65535 : goal.returns-then-number-gt65535
returns-then-number-gt65535 c = λ key number name below is.
    let cut = cut_is c.args.bytes.now key number c.in_ok-at.at name is (sym c.at_sign.ensures.first ∙ c.in_ok-at.was) in
    let same : c.in_ok-number.number ≡ number = decimal_once c.in_ok-number.number number c.in_ok-number.ensures.0 (omega arith) (sym c.in_ok-number.ensures.1 ∙ cut.1) in
    absurd (omega arith)

pub returns : goal.returns
returns c =
    let key = c.in_ok-key.ensures in
    (subst IsKeyName (sym key.1) key.0, joined c.args.bytes.now _ _ c.in_ok-at.at (sym c.at_sign.ensures.first ∙ c.in_ok-at.was) (sym key.1) c.in_ok-number.ensures.1)
