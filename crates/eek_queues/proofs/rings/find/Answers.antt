use Rattle.std.proofs.Common.{◌≡◌, ◌<◌, ◌∙◌, length, subst, ap, arith}
use Rattle.eek_queues.specs.declared.rings.Ring.{Ring}
use Rattle.eek_queues.proofs.RingLemmas.{PartedAt, absent-past, absent-place}
use Rattle.eek_queues.proofs.rings.find.Goals as goal

pub returns-then-at-len-clause-none : goal.returns-then-at-len-clause-none
returns-then-at-len-clause-none c =
    let end : c.place_of_birth-at.result ≡ length c.args.rings.now.items = let e = c.if-at-len.true in omega arith in
    absent-past c.args.rings.now.items c.args.birth (subst (PartedAt c.args.rings.now.items c.args.birth) end c.place_of_birth-at.ensures.parted)

pub returns-clause-none : goal.returns-clause-none
returns-clause-none c =
    let inside : c.place_of_birth-at.result < length c.args.rings.now.items = let e = c.if-at-len.false in let m = c.place_of_birth-at.ensures.most in omega arith in
    absent-place c.args.rings.now.items c.args.birth c.place_of_birth-at.result c.index.result.now c.requires inside c.place_of_birth-at.ensures.parted
    (λ e. c.if-index-birth.false (ap (λ (r : Ring). r.birth) c.index.ensures ∙ e))
