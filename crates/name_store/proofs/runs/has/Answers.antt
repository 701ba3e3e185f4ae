use Rattle.std.proofs.Common.{◌≡◌, ◌-◌, ◌<◌, ◌∙◌, suc, length, subst, sym, ap, arith}
use Rattle.std.specs.Prelude.{nat_le}
use Rattle.name_store.specs.declared.runs.Run.{Run}
use Rattle.name_store.proofs.RunLemmas.{PartedAt, in_last, none_before}
use Rattle.name_store.proofs.runs.has.Goals as goal

pub returns-then-place-eq0 : goal.returns-then-place-eq0
returns-then-place-eq0 c = sym (none_before c.args.runs.now.items c.args.id (subst (PartedAt c.args.runs.now.items c.args.id) c.if-place-eq0.true c.place-place.ensures.parted))

pub returns : goal.returns
returns c =
    let runs = c.args.runs.now.items in
    let at = c.place-place.result - 1 in
    let apart = c.if-place-eq0.false in
    let is : c.place-place.result ≡ suc at = omega (arith, apart) in
    let most = c.place-place.ensures.most in
    let within : at < length runs = omega (arith, is, most) in
    sym (in_last runs c.args.id at c.index.result.now c.requires within (subst (PartedAt runs c.args.id) is c.place-place.ensures.parted)
    ∙ ap (λ (run : Run). nat_le c.args.id run.last) (sym c.index.ensures))
