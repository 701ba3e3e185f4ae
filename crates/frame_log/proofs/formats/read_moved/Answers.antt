use Rattle.std.proofs.Common.{rules, ◌≡◌, ◌<◌, ℕ, List, length, drop, IsTrue, refl, sym, ◌∙◌, ap, subst, arith}
use Rattle.frame_log.specs.FormatTwo.{Damage, area_in}
use Rattle.frame_log.specs.FoundIn.{IsAreaIn, IsChoice}
use Rattle.frame_log.proofs.FoundLemmas.{area_found, by_moved, to_area, too_near}
use Rattle.frame_log.proofs.formats.read_moved.Goals as goal

pub returns-in_err-choice-clause-damaged : goal.returns-in_err-choice-clause-damaged
returns-in_err-choice-clause-damaged g c at is tells =
    let R = (g.D.Disk.state c.args.disk.now).reads c.args.file in
    let long : 9 < length R = omega (arith, c.requires.size tells, c.requires.gate) in
    by_moved c.args.file R c.args.gate c.args.place (c.requires.moves tells) long ∙ c.in_err-choice.ensures.damaged at (search rules) tells

pub returns-then-area-place-clause-damaged : goal.returns-then-area-place-clause-damaged
returns-then-area-place-clause-damaged g c at is tells =
    let R = (g.D.Disk.state c.args.disk.now).reads c.args.file in
    let long : 9 < length R = omega (arith, c.requires.size tells, c.requires.gate) in
    let choice : IsChoice R c.args.gate c.args.place c.in_ok-choice.choice = c.in_ok-choice.ensures.choice tells in
    let where_at : c.in_ok-choice.choice.selected.place ≡ at = cc is in
    by_moved c.args.file R c.args.gate c.args.place (c.requires.moves tells) long
    ∙ too_near R c.args.gate c.args.place c.in_ok-choice.choice choice c.if-area-place.true
    ∙ ap Damage where_at

pub returns-in_err-found-clause-damaged : goal.returns-in_err-found-clause-damaged
returns-in_err-found-clause-damaged g c at is tells =
    let R = (g.D.Disk.state c.args.disk.now).reads c.args.file in
    let area : ℕ = c.in_ok-choice.choice.selected.place in
    let long : 9 < length R = omega (arith, c.requires.size tells, c.requires.gate) in
    let choice : IsChoice R c.args.gate c.args.place c.in_ok-choice.choice = c.in_ok-choice.ensures.choice tells in
    let tells1 = subst (λ b. IsTrue b) (sym c.read_choice.ensures.run.tells) tells in
    let breaks : area_in c.args.size area (drop area R) ≡ Damage at = subst (λ (l : List ℕ). area_in c.args.size area (drop area l) ≡ Damage at) (c.read_choice.ensures.same.reads tells) (c.in_err-found.ensures.damaged at (search rules) tells1) in
    by_moved c.args.file R c.args.gate c.args.place (c.requires.moves tells) long
    ∙ to_area R c.args.gate c.args.place c.in_ok-choice.choice choice c.if-area-place.false
    ∙ ap (λ (n : ℕ). area_in n area (drop area R)) (sym (c.requires.size tells))
    ∙ breaks

pub returns-clause-found : goal.returns-clause-found
returns-clause-found g c tells =
    let R = (g.D.Disk.state c.args.disk.now).reads c.args.file in
    let area : ℕ = c.in_ok-choice.choice.selected.place in
    let choice : IsChoice R c.args.gate c.args.place c.in_ok-choice.choice = c.in_ok-choice.ensures.choice tells in
    let tells1 = subst (λ b. IsTrue b) (sym c.read_choice.ensures.run.tells) tells in
    let found : IsAreaIn R area c.in_ok-found.found = subst (λ (l : List ℕ). IsAreaIn l area c.in_ok-found.found) (c.read_choice.ensures.same.reads tells) (c.in_ok-found.ensures.area tells1) in
    area_found c.args.file R c.args.gate c.args.place (c.requires.moves tells) c.in_ok-choice.choice choice c.if-area-place.false c.in_ok-found.found found (omega (arith, c.requires.size tells, c.requires.limit)) _ refl refl refl refl refl
