use Rattle.std.proofs.Common.{◌≡◌, ◌≢◌, ◌+◌, ◌<◌, ◌≤◌, ℕ, List, None, length, IsTrue, sym, ◌∙◌, ap, subst, arith}
use Rattle.frame_log.specs.FormatTwo.{Damage, byte_at}
use Rattle.frame_log.specs.FoundIn.{IsChosen}
use Rattle.frame_log.proofs.FoundLemmas.{no_selectors, none_counts}
use Rattle.frame_log.proofs.selecting.read_choice.Goals as goal

pub returns-then-size-place-lt-SELECTORS_SIZE-clause-damaged : goal.returns-then-size-place-lt-SELECTORS_SIZE-clause-damaged
returns-then-size-place-lt-SELECTORS_SIZE-clause-damaged g c at is tells =
    let R = (g.D.Disk.state c.args.disk.now).reads c.args.file in
    let place : c.args.place ≡ c.args.gate + 15 = c.if-place-gate.false in
    let shut : byte_at (c.args.gate + 14) R ≢ 1 = λ one. c.if-end-eq-OPEN.false (sym (c.in_ok-end.ensures.byte tells) ∙ one) in
    let short : length R < c.args.place + 34 = omega (arith, c.requires.size tells, c.if-size-place-lt-SELECTORS_SIZE.true) in
    let where_at : c.args.place ≡ at = cc is in
    no_selectors R c.args.gate c.args.place place shut short ∙ ap Damage where_at

pub returns-in-None-clause-damaged : goal.returns-in-None-clause-damaged
returns-in-None-clause-damaged g c at is tells =
    let R = (g.D.Disk.state c.args.disk.now).reads c.args.file in
    let place : c.args.place ≡ c.args.gate + 15 = c.if-place-gate.false in
    let shut : byte_at (c.args.gate + 14) R ≢ 1 = λ one. c.if-end-eq-OPEN.false (sym (c.in_ok-end.ensures.byte tells) ∙ one) in
    let room : c.args.place + 34 ≤ length R = omega (arith, c.requires.size tells, c.if-size-place-lt-SELECTORS_SIZE.false, place, c.requires.gate) in
    let tells1 = subst (λ b. IsTrue b) (sym c.read_byte.ensures.run.tells) tells in
    let none : c.in_ok-choice.field-0 ≡ None = cc c.in-None.is in
    let chosen : IsChosen R c.args.place None = subst (IsChosen R c.args.place) none (subst (λ (l : List ℕ). IsChosen l c.args.place c.in_ok-choice.field-0) (c.read_byte.ensures.same.reads tells) (c.in_ok-choice.ensures.choice tells1)) in
    let where_at : c.args.place ≡ at = cc is in
    none_counts R c.args.gate c.args.place place shut room chosen ∙ ap Damage where_at
