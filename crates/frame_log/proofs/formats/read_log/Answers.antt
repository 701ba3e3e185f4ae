use Rattle.std.proofs.Common.{rules, ◌≡◌, ◌<◌, ℕ, List, true, length, IsTrue, refl, sym, subst, arith}
use Rattle.frame_log.specs.Format.{magic, starts_with}
use Rattle.frame_log.specs.Walked.{BreaksAt, IsStop}
use Rattle.frame_log.specs.declared.walking.Stop.{Stop}
use Rattle.frame_log.specs.declared.walking.Stop.TheVariants as stops
use Rattle.frame_log.proofs.FoundLemmas.{plain_breaks, plain_found}
use Rattle.frame_log.proofs.formats.read_log.Goals as goal

pub returns-in_err-at-clause-damaged : goal.returns-in_err-at-clause-damaged
returns-in_err-at-clause-damaged g c at is tells =
    let R = (g.D.Disk.state c.args.disk.now).reads c.args.file in
    let long : 9 < length R = omega (arith, c.requires.size tells, c.requires.place) in
    let tells1 = subst (λ b. IsTrue b) (sym c.read_magic.ensures.run.tells) tells in
    let begins : starts_with (magic c.args.file) R ≡ true = c.in_ok-read_magic.ensures.magic tells in
    let breaks : BreaksAt true R 8 at = subst (λ (l : List ℕ). BreaksAt true l 8 at) (c.read_magic.ensures.same.reads tells) (c.in_err-at.ensures.damaged at (search rules) tells1) in
    plain_breaks c.args.file R long begins at breaks.walked breaks.inside breaks.broken

pub returns-in-End-clause-found : goal.returns-in-End-clause-found
returns-in-End-clause-found g c tells =
    let R = (g.D.Disk.state c.args.disk.now).reads c.args.file in
    let long : 9 < length R = omega (arith, c.requires.size tells, c.requires.place) in
    let tells1 = subst (λ b. IsTrue b) (sym c.read_magic.ensures.run.tells) tells in
    let begins : starts_with (magic c.args.file) R ≡ true = c.in_ok-read_magic.ensures.magic tells in
    let is : c.in_ok-at.field-0 ≡ stops.End c.in-End.at c.in-End.gate = cc c.in-End.is in
    let stop : IsStop true R 8 (stops.End c.in-End.at c.in-End.gate) = subst (λ (l : List ℕ). IsStop true l 8 (stops.End c.in-End.at c.in-End.gate)) (c.read_magic.ensures.same.reads tells) (subst (λ (s : Stop). IsStop true ((g.D.Disk.state c.read_magic.new.disk).reads c.args.file) 8 s) is (c.in_ok-at.ensures.stop tells1)) in
    plain_found c.args.file R long begins c.in-End.at stop.0 _ refl refl refl refl stop.1
