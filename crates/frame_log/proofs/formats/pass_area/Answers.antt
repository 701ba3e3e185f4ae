use Rattle.std.proofs.Common.{rules, ◌≡◌, ◌+◌, ◌<◌, ◌≤◌, ◌^◌, ℕ, List, false, length, take, drop, IsTrue, sym, subst, arith}
use Rattle.std.specs.Int.{w64, to_be_bytes}
use Rattle.frame_log.specs.Walked.{BreaksAt}
use Rattle.frame_log.proofs.FoundLemmas.{area_breaks}
use Rattle.frame_log.proofs.formats.pass_area.Goals as goal

pub returns-in_err-at-clause-damaged : goal.returns-in_err-at-clause-damaged
returns-in_err-at-clause-damaged g c at is tells =
    let R = (g.D.Disk.state c.args.disk.now).reads c.args.file in
    let place = c.args.place in
    let image : ℕ = c.in_ok-image.image in
    let tells1 = subst (λ b. IsTrue b) (sym c.read_number.ensures.run.tells) tells in
    let number : to_be_bytes w64 image ≡ take 8 (drop place R) = c.in_ok-image.ensures.number tells in
    let small : image < 2 ^ 64 = omega (arith, c.if-size-place-2.false, c.requires.limit) in
    let room : place + 8 ≤ length R = omega (arith, c.if-size-place.false, c.requires.size tells, c.requires.some) in
    let inside : place + 8 + image < length R = omega (arith, room, c.if-size-place-2.false, c.requires.size tells) in
    let breaks : BreaksAt false R (place + 8 + image) at = subst (λ (l : List ℕ). BreaksAt false l (place + 8 + image) at) (c.read_number.ensures.same.reads tells) (c.in_err-at.ensures.damaged at (search rules) tells1) in
    area_breaks R c.args.size place image small room number inside (omega (arith, c.requires.size tells)) at breaks
