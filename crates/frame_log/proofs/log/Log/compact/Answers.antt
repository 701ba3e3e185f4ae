use Rattle.std.proofs.Common.{ℕ, List, replicate, arith}
use Rattle.std.proofs.lemmas.List.{length-replicate}
use Rattle.frame_log.proofs.Moves.{near_of, shut_of, stands_since}
use Rattle.frame_log.proofs.log.Log.compact.Goals as goal

pub compact_on-requires-clause-small : goal.compact_on-requires-clause-small
compact_on-requires-clause-small g c =
    let count : ℕ = g.I.Image.count c.args.image.now in
    let held : List ℕ = replicate count 0 in
    omega (arith, c.size-size.ensures held (length-replicate count 0), c.requires.size held (length-replicate count 0))

pub compact_on-requires-clause-stands : goal.compact_on-requires-clause-stands
compact_on-requires-clause-stands g c tells =
    let was = c.requires.stands tells in
    (was.0, was.1, was.2.is_base, was.3, was.4, shut_of was.0 (g.D.Disk.state c.args.disk.now) c.args.self.now was.1 was.2)

pub returns-in_err-next-clause-any_moment : goal.returns-in_err-next-clause-any_moment
returns-in_err-next-clause-any_moment g c tells base payloads s knows all =
    c.compact_on.ensures.any_moment tells base payloads s.is_base knows all (shut_of base (g.D.Disk.state c.args.disk.now) c.args.self.now payloads s)

pub returns-clause-any_moment : goal.returns-clause-any_moment
returns-clause-any_moment g c tells base payloads s knows all =
    c.compact_on.ensures.any_moment tells base payloads s.is_base knows all (shut_of base (g.D.Disk.state c.args.disk.now) c.args.self.now payloads s)

pub returns-clause-done : goal.returns-clause-done
returns-clause-done g c tells base payloads s knows all =
    let m = c.in_ok-next.ensures.moved tells base payloads s.is_base knows all (shut_of base (g.D.Disk.state c.args.disk.now) c.args.self.now payloads s) in
    (m.0, stands_since m.0 _ _ m.1 c.requires.settled m.4, m.2, m.3)

pub compact_on-requires-clause-selectors : goal.compact_on-requires-clause-selectors
compact_on-requires-clause-selectors g c = near_of c.args.self.now.area c.args.self.now.area_in
