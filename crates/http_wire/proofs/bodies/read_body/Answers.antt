use Rattle.std.proofs.Common.{◌≤◌, ◌-◌, length, subst, sym, arith}
use Rattle.std.specs.Io.KnownBytes.{Consumes}
use Rattle.http_wire.specs.Reading.{ahead}
use Rattle.http_wire.proofs.UsedLemmas.{used_from_buffer, within_size}
use Rattle.http_wire.proofs.bodies.read_body.Goals as goal

pub bytes-preserved : goal.bytes-preserved
bytes-preserved g c =
    let start = ahead c.args.buffer.now (g.S.Source.left c.args.source.now) in
    let here = ahead c.bytes.buffer (g.S.Source.left c.bytes.source) in
    let left = g.S.Source.left c.fill.new.source in
    let n = c.args.size - c.len-in-bytes.result in
    record {
      used = subst (λ body. Consumes start (ahead c.give.new.self left) body) (sym c.in_ok-give-in-More.ensures.given) (used_from_buffer n start here c.fill.new.self c.give.new.self left c.bytes.body c.bytes.invariant.used c.in-More.ensures.kept c.in_ok-give-in-More.ensures.left);
      within = subst (λ body. length body ≤ c.args.size) (sym c.in_ok-give-in-More.ensures.given) (within_size n c.args.size c.bytes.body c.fill.new.self (omega arith));
      later = omega (arith, c.in-More.ensures.later);
    }
