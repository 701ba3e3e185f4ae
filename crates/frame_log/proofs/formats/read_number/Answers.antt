use Rattle.std.proofs.Common.{◌≡◌, ℕ, length, take, drop, ◌∙◌, ap, arith}
use Rattle.frame_log.proofs.formats.read_number.Goals as goal

pub returns-clause-number : goal.returns-clause-number
returns-clause-number g c tells =
    let R = (g.D.Disk.state c.args.disk.now).reads c.args.file in
    let size : length c.read_all.new.buf ≡ 8 = omega arith in
    c.number_of.ensures ∙ c.in_ok-read_all.ensures.bytes tells ∙ ap (λ (k : ℕ). take k (drop c.args.at R)) size
