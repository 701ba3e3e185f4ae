use Rattle.std.proofs.Common.{rules, ◌≡◌, ◌≤◌, List, ℕ, length, IsTrue, true, false, sym, ◌∙◌, ap, subst, arith}
use Rattle.hk_base.specs.Disk.{DiskState, Tells, CallOn}
use Rattle.frame_log.specs.Format.{magic, starts_with, NoLog}
use Rattle.frame_log.specs.Scan.{IsScanned}
use Rattle.frame_log.proofs.Found.{head_is, other_magic, scanned, reads_as}
use Rattle.frame_log.proofs.Viewings.{view_ahead}
use Rattle.frame_log.proofs.viewing.view_passed.Goals as goal

still : {file : ℕ} {old new : DiskState} → CallOn file old new → Tells old → Tells new
still call tells = subst (λ b. IsTrue b) (sym call.tells) tells

pub returns-then-not-is_magic-clause-damaged : goal.returns-then-not-is_magic-clause-damaged
returns-then-not-is_magic-clause-damaged g c at is tells =
    let file = c.args.file in
    let R = (g.D.Disk.state c.args.disk.now).reads file in
    let long : 10 ≤ length R = omega (arith, c.requires.size tells, c.requires.long) in
    let head : starts_with (magic file) c.read.new.buf ≡ starts_with (magic file) R =
    head_is file c.in_ok-read.field-0 c.read.new.buf R (omega arith) long (omega (arith, c.in_ok-read.ensures.answer tells)) (c.in_ok-read.ensures.bytes tells) in
    let where_at : 0 ≡ at = cc is in
    let other : c.is_magic.result ≡ false = search rules in
    other_magic file R long (sym head ∙ sym c.is_magic.ensures ∙ other) ∙ ap NoLog where_at

pub returns-clause-log : goal.returns-clause-log
returns-clause-log g c tells =
    let file = c.args.file in
    let R = (g.D.Disk.state c.args.disk.now).reads file in
    let tells1 = still c.read.ensures.call tells in
    let R1 = c.read.ensures.same.reads tells in
    let long : 10 ≤ length R = omega (arith, c.requires.size tells, c.requires.long) in
    let head : starts_with (magic file) c.read.new.buf ≡ starts_with (magic file) R =
    head_is file c.in_ok-read.field-0 c.read.new.buf R (omega arith) long (omega (arith, c.in_ok-read.ensures.answer tells)) (c.in_ok-read.ensures.bytes tells) in
    let matches : c.is_magic.result ≡ true = search rules in
    let begins : starts_with (magic file) R ≡ true = sym head ∙ sym c.is_magic.ensures ∙ matches in
    let s = subst (λ (l : List ℕ). IsScanned l c.in_ok-pass_frames.field-0) R1 (c.in_ok-pass_frames.ensures.scan tells1) in
    let is = scanned file R c.in_ok-pass_frames.field-0 s begins in
    let e = c.new.ensures in (
      s.payloads,
      c.in_ok-pass_frames.field-0.gate,
      reads_as file s.payloads _ s.rest R s.sized is s.shut long,
      view_ahead (g.D.Disk.state c.pass_frames.new.disk) file R c.new.result s.payloads _ s.rest s.sized is s.shut (c.pass_frames.ensures.same.reads tells1 ∙ R1) e.file (e.size ∙ c.requires.size tells) e.at e.window,
    )
