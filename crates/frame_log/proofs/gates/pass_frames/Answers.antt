use Rattle.std.proofs.Common.{◌≡◌, ◌-◌, length, drop, refl, IsTrue, sym, ◌∙◌, ap, subst, arith, length-drop}
use Rattle.hk_base.proofs.Runs.{begin, compose, both_read}
use Rattle.frame_log.specs.declared.gates.Next.TheVariants as nexts
use Rattle.frame_log.specs.Format.{NoLog, part, Broken}
use Rattle.frame_log.specs.Scan.{IsNextItem, IsEnd, NextFits}
use Rattle.frame_log.proofs.Goings.{going}
use Rattle.frame_log.proofs.Scans.{first, next_counted, last, none}
use Rattle.frame_log.proofs.Windows.{nothing, shown, still_shown}
use Rattle.frame_log.proofs.gates.pass_frames.Goals as goal

pub gates-init : goal.gates-init
gates-init g c = record {
  inside = c.requires.place;
  going = begin c.args.file (g.D.Disk.state c.args.disk.now) _;
  same = record { reads = λ tells. refl; leaves = λ b h. h };
  tells = λ tells. first c.args.size _ (c.requires.size tells) (omega arith);
  window = λ tells. nothing ((g.D.Disk.state c.args.disk.now).reads c.args.file) c.empty-window.result c.empty-window.ensures;
}

pub gates-preserved : goal.gates-preserved
gates-preserved g c =
    let inv = c.gates.invariant in
    let fits : NextFits (c.args.size - c.gates.at) (nexts.Payload c.in-Payload.count) = c.in-Payload.ensures.fits in
    record {
      inside = omega (arith, fits.0);
      going = compose inv.going (going c.show.ensures.run c.show.ensures.moments) inv.same.leaves;
      same = both_read inv.going inv.same c.show.ensures.same;
      tells = λ tells.
          let R = (g.D.Disk.state c.args.disk.now).reads c.args.file in
          let tells1 = subst (λ b. IsTrue b) (sym inv.going.run.tells) tells in
          let shows = still_shown R _ c.gates.window c.show.new.self c.gates.at 5 (inv.same.reads tells) (c.in_ok-show.ensures.shows tells1) (inv.window tells) in
          let long : length (drop c.gates.at R) ≡ c.args.size - c.gates.at = omega (arith, length-drop c.gates.at R, c.requires.size tells) in
          let here : IsNextItem (drop c.gates.at R) (nexts.Payload c.in-Payload.count) =
          c.in-Payload.ensures.next (drop c.gates.at R) (sym long) (c.bytes_at.ensures ∙ shown R c.show.new.self c.gates.at 5 (omega (arith, c.requires.size tells, inv.inside)) shows) in
          next_counted c.args.size R c.gates.at (inv.tells tells) c.in-Payload.count (omega (arith, long, fits.0)) here;
      window = λ tells.
          let R = (g.D.Disk.state c.args.disk.now).reads c.args.file in
          let tells1 = subst (λ b. IsTrue b) (sym inv.going.run.tells) tells in
          (still_shown R _ c.gates.window c.show.new.self c.gates.at 5 (inv.same.reads tells) (c.in_ok-show.ensures.shows tells1) (inv.window tells)).bytes;
    }

pub returns-in-End-clause-scan : goal.returns-in-End-clause-scan
returns-in-End-clause-scan g c tells =
    let inv = c.gates.invariant in
    let R = (g.D.Disk.state c.args.disk.now).reads c.args.file in
    let tells1 = subst (λ b. IsTrue b) (sym inv.going.run.tells) tells in
    let shows = still_shown R _ c.gates.window c.show.new.self c.gates.at 5 (inv.same.reads tells) (c.in_ok-show.ensures.shows tells1) (inv.window tells) in
    let long : length (drop c.gates.at R) ≡ c.args.size - c.gates.at = omega (arith, length-drop c.gates.at R, c.requires.size tells) in
    let here : IsEnd (drop c.gates.at R) c.in-End.gate =
    c.in-End.ensures.next (drop c.gates.at R) (sym long) (c.bytes_at.ensures ∙ shown R c.show.new.self c.gates.at 5 (omega (arith, c.requires.size tells, inv.inside)) shows) in
    last c.args.size R c.gates.at (inv.tells tells) _ refl here

pub returns-in-Broken-clause-damaged : goal.returns-in-Broken-clause-damaged
returns-in-Broken-clause-damaged g c at is tells =
    let inv = c.gates.invariant in
    let R = (g.D.Disk.state c.args.disk.now).reads c.args.file in
    let tells1 = subst (λ b. IsTrue b) (sym inv.going.run.tells) tells in
    let shows = still_shown R _ c.gates.window c.show.new.self c.gates.at 5 (inv.same.reads tells) (c.in_ok-show.ensures.shows tells1) (inv.window tells) in
    let long : length (drop c.gates.at R) ≡ c.args.size - c.gates.at = omega (arith, length-drop c.gates.at R, c.requires.size tells) in
    let here : part (drop c.gates.at R) ≡ Broken =
    c.in-Broken.ensures.next (drop c.gates.at R) (sym long) (c.bytes_at.ensures ∙ shown R c.show.new.self c.gates.at 5 (omega (arith, c.requires.size tells, inv.inside)) shows) in
    let where_at : c.gates.at ≡ at = cc is in
    none c.args.size R c.gates.at (inv.tells tells) (omega (arith, long, inv.inside)) here ∙ ap NoLog where_at

pub returns-in_err-show-clause-run : goal.returns-in_err-show-clause-run
returns-in_err-show-clause-run g c = (compose c.gates.invariant.going (going c.show.ensures.run c.show.ensures.moments) c.gates.invariant.same.leaves).run

pub returns-in_err-show-clause-moments : goal.returns-in_err-show-clause-moments
returns-in_err-show-clause-moments g c = (compose c.gates.invariant.going (going c.show.ensures.run c.show.ensures.moments) c.gates.invariant.same.leaves).moments

pub returns-in_err-show-clause-same : goal.returns-in_err-show-clause-same
returns-in_err-show-clause-same g c = both_read c.gates.invariant.going c.gates.invariant.same c.show.ensures.same

pub returns-in-End-clause-run : goal.returns-in-End-clause-run
returns-in-End-clause-run g c = (compose c.gates.invariant.going (going c.show.ensures.run c.show.ensures.moments) c.gates.invariant.same.leaves).run

pub returns-in-End-clause-moments : goal.returns-in-End-clause-moments
returns-in-End-clause-moments g c = (compose c.gates.invariant.going (going c.show.ensures.run c.show.ensures.moments) c.gates.invariant.same.leaves).moments

pub returns-in-End-clause-same : goal.returns-in-End-clause-same
returns-in-End-clause-same g c = both_read c.gates.invariant.going c.gates.invariant.same c.show.ensures.same

pub returns-in-Broken-clause-run : goal.returns-in-Broken-clause-run
returns-in-Broken-clause-run g c = (compose c.gates.invariant.going (going c.show.ensures.run c.show.ensures.moments) c.gates.invariant.same.leaves).run

pub returns-in-Broken-clause-moments : goal.returns-in-Broken-clause-moments
returns-in-Broken-clause-moments g c = (compose c.gates.invariant.going (going c.show.ensures.run c.show.ensures.moments) c.gates.invariant.same.leaves).moments

pub returns-in-Broken-clause-same : goal.returns-in-Broken-clause-same
returns-in-Broken-clause-same g c = both_read c.gates.invariant.going c.gates.invariant.same c.show.ensures.same
