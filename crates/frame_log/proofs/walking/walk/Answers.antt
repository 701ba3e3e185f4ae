use Rattle.std.proofs.Common.{◌≡◌, ◌-◌, length, drop, refl, IsTrue, sym, ◌∙◌, subst, arith, length-drop}
use Rattle.hk_base.proofs.Runs.{begin, compose, both_read}
use Rattle.frame_log.specs.declared.walking.Item.TheVariants as items
use Rattle.frame_log.specs.Format.{part, Broken}
use Rattle.frame_log.specs.Scan.{IsEnd, IsFrame}
use Rattle.frame_log.specs.FormatTwo.{moved}
use Rattle.frame_log.specs.Walked.{BreaksAt, IsItem, ItemFits}
use Rattle.frame_log.proofs.Goings.{going}
use Rattle.frame_log.proofs.WalkLemmas.{at_start, next_counted}
use Rattle.frame_log.proofs.Windows.{nothing, shown, still_shown}
use Rattle.frame_log.proofs.walking.walk.Goals as goal

pub gates-init : goal.gates-init
gates-init g c = record {
  inside = c.requires.place;
  going = begin c.args.file (g.D.Disk.state c.args.disk.now) _;
  same = record { reads = λ tells. refl; leaves = λ b h. h };
  tells = λ tells. at_start c.args.seek ((g.D.Disk.state c.args.disk.now).reads c.args.file) c.args.from;
  window = λ tells. nothing ((g.D.Disk.state c.args.disk.now).reads c.args.file) c.empty-window.result c.empty-window.ensures;
}

pub gates-preserved : goal.gates-preserved
gates-preserved g c =
    let inv = c.gates.invariant in
    let fits : ItemFits c.args.seek (c.args.size - c.gates.at) (items.Payload c.in-Payload.count) = c.in-Payload.ensures.fits in
    record {
      inside = omega (arith, fits);
      going = compose inv.going (going c.show.ensures.run c.show.ensures.moments) inv.same.leaves;
      same = both_read inv.going inv.same c.show.ensures.same;
      tells = λ tells.
          let R = (g.D.Disk.state c.args.disk.now).reads c.args.file in
          let tells1 = subst (λ b. IsTrue b) (sym inv.going.run.tells) tells in
          let shows = still_shown R _ c.gates.window c.show.new.self c.gates.at 14 (inv.same.reads tells) (c.in_ok-show.ensures.shows tells1) (inv.window tells) in
          let long : length (drop c.gates.at R) ≡ c.args.size - c.gates.at = omega (arith, length-drop c.gates.at R, c.requires.size tells) in
          let here : IsItem c.args.seek (drop c.gates.at R) (items.Payload c.in-Payload.count) =
          c.in-Payload.ensures.next (drop c.gates.at R) (sym long) (c.bytes_at.ensures ∙ shown R c.show.new.self c.gates.at 14 (omega (arith, c.requires.size tells, inv.inside)) shows) in
          next_counted c.args.seek R c.args.from c.gates.at (inv.tells tells) c.in-Payload.count (omega (arith, long, fits)) here.0 here.1;
      window = λ tells.
          let R = (g.D.Disk.state c.args.disk.now).reads c.args.file in
          let tells1 = subst (λ b. IsTrue b) (sym inv.going.run.tells) tells in
          (still_shown R _ c.gates.window c.show.new.self c.gates.at 14 (inv.same.reads tells) (c.in_ok-show.ensures.shows tells1) (inv.window tells)).bytes;
    }

pub returns-in-Moved-clause-stop : goal.returns-in-Moved-clause-stop
returns-in-Moved-clause-stop g c tells =
    let inv = c.gates.invariant in
    let R = (g.D.Disk.state c.args.disk.now).reads c.args.file in
    let tells1 = subst (λ b. IsTrue b) (sym inv.going.run.tells) tells in
    let shows = still_shown R _ c.gates.window c.show.new.self c.gates.at 14 (inv.same.reads tells) (c.in_ok-show.ensures.shows tells1) (inv.window tells) in
    let long : length (drop c.gates.at R) ≡ c.args.size - c.gates.at = omega (arith, length-drop c.gates.at R, c.requires.size tells) in
    let here : IsFrame (drop c.gates.at R) (moved c.in-Moved.place) =
    c.in-Moved.ensures.next (drop c.gates.at R) (sym long) (c.bytes_at.ensures ∙ shown R c.show.new.self c.gates.at 14 (omega (arith, c.requires.size tells, inv.inside)) shows) in
    (inv.tells tells, here)

pub returns-in-End-clause-stop : goal.returns-in-End-clause-stop
returns-in-End-clause-stop g c tells =
    let inv = c.gates.invariant in
    let R = (g.D.Disk.state c.args.disk.now).reads c.args.file in
    let tells1 = subst (λ b. IsTrue b) (sym inv.going.run.tells) tells in
    let shows = still_shown R _ c.gates.window c.show.new.self c.gates.at 14 (inv.same.reads tells) (c.in_ok-show.ensures.shows tells1) (inv.window tells) in
    let long : length (drop c.gates.at R) ≡ c.args.size - c.gates.at = omega (arith, length-drop c.gates.at R, c.requires.size tells) in
    let here : IsEnd (drop c.gates.at R) c.in-End.gate =
    c.in-End.ensures.next (drop c.gates.at R) (sym long) (c.bytes_at.ensures ∙ shown R c.show.new.self c.gates.at 14 (omega (arith, c.requires.size tells, inv.inside)) shows) in
    (inv.tells tells, here)

pub returns-in-Broken-clause-damaged : goal.returns-in-Broken-clause-damaged
returns-in-Broken-clause-damaged g c at is tells =
    let inv = c.gates.invariant in
    let R = (g.D.Disk.state c.args.disk.now).reads c.args.file in
    let tells1 = subst (λ b. IsTrue b) (sym inv.going.run.tells) tells in
    let shows = still_shown R _ c.gates.window c.show.new.self c.gates.at 14 (inv.same.reads tells) (c.in_ok-show.ensures.shows tells1) (inv.window tells) in
    let long : length (drop c.gates.at R) ≡ c.args.size - c.gates.at = omega (arith, length-drop c.gates.at R, c.requires.size tells) in
    let here : part (drop c.gates.at R) ≡ Broken =
    c.in-Broken.ensures.next (drop c.gates.at R) (sym long) (c.bytes_at.ensures ∙ shown R c.show.new.self c.gates.at 14 (omega (arith, c.requires.size tells, inv.inside)) shows) in
    let where_at : c.gates.at ≡ at = cc is in
    let breaks : BreaksAt c.args.seek R c.args.from c.gates.at = record { inside = omega (arith, c.requires.size tells, inv.inside); walked = inv.tells tells; broken = here } in
    subst (BreaksAt c.args.seek R c.args.from) where_at breaks
