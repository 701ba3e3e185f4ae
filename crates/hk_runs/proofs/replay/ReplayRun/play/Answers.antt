use Rattle.std.proofs.Common.{◌≡◌, ℕ, ◌+◌, Bool, true, false, List, Option, Some, refl, ap, sym, subst}
use Rattle.hk_base.specs.Disk.{DiskState}
use Rattle.prop_text.specs.declared.lines.PropLine.{PropLine}
use Rattle.command_io.specs.declared.ends.ReplayEnd.{ReplayEnd}
use Rattle.command_io.specs.declared.ends.ReplayEnd.TheVariants as ended
use Rattle.hk_runs.specs.declared.session.LineOutcome.{LineOutcome}
use Rattle.hk_runs.specs.declared.session.LineOutcome.TheVariants.{Played, Unwritten}
use Rattle.hk_runs.specs.Steps.{LinePlayed, PlaysSo, View, counts, end_of_play}
use Rattle.hk_runs.proofs.replay.ReplayRun.play.Goals as goal

-- a line that was read came out so
line_played : (props : List PropLine) (old new : DiskState) (v : View) (line seen : List ℕ) (last : Bool) (play known : LineOutcome) (result : Option ReplayEnd) (v' : View) (count count' : ℕ) → PlaysSo props old new v seen play v' → seen ≡ line → play ≡ known
    → result ≡ end_of_play last known → count' ≡ count + counts known → LinePlayed props old new v line last result v' count count'
line_played props old new v line seen last play known result v' count count' plays same is result_is counted = record {
  play = known;
  plays = subst (λ (l : List ℕ). PlaysSo props old new v l known v') same (subst (λ (p : LineOutcome). PlaysSo props old new v seen p v') is plays);
  result_is = result_is;
  counted = counted;
}

unwritten_end : (last : Bool) → Some ended.WriteFault ≡ end_of_play last Unwritten
unwritten_end true = refl
unwritten_end false = refl

pub returns-then-last-clause-played : goal.returns-then-last-clause-played
returns-then-last-clause-played g c = λ lines has.
    line_played lines (g.D.Disk.state c.args.disk.now) (g.D.Disk.state c.play_line.new.disk) _ _ _ c.args.last c.play_line.result Played _ _ _ _ (c.play_line.ensures.plays lines has) c.as_slice.ensures c.in-Played.is
    (sym (ap (λ (last : Bool). end_of_play last Played) c.if-last.true)) refl

pub returns-else-last-clause-played : goal.returns-else-last-clause-played
returns-else-last-clause-played g c = λ lines has.
    line_played lines (g.D.Disk.state c.args.disk.now) (g.D.Disk.state c.play_line.new.disk) _ _ _ c.args.last c.play_line.result Played _ _ _ _ (c.play_line.ensures.plays lines has) c.as_slice.ensures c.in-Played.is
    (sym (ap (λ (last : Bool). end_of_play last Played) c.if-last.false)) refl

pub returns-in-Unwritten-clause-played : goal.returns-in-Unwritten-clause-played
returns-in-Unwritten-clause-played g c = λ lines has.
    line_played lines (g.D.Disk.state c.args.disk.now) (g.D.Disk.state c.play_line.new.disk) _ _ _ c.args.last c.play_line.result Unwritten _ _ _ _ (c.play_line.ensures.plays lines has) c.as_slice.ensures c.in-Unwritten.is
    (unwritten_end c.args.last) refl
