use Rattle.std.proofs.Common.{◌≡◌, ℕ, List, [], ◌∷◌, ◌∙◌, refl, arith, false, zero, suc, Option, None, Some}
use Rattle.std.specs.Io.KnownBytes.{IsAtEnd, prepend_known}
use Rattle.hk_base.specs.Disk.{DiskState}
use Rattle.frame_log.specs.declared.fault.StartFault.{StartFault}
use Rattle.frame_log.specs.declared.fault.StartFault.TheVariants as start
use Rattle.prop_text.specs.declared.lines.PropLine.{PropLine}
use Rattle.command_io.specs.declared.lines.LineEnd.{LineEnd}
use Rattle.command_io.specs.declared.lines.LineEnd.TheVariants as line_end
use Rattle.command_io.specs.declared.ends.ReplayEnd.{ReplayEnd}
use Rattle.command_io.specs.declared.ends.ReplayEnd.TheVariants as ended
use Rattle.hk_runs.specs.declared.session.LineOutcome.{LineOutcome}
use Rattle.hk_runs.specs.declared.session.LineOutcome.TheVariants.{Played, BadLine, Unread, Unanswered, Unwritten, Unopened}
use Rattle.command_io.specs.Ends.{ended_by}
use Rattle.hk_runs.specs.Steps.{Next, NextSo, Read, ReplayStand, end_of_play}
use Rattle.std.proofs.KnownBytes.{Appends-nil}
use Rattle.hk_runs.proofs.EndLemmas.{first_ahead, goes_on_under, goes_on_untroubled, lists_under, stands_under, stops_under}
use Rattle.hk_runs.proofs.HistoryLemmas.{nothing_yet}
use Rattle.hk_runs.proofs.replay.ReplayRun.run.Goals as goal

pub lines-init : goal.lines-init
lines-init g c =
    let fresh = c.requires.fresh in
    record {
      so_far = λ props has. nothing_yet props (g.D.Disk.state c.args.disk.now) _ _ refl (λ k. refl) fresh.0 fresh.1 fresh.2
          (first_ahead _ (g.S.Source.left c.args.input.now) fresh.3) (Appends-nil _);
      few = omega (arith, fresh.0, fresh.1);
      bounded = omega (arith, fresh.1);
      small = omega (arith, fresh.2);
      caused = goes_on_untroubled _ _ _ _ _ _ (omega arith) (omega arith) (omega arith);
    }

pub next-requires-clause-stands : goal.next-requires-clause-stands
next-requires-clause-stands g c = stands_under (g.D.Disk.state c.args.disk.now) (g.D.Disk.state c.lines.disk) _ _ c.lines.invariant.so_far c.requires.lists c.requires.stands

pub next-requires-clause-lists : goal.next-requires-clause-lists
next-requires-clause-lists g c = lists_under (g.D.Disk.state c.args.disk.now) (g.D.Disk.state c.lines.disk) _ _ c.lines.invariant.so_far c.requires.lists

pub lines-preserved : goal.lines-preserved
lines-preserved g c =
    let on = goes_on_under (g.D.Disk.state c.args.disk.now) (g.D.Disk.state c.lines.disk) (g.D.Disk.state c.next.new.disk) _ _ _ c.lines.invariant.so_far (rw c.in-None.is at c.next.ensures.next) in
    let known = on c.requires.lists.0 c.requires.lists.1 in
    let before = c.lines.invariant.caused in
    let here = c.next.ensures.caused in
    record {
      so_far = λ props has. (on props has).so_far;
      few = c.next.ensures.few;
      bounded = omega (arith, known.counted, known.further, c.lines.invariant.bounded);
      small = c.next.ensures.small;
      caused = goes_on_untroubled _ _ _ _ _ _ (omega (arith, before.read_later, here.read_later)) (omega (arith, before.write_later, here.write_later)) (omega (arith, before.disk_later, here.disk_later));
    }

pub returns-in-Some-clause-ran : goal.returns-in-Some-clause-ran
returns-in-Some-clause-ran g c =
    stops_under (g.D.Disk.state c.args.disk.now) (g.D.Disk.state c.lines.disk) (g.D.Disk.state c.next.new.disk) _ _ _ c.in-Some.ended c.lines.invariant.so_far (rw c.in-Some.is at c.next.ensures.next)

-- a replay that is done has come to the end of its input

not_opened : (file : ℕ) (fault : StartFault) → Some ended.Done ≡ Some (ended_by file fault) → ⊥
not_opened zero (start.Damaged at) e = absurd cc
not_opened (suc n) (start.Damaged at) e = absurd cc
not_opened file start.StoreFault e = absurd cc
not_opened file start.NoMemory e = absurd cc
not_opened file start.Spent e = absurd cc

not_between : (play : LineOutcome) → Some ended.Done ≡ end_of_play false play → ⊥
not_between Played e = absurd cc
not_between BadLine e = absurd cc
not_between Unread e = absurd cc
not_between Unanswered e = absurd cc
not_between Unwritten e = absurd cc
not_between (Unopened fault) e = not_opened fault.file fault.fault e

some_end : (stop how : ReplayEnd) → stop ≡ how → Some how ≡ Some stop
some_end stop how is = cc

next_end : (props : List PropLine) (old new : DiskState) (s s' : ReplayStand) (stop : ReplayEnd) → Next props old new s (Some stop) s' → stop ≡ ended.Done → IsAtEnd s'.ahead
next_end props old new s s' stop n done = go n.how n.read n.next
  where
    go : (how : LineEnd) → Read s how n.line s' → NextSo props old new s how n.line (Some stop) s' → IsAtEnd s'.ahead
    go line_end.Line read p = absurd (not_between p.play (some_end stop ended.Done done ∙ p.result_is))
    go line_end.End read p = read.end refl
    go line_end.TooLong read r = let no = r.result_is in absurd cc
    go line_end.Past read r = let no = r.result_is in absurd cc
    go line_end.Fault read r = let no = r.result_is in absurd cc
    go line_end.NoMemory read r = let no = r.result_is in absurd cc

left_at_end : (bytes : List ℕ) (left : Option (List ℕ)) → IsAtEnd (prepend_known bytes left) → IsAtEnd left
left_at_end bytes None end = tt
left_at_end [] (Some xs) end = end
left_at_end (b ∷ bs) (Some xs) end = absurd cc

pub returns-in-Some-clause-end : goal.returns-in-Some-clause-end
returns-in-Some-clause-end g c = λ done.
    let some = lists_under (g.D.Disk.state c.args.disk.now) (g.D.Disk.state c.lines.disk) _ _ c.lines.invariant.so_far c.requires.lists in
    let next = (rw c.in-Some.is at c.next.ensures.next) in
    left_at_end c.next.new.self.reader.bytes (g.S.Source.left c.next.new.input) (next_end some.0 (g.D.Disk.state c.lines.disk) (g.D.Disk.state c.next.new.disk) _ _ c.in-Some.ended (next some.0 some.1) done)
