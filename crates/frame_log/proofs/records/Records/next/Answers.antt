use Rattle.std.proofs.Common.{Result, Ok, Err, ◌≡◌, ◌≤◌, ◌<◌, ◌+◌, ◌-◌, [], List, ℕ, length, take, drop, refl, IsTrue, sym, ◌∙◌, ap, subst, arith, length-drop}
use Rattle.std.specs.Prelude.{OnErr}
use Rattle.hk_base.specs.Disk.{Tells}
use Rattle.hk_base.proofs.Runs.{compose, both_read}
use Rattle.frame_log.specs.declared.gates.Next.TheVariants as nexts
use Rattle.frame_log.specs.Format.{part, Broken}
use Rattle.frame_log.specs.Scan.{IsNextItem, IsEnd, NextFits}
use Rattle.frame_log.specs.Ahead.{Ahead, HasBytesOf}
use Rattle.frame_log.proofs.Aheads.{no_more, none_in_so_few, not_broken, still_ahead, given}
use Rattle.frame_log.proofs.Goings.{going}
use Rattle.frame_log.proofs.Openings.{run_then}
use Rattle.frame_log.proofs.Windows.{shown}
use Rattle.frame_log.proofs.records.Records.next.Goals as goal

on_err : {T E P : Type 0} (result : Result T E) → P → OnErr result P
on_err (Ok _) p = tt
on_err (Err _) p = p

pub show-requires-clause-place : goal.show-requires-clause-place
show-requires-clause-place g c tells = let a = c.requires.ahead tells in omega (arith, a.1.size, c.args.self.now.at_in)

pub copy_payload-requires-clause-size : goal.copy_payload-requires-clause-size
copy_payload-requires-clause-size g c tells =
    let tells0 = subst (λ b. IsTrue b) c.show.ensures.run.tells tells in
    (c.requires.ahead tells0).1.size ∙ ap length (sym (c.show.ensures.same.reads tells0))

pub returns-in-Payload-clause-first : goal.returns-in-Payload-clause-first
returns-in-Payload-clause-first g c tells todo a =
    let old = c.args.self.now in
    let D0 = g.D.Disk.state c.args.disk.now in
    let D1 = g.D.Disk.state c.show.new.disk in
    let F = D0.reads old.file in
    let B : List ℕ = drop old.at F in
    let count : ℕ = c.in-Payload.count in
    let tells1 = subst (λ b. IsTrue b) (sym c.show.ensures.run.tells) tells in
    let F1 : D1.reads old.file ≡ F = c.show.ensures.same.reads tells in
    let shows = c.in_ok-show.ensures.shows tells a.window in
    let long : length B ≡ old.size - old.at = omega (arith, length-drop old.at F, a.size) in
    let inside : old.at ≤ length F = omega (arith, a.size, old.at_in) in
    let fits : NextFits (old.size - old.at) (nexts.Payload count) = c.in-Payload.ensures.fits in
    let here : IsNextItem B (nexts.Payload count) = c.in-Payload.ensures.next B (sym long) (c.bytes_at.ensures ∙ shown F c.show.new.self old.at 5 inside shows) in
    let window1 : HasBytesOf (D1.reads old.file) c.show.new.self = subst (λ (l : List ℕ). HasBytesOf l c.show.new.self) (sym F1) shows.bytes in
    let copied : c.copy_payload.new.self.payload.items ≡ take count (drop (old.at + 5) F) = c.in_ok-copy_payload-in-Payload.ensures.copied tells1 window1 ∙ ap (λ (l : List ℕ). take count (drop (old.at + 5) l)) F1 in
    let window2 : HasBytesOf F c.copy_payload.new.self.window = subst (λ (l : List ℕ). HasBytesOf l c.copy_payload.new.self.window) F1 (c.copy_payload.ensures.window tells1 window1) in
    given D0 (g.D.Disk.state c.copy_payload.new.disk) old _ todo a (c.copy_payload.ensures.same.reads tells1 ∙ F1) c.copy_payload.ensures.file c.copy_payload.ensures.size window2 count (omega (arith, long, fits.0)) here refl copied

pub returns-in-End-clause-first : goal.returns-in-End-clause-first
returns-in-End-clause-first g c tells todo a =
    let old = c.args.self.now in
    let D0 = g.D.Disk.state c.args.disk.now in
    let D1 = g.D.Disk.state c.show.new.disk in
    let F = D0.reads old.file in
    let B : List ℕ = drop old.at F in
    let shows = c.in_ok-show.ensures.shows tells a.window in
    let long : length B ≡ old.size - old.at = omega (arith, length-drop old.at F, a.size) in
    let inside : old.at ≤ length F = omega (arith, a.size, old.at_in) in
    let here : IsEnd B c.in-End.gate = c.in-End.ensures.next B (sym long) (c.bytes_at.ensures ∙ shown F c.show.new.self old.at 5 inside shows) in
    let none : todo ≡ [] = no_more B a.gate a.rest a.shut todo a.split c.in-End.gate here in
    (none, refl, still_ahead D0 D1 old _ [] (subst (λ (l : List (List ℕ)). Ahead D0 old l) none a) (c.show.ensures.same.reads tells) refl refl shows.bytes refl)

pub returns-in-Broken-clause-damaged : goal.returns-in-Broken-clause-damaged
returns-in-Broken-clause-damaged g c at is tells =
    let old = c.args.self.now in
    let F = (g.D.Disk.state c.args.disk.now).reads old.file in
    let B : List ℕ = drop old.at F in
    let todo = (c.requires.ahead tells).0 in
    let a = (c.requires.ahead tells).1 in
    let shows = c.in_ok-show.ensures.shows tells a.window in
    let long : length B ≡ old.size - old.at = omega (arith, length-drop old.at F, a.size) in
    let inside : old.at ≤ length F = omega (arith, a.size, old.at_in) in
    let here : part B ≡ Broken = c.in-Broken.ensures.next B (sym long) (c.bytes_at.ensures ∙ shown F c.show.new.self old.at 5 inside shows) in
    not_broken B a.gate a.rest a.shut todo a.sized a.split here

pub returns-then-self-gate-lt7-clause-first : goal.returns-then-self-gate-lt7-clause-first
returns-then-self-gate-lt7-clause-first g c tells todo a =
    let old = c.args.self.now in
    let D0 = g.D.Disk.state c.args.disk.now in
    let B : List ℕ = drop old.at (D0.reads old.file) in
    let few : length B < 7 = omega (arith, length-drop old.at (D0.reads old.file), a.size, c.if-self-gate-lt7.true) in
    let none : todo ≡ [] = none_in_so_few B a.gate a.rest a.shut todo a.sized a.split few in
    (none, refl, subst (λ (l : List (List ℕ)). Ahead D0 old l) none a)

pub returns-in_err-copy_payload-in-Payload-clause-run : goal.returns-in_err-copy_payload-in-Payload-clause-run
returns-in_err-copy_payload-in-Payload-clause-run g c = run_then c.show.ensures.run c.copy_payload.ensures.run

pub returns-in_err-copy_payload-in-Payload-clause-same : goal.returns-in_err-copy_payload-in-Payload-clause-same
returns-in_err-copy_payload-in-Payload-clause-same g c = both_read (going c.show.ensures.run c.show.ensures.moments) c.show.ensures.same c.copy_payload.ensures.same

pub returns-in_err-copy_payload-in-Payload-clause-moments : goal.returns-in_err-copy_payload-in-Payload-clause-moments
returns-in_err-copy_payload-in-Payload-clause-moments g c = (compose (going c.show.ensures.run c.show.ensures.moments) (going c.copy_payload.ensures.run c.copy_payload.ensures.moments) c.show.ensures.same.leaves).moments

pub returns-in-Payload-clause-run : goal.returns-in-Payload-clause-run
returns-in-Payload-clause-run g c = run_then c.show.ensures.run c.copy_payload.ensures.run

pub returns-in-Payload-clause-same : goal.returns-in-Payload-clause-same
returns-in-Payload-clause-same g c = both_read (going c.show.ensures.run c.show.ensures.moments) c.show.ensures.same c.copy_payload.ensures.same

pub returns-in-Payload-clause-moments : goal.returns-in-Payload-clause-moments
returns-in-Payload-clause-moments g c = (compose (going c.show.ensures.run c.show.ensures.moments) (going c.copy_payload.ensures.run c.copy_payload.ensures.moments) c.show.ensures.same.leaves).moments

pub returns-in_err-show-clause-run : goal.returns-in_err-show-clause-run
returns-in_err-show-clause-run g c = c.show.ensures.run

pub returns-in_err-show-clause-same : goal.returns-in_err-show-clause-same
returns-in_err-show-clause-same g c = c.show.ensures.same

pub returns-in_err-show-clause-moments : goal.returns-in_err-show-clause-moments
returns-in_err-show-clause-moments g c = c.show.ensures.moments

pub returns-in-End-clause-run : goal.returns-in-End-clause-run
returns-in-End-clause-run g c = c.show.ensures.run

pub returns-in-End-clause-same : goal.returns-in-End-clause-same
returns-in-End-clause-same g c = c.show.ensures.same

pub returns-in-End-clause-moments : goal.returns-in-End-clause-moments
returns-in-End-clause-moments g c = c.show.ensures.moments

pub returns-in-Broken-clause-run : goal.returns-in-Broken-clause-run
returns-in-Broken-clause-run g c = c.show.ensures.run

pub returns-in-Broken-clause-same : goal.returns-in-Broken-clause-same
returns-in-Broken-clause-same g c = c.show.ensures.same

pub returns-in-Broken-clause-moments : goal.returns-in-Broken-clause-moments
returns-in-Broken-clause-moments g c = c.show.ensures.moments

pub returns-in_err-copy_payload-in-Payload-clause-kept : goal.returns-in_err-copy_payload-in-Payload-clause-kept
returns-in_err-copy_payload-in-Payload-clause-kept g c =
    let old = c.args.self.now in
    let D0 = g.D.Disk.state c.args.disk.now in
    let D1 = g.D.Disk.state c.show.new.disk in
    let D2 = g.D.Disk.state c.copy_payload.new.disk in
    let F = D0.reads old.file in
    let kept : Tells D0 → (todo : List (List ℕ)) → Ahead D0 old todo → Ahead D2 (c.copy_payload.new.self) todo =
    λ tells todo a.
    let tells1 = subst (λ b. IsTrue b) (sym c.show.ensures.run.tells) tells in
    let F1 : D1.reads old.file ≡ F = c.show.ensures.same.reads tells in
    let shows = c.in_ok-show.ensures.shows tells a.window in
    let window1 : HasBytesOf (D1.reads old.file) c.show.new.self = subst (λ (l : List ℕ). HasBytesOf l c.show.new.self) (sym F1) shows.bytes in
    let window2 : HasBytesOf F c.copy_payload.new.self.window = subst (λ (l : List ℕ). HasBytesOf l c.copy_payload.new.self.window) F1 (c.copy_payload.ensures.window tells1 window1) in
    still_ahead D0 D2 old _ todo a (c.copy_payload.ensures.same.reads tells1 ∙ F1) c.copy_payload.ensures.file c.copy_payload.ensures.size window2 c.copy_payload.ensures.at in
    on_err _ kept

pub returns-in-Broken-clause-kept : goal.returns-in-Broken-clause-kept
returns-in-Broken-clause-kept g c tells todo a =
    let old = c.args.self.now in
    let D0 = g.D.Disk.state c.args.disk.now in
    let D1 = g.D.Disk.state c.show.new.disk in
    still_ahead D0 D1 old _ todo a (c.show.ensures.same.reads tells) refl refl (c.in_ok-show.ensures.shows tells a.window).bytes refl
