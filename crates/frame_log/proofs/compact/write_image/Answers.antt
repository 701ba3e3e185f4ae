use Rattle.std.proofs.Common.{ℕ, List, ◌≡◌, ◌+◌, ◌-◌, min, length, take, refl, ◌∙◌, ap, subst, arith}
use Rattle.std.proofs.lemmas.List.{length-take-le}
use Rattle.hk_base.specs.Disk.{LeavesOnly, Reads, RunOn, piece, written}
use Rattle.frame_log.proofs.Goings.{one}
use Rattle.frame_log.proofs.Openings.{run_then}
use Rattle.frame_log.proofs.Parts.{part_long, part_next, part_place}
use Rattle.frame_log.proofs.Writes.{piece_long, still_on, torn_apart, writes_nothing, writes_one, writes_then, writes_whole}
use Rattle.frame_log.proofs.compact.write_image.Goals as goal

pub returns-then-count-eq0-clause-written : goal.returns-then-count-eq0-clause-written
returns-then-count-eq0-clause-written g c tells =
    let file = c.args.file in
    let at = c.args.at in
    let own = c.requires.own in
    let S0 = g.D.Disk.state c.args.disk.now in
    let Sp = g.D.Disk.state c.parts.disk in
    let S1 = g.D.Disk.state c.part.new.disk in
    let R : List ℕ = S0.reads file in
    let first : ℕ = g.I.Image.from c.args.image.now in
    let count : ℕ = g.I.Image.count c.args.image.now in
    let held : List ℕ = piece first count R in
    let img : List ℕ = g.I.Image.image c.args.image.now held in
    let long : c.args.size ≡ length img = c.requires.size held (piece_long first count R (c.requires.within tells)) in
    let place = c.requires.place tells in
    let inv = c.parts.invariant in
    let before = inv.writes tells in
    let tells1 = still_on inv.run tells in
    let same : Reads file Sp S1 = subst (λ (f : ℕ). Reads f Sp S1) own c.part.ensures.same in
    let seen : piece first count (Sp.reads (g.I.Image.file c.args.image.now)) ≡ held = ap (λ (f : ℕ). piece first count (Sp.reads f)) own ∙ torn_apart at c.args.size first count R (Sp.reads file) (c.requires.apart tells) before.reads in
    let done_in = inv.done tells in
    let told = c.in_ok-count.ensures.part tells1 held seen (omega (arith, done_in, long)) in
    let most = c.in_ok-count.ensures.most in
    let n_is : c.in_ok-count.count ≡ min (length c.part.new.buf) (c.args.size - c.parts.done) = part_long at c.args.size img R long place c.parts.done c.in_ok-count.count c.part.new.buf most told in
    absurd (omega (arith, n_is, c.if-count-eq0.true, c.parts-test.true, c.part.ensures.length, inv.room, c.requires.room))

pub returns-in_err-write_at-clause-writes : goal.returns-in_err-write_at-clause-writes
returns-in_err-write_at-clause-writes g c tells =
    let file = c.args.file in
    let at = c.args.at in
    let own = c.requires.own in
    let S0 = g.D.Disk.state c.args.disk.now in
    let Sp = g.D.Disk.state c.parts.disk in
    let S1 = g.D.Disk.state c.part.new.disk in
    let R : List ℕ = S0.reads file in
    let first : ℕ = g.I.Image.from c.args.image.now in
    let count : ℕ = g.I.Image.count c.args.image.now in
    let held : List ℕ = piece first count R in
    let img : List ℕ = g.I.Image.image c.args.image.now held in
    let long : c.args.size ≡ length img = c.requires.size held (piece_long first count R (c.requires.within tells)) in
    let place = c.requires.place tells in
    let inv = c.parts.invariant in
    let before = inv.writes tells in
    let tells1 = still_on inv.run tells in
    let same : Reads file Sp S1 = subst (λ (f : ℕ). Reads f Sp S1) own c.part.ensures.same in
    let seen : piece first count (Sp.reads (g.I.Image.file c.args.image.now)) ≡ held = ap (λ (f : ℕ). piece first count (Sp.reads f)) own ∙ torn_apart at c.args.size first count R (Sp.reads file) (c.requires.apart tells) before.reads in
    let done_in = inv.done tells in
    let told = c.in_ok-count.ensures.part tells1 held seen (omega (arith, done_in, long)) in
    let most = c.in_ok-count.ensures.most in
    let n_is : c.in_ok-count.count ≡ min (length c.part.new.buf) (c.args.size - c.parts.done) = part_long at c.args.size img R long place c.parts.done c.in_ok-count.count c.part.new.buf most told in
    let part_run : RunOn file Sp S1 = subst (λ (f : ℕ). RunOn f Sp S1) own c.part.ensures.run in
    let part_moments : LeavesOnly file Sp S1 (Sp.leaves file) = subst (λ (f : ℕ). LeavesOnly f Sp S1 (Sp.leaves f)) own c.part.ensures.moments in
    let now1 : S1.reads file ≡ written at (take c.parts.done img) R = same.reads tells1 ∙ inv.reads tells in
    let run1 = run_then inv.run part_run in
    let tells2 = still_on part_run tells1 in
    let writes1 = writes_then inv.run before part_run (writes_nothing tells1 same part_moments) in
    let chunk_long : length (take c.in_ok-count.count c.part.new.buf) ≡ c.in_ok-count.count = length-take-le c.in_ok-count.count c.part.new.buf most in
    writes_then run1 writes1 (one c.write_at.ensures.call) (writes_one (at + c.parts.done) (length (take c.in_ok-count.count c.part.new.buf)) c.requires.file (omega arith) (omega (arith, chunk_long, n_is, done_in)) c.write_at.ensures.call (c.in_err-write_at.ensures.torn tells2) c.write_at.ensures.crash)

pub parts-preserved : goal.parts-preserved
parts-preserved g c = record {
  room = c.part.ensures.length ∙ c.parts.invariant.room;
  run = run_then (run_then c.parts.invariant.run (subst (λ (f : ℕ). RunOn f (g.D.Disk.state c.parts.disk) (g.D.Disk.state c.part.new.disk)) c.requires.own c.part.ensures.run)) (one c.write_at.ensures.call);
  writes = λ tells.
      let file = c.args.file in
      let at = c.args.at in
      let own = c.requires.own in
      let S0 = g.D.Disk.state c.args.disk.now in
      let Sp = g.D.Disk.state c.parts.disk in
      let S1 = g.D.Disk.state c.part.new.disk in
      let R : List ℕ = S0.reads file in
      let first : ℕ = g.I.Image.from c.args.image.now in
      let count : ℕ = g.I.Image.count c.args.image.now in
      let held : List ℕ = piece first count R in
      let img : List ℕ = g.I.Image.image c.args.image.now held in
      let long : c.args.size ≡ length img = c.requires.size held (piece_long first count R (c.requires.within tells)) in
      let place = c.requires.place tells in
      let inv = c.parts.invariant in
      let before = inv.writes tells in
      let tells1 = still_on inv.run tells in
      let same : Reads file Sp S1 = subst (λ (f : ℕ). Reads f Sp S1) own c.part.ensures.same in
      let seen : piece first count (Sp.reads (g.I.Image.file c.args.image.now)) ≡ held = ap (λ (f : ℕ). piece first count (Sp.reads f)) own ∙ torn_apart at c.args.size first count R (Sp.reads file) (c.requires.apart tells) before.reads in
      let done_in = inv.done tells in
      let told = c.in_ok-count.ensures.part tells1 held seen (omega (arith, done_in, long)) in
      let most = c.in_ok-count.ensures.most in
      let n_is : c.in_ok-count.count ≡ min (length c.part.new.buf) (c.args.size - c.parts.done) = part_long at c.args.size img R long place c.parts.done c.in_ok-count.count c.part.new.buf most told in
      let part_run : RunOn file Sp S1 = subst (λ (f : ℕ). RunOn f Sp S1) own c.part.ensures.run in
      let part_moments : LeavesOnly file Sp S1 (Sp.leaves file) = subst (λ (f : ℕ). LeavesOnly f Sp S1 (Sp.leaves f)) own c.part.ensures.moments in
      let now1 : S1.reads file ≡ written at (take c.parts.done img) R = same.reads tells1 ∙ inv.reads tells in
      let run1 = run_then inv.run part_run in
      let tells2 = still_on part_run tells1 in
      let writes1 = writes_then inv.run before part_run (writes_nothing tells1 same part_moments) in
      let chunk_long : length (take c.in_ok-count.count c.part.new.buf) ≡ c.in_ok-count.count = length-take-le c.in_ok-count.count c.part.new.buf most in
      writes_then run1 writes1 (one c.write_at.ensures.call) (writes_whole (at + c.parts.done) (take c.in_ok-count.count c.part.new.buf) c.requires.file (omega arith) (omega (arith, chunk_long, n_is, done_in)) (part_place at c.args.size img R long place c.parts.done (S1.reads file) done_in now1) c.write_at.ensures.call (c.in_ok-write_at.ensures.written tells2) c.write_at.ensures.crash);
  done = λ tells.
      let file = c.args.file in
      let at = c.args.at in
      let own = c.requires.own in
      let S0 = g.D.Disk.state c.args.disk.now in
      let Sp = g.D.Disk.state c.parts.disk in
      let S1 = g.D.Disk.state c.part.new.disk in
      let R : List ℕ = S0.reads file in
      let first : ℕ = g.I.Image.from c.args.image.now in
      let count : ℕ = g.I.Image.count c.args.image.now in
      let held : List ℕ = piece first count R in
      let img : List ℕ = g.I.Image.image c.args.image.now held in
      let long : c.args.size ≡ length img = c.requires.size held (piece_long first count R (c.requires.within tells)) in
      let place = c.requires.place tells in
      let inv = c.parts.invariant in
      let before = inv.writes tells in
      let tells1 = still_on inv.run tells in
      let same : Reads file Sp S1 = subst (λ (f : ℕ). Reads f Sp S1) own c.part.ensures.same in
      let seen : piece first count (Sp.reads (g.I.Image.file c.args.image.now)) ≡ held = ap (λ (f : ℕ). piece first count (Sp.reads f)) own ∙ torn_apart at c.args.size first count R (Sp.reads file) (c.requires.apart tells) before.reads in
      let done_in = inv.done tells in
      let told = c.in_ok-count.ensures.part tells1 held seen (omega (arith, done_in, long)) in
      let most = c.in_ok-count.ensures.most in
      let n_is : c.in_ok-count.count ≡ min (length c.part.new.buf) (c.args.size - c.parts.done) = part_long at c.args.size img R long place c.parts.done c.in_ok-count.count c.part.new.buf most told in
      omega (arith, n_is, done_in);
  reads = λ tells.
      let file = c.args.file in
      let at = c.args.at in
      let own = c.requires.own in
      let S0 = g.D.Disk.state c.args.disk.now in
      let Sp = g.D.Disk.state c.parts.disk in
      let S1 = g.D.Disk.state c.part.new.disk in
      let R : List ℕ = S0.reads file in
      let first : ℕ = g.I.Image.from c.args.image.now in
      let count : ℕ = g.I.Image.count c.args.image.now in
      let held : List ℕ = piece first count R in
      let img : List ℕ = g.I.Image.image c.args.image.now held in
      let long : c.args.size ≡ length img = c.requires.size held (piece_long first count R (c.requires.within tells)) in
      let place = c.requires.place tells in
      let inv = c.parts.invariant in
      let before = inv.writes tells in
      let tells1 = still_on inv.run tells in
      let same : Reads file Sp S1 = subst (λ (f : ℕ). Reads f Sp S1) own c.part.ensures.same in
      let seen : piece first count (Sp.reads (g.I.Image.file c.args.image.now)) ≡ held = ap (λ (f : ℕ). piece first count (Sp.reads f)) own ∙ torn_apart at c.args.size first count R (Sp.reads file) (c.requires.apart tells) before.reads in
      let done_in = inv.done tells in
      let told = c.in_ok-count.ensures.part tells1 held seen (omega (arith, done_in, long)) in
      let most = c.in_ok-count.ensures.most in
      let n_is : c.in_ok-count.count ≡ min (length c.part.new.buf) (c.args.size - c.parts.done) = part_long at c.args.size img R long place c.parts.done c.in_ok-count.count c.part.new.buf most told in
      let part_run : RunOn file Sp S1 = subst (λ (f : ℕ). RunOn f Sp S1) own c.part.ensures.run in
      let part_moments : LeavesOnly file Sp S1 (Sp.leaves file) = subst (λ (f : ℕ). LeavesOnly f Sp S1 (Sp.leaves f)) own c.part.ensures.moments in
      let now1 : S1.reads file ≡ written at (take c.parts.done img) R = same.reads tells1 ∙ inv.reads tells in
      let run1 = run_then inv.run part_run in
      let tells2 = still_on part_run tells1 in
      let writes1 = writes_then inv.run before part_run (writes_nothing tells1 same part_moments) in
      let chunk_long : length (take c.in_ok-count.count c.part.new.buf) ≡ c.in_ok-count.count = length-take-le c.in_ok-count.count c.part.new.buf most in
      part_next at c.args.size img R long place c.parts.done c.in_ok-count.count c.part.new.buf (take c.in_ok-count.count c.part.new.buf) (S1.reads file) ((g.D.Disk.state c.write_at.new.self).reads file) done_in now1 most told refl (c.in_ok-write_at.ensures.written tells2);
}
