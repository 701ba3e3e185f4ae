use Rattle.std.proofs.Common.{false, Result, Ok, Err, ◌<◌, ◌≡◌, ◌+◌, ◌++◌, [], ◌∷◌, List, ℕ, Some, length, IsTrue, inr, refl, sym, ◌∙◌, ap, subst, arith, get_or, slice_index_or}
use Rattle.std.proofs.lemmas.Option.{slice_get-get_or}
use Rattle.std.specs.Prelude.{OnErr}
use Rattle.hk_base.specs.Disk.{DiskState, Tells, CallOn, RunOn, LeavesOnly}
use Rattle.hk_base.proofs.Runs.{begin, then}
use Rattle.frame_log.specs.Format.{IsPayload}
use Rattle.frame_log.specs.Bases.{base_bytes, front_of}
use Rattle.frame_log.specs.Stands.{IsShut, IsFrameReady, Is}
use Rattle.frame_log.proofs.Goings.{one}
use Rattle.frame_log.proofs.Openings.{run_then, rose_since}
use Rattle.frame_log.proofs.Reading.{all_push, end_on, joined}
use Rattle.frame_log.proofs.Steps.{gate_torn, gate_leaves, gate_written, ready, shut, byte_read, inside, kept, not_kept, not_shut, long}
use Rattle.frame_log.proofs.log.Log.settle.Goals.{in-Some, in-None, then-byte-ne-SHUT+in_ok-write_at+in_ok-sync-2, else-byte-ne-SHUT, else-byte-eq-OPEN-via-then-byte-eq-OPEN+else-next-le-LONGEST_FILE, else-byte-eq-OPEN-via-else-byte-eq-OPEN}
use Rattle.frame_log.proofs.log.Log.settle.Goals as goal

still : {file : ℕ} {old new : DiskState} → CallOn file old new → Tells old → Tells new
still call tells = subst (λ b. IsTrue b) (sym call.tells) tells

on_err : {T E P : Type 0} (result : Result T E) → P → OnErr result P
on_err (Ok _) p = tt
on_err (Err _) p = p

pub returns-in_err-sync-clause-any_moment : goal.returns-in_err-sync-clause-any_moment
returns-in_err-sync-clause-any_moment g c tells base payloads x s =
    let file = c.args.self.now.file in
    let file_in = c.args.self.now.file_in in
    let end = c.args.self.now.end in
    let F = front_of file base payloads in
    let P = Is F (Some x) in
    let go1 = then (begin file (g.D.Disk.state c.args.disk.now) P) c.sync.ensures.call file_in (λ b h. s.leaves b (c.sync.ensures.same.leaves b h)) in
    go1.moments

pub returns-in_err-read-clause-any_moment : goal.returns-in_err-read-clause-any_moment
returns-in_err-read-clause-any_moment g c tells base payloads x s =
    let file = c.args.self.now.file in
    let file_in = c.args.self.now.file_in in
    let end = c.args.self.now.end in
    let F = front_of file base payloads in
    let P = Is F (Some x) in
    let go1 = then (begin file (g.D.Disk.state c.args.disk.now) P) c.sync.ensures.call file_in (λ b h. s.leaves b (c.sync.ensures.same.leaves b h)) in
    let go2 = then go1 c.read.ensures.call file_in (λ b h. s.leaves b (c.sync.ensures.same.leaves b (c.read.ensures.same.leaves b h))) in
    go2.moments

pub returns-then-next-le-LONGEST_FILE-clause-any_moment : goal.returns-then-next-le-LONGEST_FILE-clause-any_moment
returns-then-next-le-LONGEST_FILE-clause-any_moment g c tells base payloads x s =
    let file = c.args.self.now.file in
    let file_in = c.args.self.now.file_in in
    let end = c.args.self.now.end in
    let F = front_of file base payloads in
    let P = Is F (Some x) in
    let go1 = then (begin file (g.D.Disk.state c.args.disk.now) P) c.sync.ensures.call file_in (λ b h. s.leaves b (c.sync.ensures.same.leaves b h)) in
    let go2 = then go1 c.read.ensures.call file_in (λ b h. s.leaves b (c.sync.ensures.same.leaves b (c.read.ensures.same.leaves b h))) in
    go2.moments

pub returns-then-next-le-LONGEST_FILE-clause-settled : goal.returns-then-next-le-LONGEST_FILE-clause-settled
returns-then-next-le-LONGEST_FILE-clause-settled g c tells base payloads x s =
    let file = c.args.self.now.file in
    let file_in = c.args.self.now.file_in in
    let end = c.args.self.now.end in
    let F = front_of file base payloads in
    let P = Is F (Some x) in
    let tells1 = still c.sync.ensures.call tells in
    let tells2 = still c.read.ensures.call tells1 in
    let R = (g.D.Disk.state c.args.disk.now).reads file in
    let R1 = c.sync.ensures.same.reads tells in
    let R2 = c.read.ensures.same.reads tells1 ∙ R1 in
    let in1 : end < length ((g.D.Disk.state c.sync.new.self).reads file) = subst (λ (l : List ℕ). end < length l) (sym R1) (inside F end s.end x R s.reads) in
    let byte : slice_index_or c.read.new.buf 0 0 ≡ get_or R end 0 = byte_read c.read.new.buf _ end _ (omega arith) in1 (c.in_ok-read.ensures.answer tells1) (c.in_ok-read.ensures.bytes tells1) ∙ ap (λ (l : List ℕ). get_or l end 0) R1 in
    let only : (b : List ℕ) → (g.D.Disk.state c.read.new.self).leaves file b → b ≡ R = λ b h. c.in_ok-sync.ensures.durable tells b (c.read.ensures.same.leaves b h) in
    let next_is : c.match-self.next ≡ end + 5 + length x = elim c.match-self.branch [
      | in-Some w ↦ let same : w.in-Some.size ≡ length x = cc (w.in-Some.is, s.waits) in omega (arith, w.next-is, same)
      | in-None w ↦ cc (w.in-None.is, s.waits)
    ] in
    let next_end : c.match-self.next ≡ length (front_of file base (payloads ++ x ∷ [])) = omega (arith, s.end, end_on (base_bytes file base) payloads x) in
    let staged = kept F end s.end x R s.reads (sym byte ∙ c.if-byte-eq-OPEN.true) in
    let done : IsShut (front_of file base (payloads ++ x ∷ [])) R = (staged.0, staged.1 ∙ joined (base_bytes file base) payloads x staged.0) in
    record {
      is_base = s.is_base;
      sized = all_push IsPayload payloads x s.sized s.payload;
      payload = tt;
      end = next_end;
      waits = refl;
      reads = subst (IsShut (front_of file base (payloads ++ x ∷ []))) (sym R2) done;
      leaves = λ b h. subst (IsShut (front_of file base (payloads ++ x ∷ []))) (sym (only b h)) done;
    }

pub returns-then-next-le-LONGEST_FILE-clause-kept : goal.returns-then-next-le-LONGEST_FILE-clause-kept
returns-then-next-le-LONGEST_FILE-clause-kept g c tells =
    let was = c.requires.stands tells in
    let base = was.0 in
    let payloads = was.1 in
    let x = was.2 in
    let s = was.3 in
    let file = c.args.self.now.file in
    let file_in = c.args.self.now.file_in in
    let end = c.args.self.now.end in
    let F = front_of file base payloads in
    let P = Is F (Some x) in
    let tells1 = still c.sync.ensures.call tells in
    let tells2 = still c.read.ensures.call tells1 in
    let R = (g.D.Disk.state c.args.disk.now).reads file in
    let R1 = c.sync.ensures.same.reads tells in
    let R2 = c.read.ensures.same.reads tells1 ∙ R1 in
    let in1 : end < length ((g.D.Disk.state c.sync.new.self).reads file) = subst (λ (l : List ℕ). end < length l) (sym R1) (inside F end s.end x R s.reads) in
    let byte : slice_index_or c.read.new.buf 0 0 ≡ get_or R end 0 = byte_read c.read.new.buf _ end _ (omega arith) in1 (c.in_ok-read.ensures.answer tells1) (c.in_ok-read.ensures.bytes tells1) ∙ ap (λ (l : List ℕ). get_or l end 0) R1 in
    (λ yes. slice_get-get_or R end 0 (inside F end s.end x R s.reads) ∙ ap (λ (k : ℕ). Some k) (sym byte ∙ c.if-byte-eq-OPEN.true), λ is. refl)

pub returns-in_err-write_at-clause-any_moment : goal.returns-in_err-write_at-clause-any_moment
returns-in_err-write_at-clause-any_moment g c tells base payloads x s =
    let file = c.args.self.now.file in
    let file_in = c.args.self.now.file_in in
    let end = c.args.self.now.end in
    let F = front_of file base payloads in
    let P = Is F (Some x) in
    let tells1 = still c.sync.ensures.call tells in
    let tells2 = still c.read.ensures.call tells1 in
    let R = (g.D.Disk.state c.args.disk.now).reads file in
    let R1 = c.sync.ensures.same.reads tells in
    let R2 = c.read.ensures.same.reads tells1 ∙ R1 in
    let in1 : end < length ((g.D.Disk.state c.sync.new.self).reads file) = subst (λ (l : List ℕ). end < length l) (sym R1) (inside F end s.end x R s.reads) in
    let byte : slice_index_or c.read.new.buf 0 0 ≡ get_or R end 0 = byte_read c.read.new.buf _ end _ (omega arith) in1 (c.in_ok-read.ensures.answer tells1) (c.in_ok-read.ensures.bytes tells1) ∙ ap (λ (l : List ℕ). get_or l end 0) R1 in
    let only : (b : List ℕ) → (g.D.Disk.state c.read.new.self).leaves file b → b ≡ R = λ b h. c.in_ok-sync.ensures.durable tells b (c.read.ensures.same.leaves b h) in
    let rdy = not_shut F end s.end x R s.reads (λ z. c.if-byte-ne-SHUT.true (byte ∙ z)) in
    let r2 : IsFrameReady F x ((g.D.Disk.state c.read.new.self).reads file) = subst (IsFrameReady F x) (sym R2) rdy in
    let l3 = gate_leaves F end s.end x _ _ (λ b h. subst (IsFrameReady F x) (sym (only b h)) rdy) c.write_at.ensures.crash in
    let go1 = then (begin file (g.D.Disk.state c.args.disk.now) P) c.sync.ensures.call file_in (λ b h. s.leaves b (c.sync.ensures.same.leaves b h)) in
    let go2 = then go1 c.read.ensures.call file_in (λ b h. s.leaves b (c.sync.ensures.same.leaves b (c.read.ensures.same.leaves b h))) in
    let go3 = then go2 c.write_at.ensures.call file_in (λ b h. inr (l3 b h)) in
    go3.moments

pub returns-in_err-write_at-clause-unsettled : goal.returns-in_err-write_at-clause-unsettled
returns-in_err-write_at-clause-unsettled g c err tells base payloads x s =
    let file = c.args.self.now.file in
    let file_in = c.args.self.now.file_in in
    let end = c.args.self.now.end in
    let F = front_of file base payloads in
    let P = Is F (Some x) in
    let tells1 = still c.sync.ensures.call tells in
    let tells2 = still c.read.ensures.call tells1 in
    let R = (g.D.Disk.state c.args.disk.now).reads file in
    let R1 = c.sync.ensures.same.reads tells in
    let R2 = c.read.ensures.same.reads tells1 ∙ R1 in
    let in1 : end < length ((g.D.Disk.state c.sync.new.self).reads file) = subst (λ (l : List ℕ). end < length l) (sym R1) (inside F end s.end x R s.reads) in
    let byte : slice_index_or c.read.new.buf 0 0 ≡ get_or R end 0 = byte_read c.read.new.buf _ end _ (omega arith) in1 (c.in_ok-read.ensures.answer tells1) (c.in_ok-read.ensures.bytes tells1) ∙ ap (λ (l : List ℕ). get_or l end 0) R1 in
    let only : (b : List ℕ) → (g.D.Disk.state c.read.new.self).leaves file b → b ≡ R = λ b h. c.in_ok-sync.ensures.durable tells b (c.read.ensures.same.leaves b h) in
    let rdy = not_shut F end s.end x R s.reads (λ z. c.if-byte-ne-SHUT.true (byte ∙ z)) in
    let r2 : IsFrameReady F x ((g.D.Disk.state c.read.new.self).reads file) = subst (IsFrameReady F x) (sym R2) rdy in
    let l3 = gate_leaves F end s.end x _ _ (λ b h. subst (IsFrameReady F x) (sym (only b h)) rdy) c.write_at.ensures.crash in
    record {
      is_base = s.is_base;
      sized = s.sized;
      payload = s.payload;
      end = s.end;
      waits = s.waits;
      reads = inr (gate_torn F end s.end x _ _ r2 (c.in_err-write_at.ensures.torn tells2));
      leaves = λ b h. inr (l3 b h);
    }

pub returns-in_err-sync-2-clause-any_moment : goal.returns-in_err-sync-2-clause-any_moment
returns-in_err-sync-2-clause-any_moment g c tells base payloads x s =
    let file = c.args.self.now.file in
    let file_in = c.args.self.now.file_in in
    let end = c.args.self.now.end in
    let F = front_of file base payloads in
    let P = Is F (Some x) in
    let tells1 = still c.sync.ensures.call tells in
    let tells2 = still c.read.ensures.call tells1 in
    let R = (g.D.Disk.state c.args.disk.now).reads file in
    let R1 = c.sync.ensures.same.reads tells in
    let R2 = c.read.ensures.same.reads tells1 ∙ R1 in
    let in1 : end < length ((g.D.Disk.state c.sync.new.self).reads file) = subst (λ (l : List ℕ). end < length l) (sym R1) (inside F end s.end x R s.reads) in
    let byte : slice_index_or c.read.new.buf 0 0 ≡ get_or R end 0 = byte_read c.read.new.buf _ end _ (omega arith) in1 (c.in_ok-read.ensures.answer tells1) (c.in_ok-read.ensures.bytes tells1) ∙ ap (λ (l : List ℕ). get_or l end 0) R1 in
    let only : (b : List ℕ) → (g.D.Disk.state c.read.new.self).leaves file b → b ≡ R = λ b h. c.in_ok-sync.ensures.durable tells b (c.read.ensures.same.leaves b h) in
    let rdy = not_shut F end s.end x R s.reads (λ z. c.if-byte-ne-SHUT.true (byte ∙ z)) in
    let r2 : IsFrameReady F x ((g.D.Disk.state c.read.new.self).reads file) = subst (IsFrameReady F x) (sym R2) rdy in
    let l3 = gate_leaves F end s.end x _ _ (λ b h. subst (IsFrameReady F x) (sym (only b h)) rdy) c.write_at.ensures.crash in
    let go1 = then (begin file (g.D.Disk.state c.args.disk.now) P) c.sync.ensures.call file_in (λ b h. s.leaves b (c.sync.ensures.same.leaves b h)) in
    let go2 = then go1 c.read.ensures.call file_in (λ b h. s.leaves b (c.sync.ensures.same.leaves b (c.read.ensures.same.leaves b h))) in
    let go3 = then go2 c.write_at.ensures.call file_in (λ b h. inr (l3 b h)) in
    let go4 = then go3 c.sync-then-byte-ne-SHUT.ensures.call file_in (λ b h. inr (l3 b (c.sync-then-byte-ne-SHUT.ensures.same.leaves b h))) in
    go4.moments

pub returns-in_err-sync-2-clause-unsettled : goal.returns-in_err-sync-2-clause-unsettled
returns-in_err-sync-2-clause-unsettled g c err tells base payloads x s =
    let file = c.args.self.now.file in
    let file_in = c.args.self.now.file_in in
    let end = c.args.self.now.end in
    let F = front_of file base payloads in
    let P = Is F (Some x) in
    let tells1 = still c.sync.ensures.call tells in
    let tells2 = still c.read.ensures.call tells1 in
    let R = (g.D.Disk.state c.args.disk.now).reads file in
    let R1 = c.sync.ensures.same.reads tells in
    let R2 = c.read.ensures.same.reads tells1 ∙ R1 in
    let in1 : end < length ((g.D.Disk.state c.sync.new.self).reads file) = subst (λ (l : List ℕ). end < length l) (sym R1) (inside F end s.end x R s.reads) in
    let byte : slice_index_or c.read.new.buf 0 0 ≡ get_or R end 0 = byte_read c.read.new.buf _ end _ (omega arith) in1 (c.in_ok-read.ensures.answer tells1) (c.in_ok-read.ensures.bytes tells1) ∙ ap (λ (l : List ℕ). get_or l end 0) R1 in
    let only : (b : List ℕ) → (g.D.Disk.state c.read.new.self).leaves file b → b ≡ R = λ b h. c.in_ok-sync.ensures.durable tells b (c.read.ensures.same.leaves b h) in
    let rdy = not_shut F end s.end x R s.reads (λ z. c.if-byte-ne-SHUT.true (byte ∙ z)) in
    let r2 : IsFrameReady F x ((g.D.Disk.state c.read.new.self).reads file) = subst (IsFrameReady F x) (sym R2) rdy in
    let l3 = gate_leaves F end s.end x _ _ (λ b h. subst (IsFrameReady F x) (sym (only b h)) rdy) c.write_at.ensures.crash in
    let tells3 = still c.write_at.ensures.call tells2 in
    let s3 = gate_written F end s.end 0 x _ _ r2 (c.in_ok-write_at.ensures.written tells2) in
    record {
      is_base = s.is_base;
      sized = s.sized;
      payload = s.payload;
      end = s.end;
      waits = s.waits;
      reads = inr (subst (IsFrameReady F x) (sym (c.sync-then-byte-ne-SHUT.ensures.same.reads tells3)) (ready F 0 x _ s3));
      leaves = λ b h. inr (l3 b (c.sync-then-byte-ne-SHUT.ensures.same.leaves b h));
    }

pub returns-clause-any_moment : goal.returns-clause-any_moment
returns-clause-any_moment g c tells base payloads x s =
    let file = c.args.self.now.file in
    let file_in = c.args.self.now.file_in in
    let end = c.args.self.now.end in
    let F = front_of file base payloads in
    let P = Is F (Some x) in
    let tells1 = still c.sync.ensures.call tells in
    let tells2 = still c.read.ensures.call tells1 in
    let R = (g.D.Disk.state c.args.disk.now).reads file in
    let R1 = c.sync.ensures.same.reads tells in
    let R2 = c.read.ensures.same.reads tells1 ∙ R1 in
    let in1 : end < length ((g.D.Disk.state c.sync.new.self).reads file) = subst (λ (l : List ℕ). end < length l) (sym R1) (inside F end s.end x R s.reads) in
    let byte : slice_index_or c.read.new.buf 0 0 ≡ get_or R end 0 = byte_read c.read.new.buf _ end _ (omega arith) in1 (c.in_ok-read.ensures.answer tells1) (c.in_ok-read.ensures.bytes tells1) ∙ ap (λ (l : List ℕ). get_or l end 0) R1 in
    let only : (b : List ℕ) → (g.D.Disk.state c.read.new.self).leaves file b → b ≡ R = λ b h. c.in_ok-sync.ensures.durable tells b (c.read.ensures.same.leaves b h) in
    let go1 = then (begin file (g.D.Disk.state c.args.disk.now) P) c.sync.ensures.call file_in (λ b h. s.leaves b (c.sync.ensures.same.leaves b h)) in
    let go2 = then go1 c.read.ensures.call file_in (λ b h. s.leaves b (c.sync.ensures.same.leaves b (c.read.ensures.same.leaves b h))) in
    elim c.if-byte-ne-SHUT.branch [
      | then-byte-ne-SHUT+in_ok-write_at+in_ok-sync-2 w ↦
          let rdy = not_shut F end s.end x R s.reads (λ z. w.if-byte-ne-SHUT.true (byte ∙ z)) in
          let r2 : IsFrameReady F x ((g.D.Disk.state c.read.new.self).reads file) = subst (IsFrameReady F x) (sym R2) rdy in
          let l3 = gate_leaves F end s.end x _ _ (λ b h. subst (IsFrameReady F x) (sym (only b h)) rdy) w.write_at.ensures.crash in
          let go3 = then go2 w.write_at.ensures.call file_in (λ b h. inr (l3 b h)) in
          let go4 = then go3 w.sync-then-byte-ne-SHUT.ensures.call file_in (λ b h. inr (l3 b (w.sync-then-byte-ne-SHUT.ensures.same.leaves b h))) in
          subst (λ d. LeavesOnly file (g.D.Disk.state c.args.disk.now) (g.D.Disk.state d) (Is F (Some x))) (sym w.disk-is) (go4.moments)
      | else-byte-ne-SHUT w ↦ subst (λ d. LeavesOnly file (g.D.Disk.state c.args.disk.now) (g.D.Disk.state d) (Is F (Some x))) (sym w.disk-is) (go2.moments)
    ]

pub returns-clause-settled : goal.returns-clause-settled
returns-clause-settled g c tells base payloads x s =
    let file = c.args.self.now.file in
    let file_in = c.args.self.now.file_in in
    let end = c.args.self.now.end in
    let F = front_of file base payloads in
    let P = Is F (Some x) in
    let tells1 = still c.sync.ensures.call tells in
    let tells2 = still c.read.ensures.call tells1 in
    let R = (g.D.Disk.state c.args.disk.now).reads file in
    let R1 = c.sync.ensures.same.reads tells in
    let R2 = c.read.ensures.same.reads tells1 ∙ R1 in
    let in1 : end < length ((g.D.Disk.state c.sync.new.self).reads file) = subst (λ (l : List ℕ). end < length l) (sym R1) (inside F end s.end x R s.reads) in
    let byte : slice_index_or c.read.new.buf 0 0 ≡ get_or R end 0 = byte_read c.read.new.buf _ end _ (omega arith) in1 (c.in_ok-read.ensures.answer tells1) (c.in_ok-read.ensures.bytes tells1) ∙ ap (λ (l : List ℕ). get_or l end 0) R1 in
    let only : (b : List ℕ) → (g.D.Disk.state c.read.new.self).leaves file b → b ≡ R = λ b h. c.in_ok-sync.ensures.durable tells b (c.read.ensures.same.leaves b h) in
    elim c.if-byte-ne-SHUT.branch [
      | then-byte-ne-SHUT+in_ok-write_at+in_ok-sync-2 w ↦
          let rdy = not_shut F end s.end x R s.reads (λ z. w.if-byte-ne-SHUT.true (byte ∙ z)) in
          let r2 : IsFrameReady F x ((g.D.Disk.state c.read.new.self).reads file) = subst (IsFrameReady F x) (sym R2) rdy in
          let l3 = gate_leaves F end s.end x _ _ (λ b h. subst (IsFrameReady F x) (sym (only b h)) rdy) w.write_at.ensures.crash in
          let tells3 = still w.write_at.ensures.call tells2 in
          let s3 = gate_written F end s.end 0 x _ _ r2 (w.in_ok-write_at.ensures.written tells2) in
          let done = shut F x _ s3 in
          let reads4 : IsShut F ((g.D.Disk.state c.if-byte-ne-SHUT.disk).reads file) = subst (λ d. IsShut F ((g.D.Disk.state d).reads file)) (sym w.disk-is) (subst (IsShut F) (sym (w.sync-then-byte-ne-SHUT.ensures.same.reads tells3)) done) in
          let leaves4 : (b : List ℕ) → (g.D.Disk.state c.if-byte-ne-SHUT.disk).leaves file b → IsShut F b = subst (λ d. (b : List ℕ) → (g.D.Disk.state d).leaves file b → IsShut F b) (sym w.disk-is) (λ b h. subst (IsShut F) (sym (w.in_ok-sync-2.ensures.durable tells3 b h)) done) in
          record {
            is_base = s.is_base;
            sized = s.sized;
            payload = tt;
            end = s.end;
            waits = refl;
            reads = reads4;
            leaves = λ b h. leaves4 b h;
          }
      | else-byte-ne-SHUT w ↦
          let done = not_kept F end s.end x R s.reads (sym byte ∙ w.if-byte-ne-SHUT.false) in
          let reads4 : IsShut F ((g.D.Disk.state c.if-byte-ne-SHUT.disk).reads file) = subst (λ d. IsShut F ((g.D.Disk.state d).reads file)) (sym w.disk-is) (subst (IsShut F) (sym R2) done) in
          let leaves4 : (b : List ℕ) → (g.D.Disk.state c.if-byte-ne-SHUT.disk).leaves file b → IsShut F b = subst (λ d. (b : List ℕ) → (g.D.Disk.state d).leaves file b → IsShut F b) (sym w.disk-is) (λ b h. subst (IsShut F) (sym (only b h)) done) in
          record {
            is_base = s.is_base;
            sized = s.sized;
            payload = tt;
            end = s.end;
            waits = refl;
            reads = reads4;
            leaves = λ b h. leaves4 b h;
          }
    ]

pub returns-clause-kept : goal.returns-clause-kept
returns-clause-kept g c tells =
    let was = c.requires.stands tells in
    let base = was.0 in
    let payloads = was.1 in
    let x = was.2 in
    let s = was.3 in
    let file = c.args.self.now.file in
    let file_in = c.args.self.now.file_in in
    let end = c.args.self.now.end in
    let F = front_of file base payloads in
    let P = Is F (Some x) in
    let tells1 = still c.sync.ensures.call tells in
    let tells2 = still c.read.ensures.call tells1 in
    let R = (g.D.Disk.state c.args.disk.now).reads file in
    let R1 = c.sync.ensures.same.reads tells in
    let R2 = c.read.ensures.same.reads tells1 ∙ R1 in
    let in1 : end < length ((g.D.Disk.state c.sync.new.self).reads file) = subst (λ (l : List ℕ). end < length l) (sym R1) (inside F end s.end x R s.reads) in
    let byte : slice_index_or c.read.new.buf 0 0 ≡ get_or R end 0 = byte_read c.read.new.buf _ end _ (omega arith) in1 (c.in_ok-read.ensures.answer tells1) (c.in_ok-read.ensures.bytes tells1) ∙ ap (λ (l : List ℕ). get_or l end 0) R1 in (
      λ (yes : IsTrue false). cc,
      λ is.
          let next_is : c.match-self.next ≡ end + 5 + length x = elim c.match-self.branch [
            | in-Some w ↦ let same : w.in-Some.size ≡ length x = cc (w.in-Some.is, s.waits) in omega (arith, w.next-is, same)
            | in-None w ↦ cc (w.in-None.is, s.waits)
          ] in
          let one : get_or R end 0 ≡ 1 = cc (slice_get-get_or R end 0 (inside F end s.end x R s.reads), is) in
          let staged = kept F end s.end x R s.reads one in
          elim c.else-byte-eq-OPEN.branch [
            | else-byte-eq-OPEN-via-then-byte-eq-OPEN+else-next-le-LONGEST_FILE w ↦ absurd (omega (arith, w.if-next-le-LONGEST_FILE.false, next_is, long F end s.end x R staged, g.met.D.Disk.bounded c.args.disk.now file tells file_in))
            | else-byte-eq-OPEN-via-else-byte-eq-OPEN w ↦ absurd (w.if-byte-eq-OPEN.false (byte ∙ one))
          ],
    )

pub returns-in_err-sync-clause-run : goal.returns-in_err-sync-clause-run
returns-in_err-sync-clause-run g c = one c.sync.ensures.call

pub returns-in_err-read-clause-run : goal.returns-in_err-read-clause-run
returns-in_err-read-clause-run g c = run_then (one c.sync.ensures.call) (one c.read.ensures.call)

pub returns-then-next-le-LONGEST_FILE-clause-run : goal.returns-then-next-le-LONGEST_FILE-clause-run
returns-then-next-le-LONGEST_FILE-clause-run g c = run_then (one c.sync.ensures.call) (one c.read.ensures.call)

pub returns-in_err-write_at-clause-run : goal.returns-in_err-write_at-clause-run
returns-in_err-write_at-clause-run g c = run_then (run_then (one c.sync.ensures.call) (one c.read.ensures.call)) (one c.write_at.ensures.call)

pub returns-in_err-sync-2-clause-run : goal.returns-in_err-sync-2-clause-run
returns-in_err-sync-2-clause-run g c = run_then (run_then (run_then (one c.sync.ensures.call) (one c.read.ensures.call)) (one c.write_at.ensures.call)) (one c.sync-then-byte-ne-SHUT.ensures.call)

pub returns-clause-run : goal.returns-clause-run
returns-clause-run g c =
    let read = run_then (one c.sync.ensures.call) (one c.read.ensures.call) in
    elim c.if-byte-ne-SHUT.branch [
      | then-byte-ne-SHUT+in_ok-write_at+in_ok-sync-2 w ↦
          subst (λ d. RunOn c.args.self.now.file (g.D.Disk.state c.args.disk.now) (g.D.Disk.state d)) (sym w.disk-is) (run_then (run_then read (one w.write_at.ensures.call)) (one w.sync-then-byte-ne-SHUT.ensures.call))
      | else-byte-ne-SHUT w ↦ subst (λ d. RunOn c.args.self.now.file (g.D.Disk.state c.args.disk.now) (g.D.Disk.state d)) (sym w.disk-is) read
    ]

pub returns-in_err-sync-clause-cause : goal.returns-in_err-sync-clause-cause
returns-in_err-sync-clause-cause g c = on_err _ c.in_err-sync.ensures.cause

pub returns-in_err-read-clause-cause : goal.returns-in_err-read-clause-cause
returns-in_err-read-clause-cause g c = on_err _ (rose_since c.sync.ensures.call.faults c.in_err-read.ensures.cause)

pub returns-in_err-write_at-clause-cause : goal.returns-in_err-write_at-clause-cause
returns-in_err-write_at-clause-cause g c = on_err _ (rose_since (run_then (one c.sync.ensures.call) (one c.read.ensures.call)).faults c.in_err-write_at.ensures.cause)

pub returns-in_err-sync-2-clause-cause : goal.returns-in_err-sync-2-clause-cause
returns-in_err-sync-2-clause-cause g c = on_err _ (rose_since (run_then (run_then (one c.sync.ensures.call) (one c.read.ensures.call)) (one c.write_at.ensures.call)).faults c.in_err-sync-2.ensures.cause)

pub returns-in_err-sync-clause-unsettled : goal.returns-in_err-sync-clause-unsettled
returns-in_err-sync-clause-unsettled g c err tells base payloads x s =
    let F = front_of c.args.self.now.file base payloads in
    record {
      is_base = s.is_base;
      sized = s.sized;
      payload = s.payload;
      end = s.end;
      waits = s.waits;
      reads = subst (Is F (Some x)) (sym (c.sync.ensures.same.reads tells)) s.reads;
      leaves = λ b h. s.leaves b (c.sync.ensures.same.leaves b h);
    }

pub returns-in_err-read-clause-unsettled : goal.returns-in_err-read-clause-unsettled
returns-in_err-read-clause-unsettled g c err tells base payloads x s =
    let F = front_of c.args.self.now.file base payloads in
    let tells1 = still c.sync.ensures.call tells in
    record {
      is_base = s.is_base;
      sized = s.sized;
      payload = s.payload;
      end = s.end;
      waits = s.waits;
      reads = subst (Is F (Some x)) (sym (c.read.ensures.same.reads tells1 ∙ c.sync.ensures.same.reads tells)) s.reads;
      leaves = λ b h. s.leaves b (c.sync.ensures.same.leaves b (c.read.ensures.same.leaves b h));
    }

pub read-requires-clause-place : goal.read-requires-clause-place
read-requires-clause-place g c tells1 =
    let tells = subst (λ b. IsTrue b) c.sync.ensures.call.tells tells1 in
    let was = c.requires.stands tells in
    let s = was.3 in
    let F = front_of c.args.self.now.file was.0 was.1 in
    omega (arith, inside F c.args.self.now.end s.end was.2 _ s.reads, ap length (c.sync.ensures.same.reads tells))

pub write_at-requires-clause-place : goal.write_at-requires-clause-place
write_at-requires-clause-place g c tells2 =
    let tells1 = subst (λ b. IsTrue b) c.read.ensures.call.tells tells2 in
    let tells = subst (λ b. IsTrue b) c.sync.ensures.call.tells tells1 in
    let was = c.requires.stands tells in
    let s = was.3 in
    let F = front_of c.args.self.now.file was.0 was.1 in
    omega (arith, inside F c.args.self.now.end s.end was.2 _ s.reads, ap length (c.sync.ensures.same.reads tells), ap length (c.read.ensures.same.reads tells1))
