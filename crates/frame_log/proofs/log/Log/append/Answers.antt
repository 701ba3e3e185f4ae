use Rattle.std.proofs.Common.{length, ap, length-append, ◌≡◌, ◌++◌, [], ◌∷◌, List, ℕ, Some, IsTrue, inl, inr, refl, sym, ◌∙◌, subst, arith}
use Rattle.hk_base.specs.Disk.{DiskState, Tells, CallOn}
use Rattle.hk_base.proofs.Runs.{begin, then}
use Rattle.frame_log.specs.Format.{IsPayload, behind}
use Rattle.frame_log.specs.Bases.{base_bytes, front_of}
use Rattle.frame_log.specs.Stands.{IsShut, IsFrameReady, Is}
use Rattle.frame_log.proofs.Goings.{one}
use Rattle.frame_log.proofs.Openings.{run_then, rose_since}
use Rattle.frame_log.proofs.Reading.{all_push, end_on, joined}
use Rattle.frame_log.proofs.Steps.{behind_torn, behind_leaves, staged, gate_torn, gate_leaves, gate_written, ready, shut}
use Rattle.frame_log.proofs.log.Log.append.Goals as goal

still : {file : ℕ} {old new : DiskState} → CallOn file old new → Tells old → Tells new
still call tells = subst (λ b. IsTrue b) (sym call.tells) tells

pub returns-in_err-behind-clause-any_moment : goal.returns-in_err-behind-clause-any_moment
returns-in_err-behind-clause-any_moment g c tells base payloads s = record { before = λ t image le left. inl left }

pub returns-in_err-behind-clause-memory : goal.returns-in_err-behind-clause-memory
returns-in_err-behind-clause-memory g c is = (refl, refl)

pub returns-in_err-behind-clause-run : goal.returns-in_err-behind-clause-run
returns-in_err-behind-clause-run g c = record {
  tells = refl;
  faults = omega arith;
  later = omega arith;
  other_reads = λ tells. refl;
  other_leaves = λ b. (λ h. h, λ h. h);
}

pub returns-in_err-write_at-clause-any_moment : goal.returns-in_err-write_at-clause-any_moment
returns-in_err-write_at-clause-any_moment g c tells base payloads s =
    let file = c.args.self.now.file in
    let file_in = c.args.self.now.file_in in
    let x = c.args.payload.now in
    let end = c.args.self.now.end in
    let F = front_of file base payloads in
    let P = Is F (Some x) in
    let l1 = behind_leaves F end s.end _ _ _ s.leaves c.write_at.ensures.crash in
    let go1 = then (begin file (g.D.Disk.state c.args.disk.now) P) c.write_at.ensures.call file_in (λ b h. inl (l1 b h)) in
    go1.moments

pub returns-in_err-write_at-clause-unsettled : goal.returns-in_err-write_at-clause-unsettled
returns-in_err-write_at-clause-unsettled g c fault tells base payloads s =
    let file = c.args.self.now.file in
    let file_in = c.args.self.now.file_in in
    let x = c.args.payload.now in
    let end = c.args.self.now.end in
    let F = front_of file base payloads in
    let P = Is F (Some x) in
    let l1 = behind_leaves F end s.end _ _ _ s.leaves c.write_at.ensures.crash in
    record {
      is_base = s.is_base;
      sized = s.sized;
      payload = c.requires.payload;
      end = s.end;
      waits = refl;
      reads = inl (behind_torn F end s.end _ _ _ s.reads (c.in_err-write_at.ensures.torn tells));
      leaves = λ b h. inl (l1 b h);
    }

pub returns-in_err-sync-clause-any_moment : goal.returns-in_err-sync-clause-any_moment
returns-in_err-sync-clause-any_moment g c tells base payloads s =
    let file = c.args.self.now.file in
    let file_in = c.args.self.now.file_in in
    let x = c.args.payload.now in
    let end = c.args.self.now.end in
    let F = front_of file base payloads in
    let P = Is F (Some x) in
    let l1 = behind_leaves F end s.end _ _ _ s.leaves c.write_at.ensures.crash in
    let go1 = then (begin file (g.D.Disk.state c.args.disk.now) P) c.write_at.ensures.call file_in (λ b h. inl (l1 b h)) in
    let go2 = then go1 c.sync.ensures.call file_in (λ b h. inl (l1 b (c.sync.ensures.same.leaves b h))) in
    go2.moments

pub returns-in_err-sync-clause-unsettled : goal.returns-in_err-sync-clause-unsettled
returns-in_err-sync-clause-unsettled g c fault tells base payloads s =
    let file = c.args.self.now.file in
    let file_in = c.args.self.now.file_in in
    let x = c.args.payload.now in
    let end = c.args.self.now.end in
    let F = front_of file base payloads in
    let P = Is F (Some x) in
    let l1 = behind_leaves F end s.end _ _ _ s.leaves c.write_at.ensures.crash in
    let tells1 = still c.write_at.ensures.call tells in
    let bytes : c.deref.result.now ≡ behind x ++ 0 ∷ [] = c.deref.ensures.value ∙ c.in_ok-behind.ensures in
    let s1 = staged F end s.end x _ _ _ s.reads bytes (c.in_ok-write_at.ensures.written tells) in
    record {
      is_base = s.is_base;
      sized = s.sized;
      payload = c.requires.payload;
      end = s.end;
      waits = refl;
      reads = inl (subst (IsShut F) (sym (c.sync.ensures.same.reads tells1)) (shut F x _ s1));
      leaves = λ b h. inl (l1 b (c.sync.ensures.same.leaves b h));
    }

pub returns-in_err-write_at-2-clause-any_moment : goal.returns-in_err-write_at-2-clause-any_moment
returns-in_err-write_at-2-clause-any_moment g c tells base payloads s =
    let file = c.args.self.now.file in
    let file_in = c.args.self.now.file_in in
    let x = c.args.payload.now in
    let end = c.args.self.now.end in
    let F = front_of file base payloads in
    let P = Is F (Some x) in
    let tells1 = still c.write_at.ensures.call tells in
    let l1 = behind_leaves F end s.end _ _ _ s.leaves c.write_at.ensures.crash in
    let bytes : c.deref.result.now ≡ behind x ++ 0 ∷ [] = c.deref.ensures.value ∙ c.in_ok-behind.ensures in
    let s1 = staged F end s.end x _ _ _ s.reads bytes (c.in_ok-write_at.ensures.written tells) in
    let l2 : (b : List ℕ) → (g.D.Disk.state c.sync.new.self).leaves file b → IsFrameReady F x b = λ b h. subst (IsFrameReady F x) (sym (c.in_ok-sync.ensures.durable tells1 b h)) (ready F 0 x _ s1) in
    let l3 = gate_leaves F end s.end x _ _ l2 c.write_at-2.ensures.crash in
    let go1 = then (begin file (g.D.Disk.state c.args.disk.now) P) c.write_at.ensures.call file_in (λ b h. inl (l1 b h)) in
    let go2 = then go1 c.sync.ensures.call file_in (λ b h. inl (l1 b (c.sync.ensures.same.leaves b h))) in
    let go3 = then go2 c.write_at-2.ensures.call file_in (λ b h. inr (l3 b h)) in
    go3.moments

pub returns-in_err-write_at-2-clause-unsettled : goal.returns-in_err-write_at-2-clause-unsettled
returns-in_err-write_at-2-clause-unsettled g c fault tells base payloads s =
    let file = c.args.self.now.file in
    let file_in = c.args.self.now.file_in in
    let x = c.args.payload.now in
    let end = c.args.self.now.end in
    let F = front_of file base payloads in
    let P = Is F (Some x) in
    let tells1 = still c.write_at.ensures.call tells in
    let tells2 = still c.sync.ensures.call tells1 in
    let l1 = behind_leaves F end s.end _ _ _ s.leaves c.write_at.ensures.crash in
    let bytes : c.deref.result.now ≡ behind x ++ 0 ∷ [] = c.deref.ensures.value ∙ c.in_ok-behind.ensures in
    let s1 = staged F end s.end x _ _ _ s.reads bytes (c.in_ok-write_at.ensures.written tells) in
    let l2 : (b : List ℕ) → (g.D.Disk.state c.sync.new.self).leaves file b → IsFrameReady F x b = λ b h. subst (IsFrameReady F x) (sym (c.in_ok-sync.ensures.durable tells1 b h)) (ready F 0 x _ s1) in
    let r2 : IsFrameReady F x ((g.D.Disk.state c.sync.new.self).reads file) = subst (IsFrameReady F x) (sym (c.sync.ensures.same.reads tells1)) (ready F 0 x _ s1) in
    let l3 = gate_leaves F end s.end x _ _ l2 c.write_at-2.ensures.crash in
    record {
      is_base = s.is_base;
      sized = s.sized;
      payload = c.requires.payload;
      end = s.end;
      waits = refl;
      reads = inr (gate_torn F end s.end x _ _ r2 (c.in_err-write_at-2.ensures.torn tells2));
      leaves = λ b h. inr (l3 b h);
    }

pub returns-in_err-sync-2-clause-any_moment : goal.returns-in_err-sync-2-clause-any_moment
returns-in_err-sync-2-clause-any_moment g c tells base payloads s =
    let file = c.args.self.now.file in
    let file_in = c.args.self.now.file_in in
    let x = c.args.payload.now in
    let end = c.args.self.now.end in
    let F = front_of file base payloads in
    let P = Is F (Some x) in
    let tells1 = still c.write_at.ensures.call tells in
    let l1 = behind_leaves F end s.end _ _ _ s.leaves c.write_at.ensures.crash in
    let bytes : c.deref.result.now ≡ behind x ++ 0 ∷ [] = c.deref.ensures.value ∙ c.in_ok-behind.ensures in
    let s1 = staged F end s.end x _ _ _ s.reads bytes (c.in_ok-write_at.ensures.written tells) in
    let l2 : (b : List ℕ) → (g.D.Disk.state c.sync.new.self).leaves file b → IsFrameReady F x b = λ b h. subst (IsFrameReady F x) (sym (c.in_ok-sync.ensures.durable tells1 b h)) (ready F 0 x _ s1) in
    let l3 = gate_leaves F end s.end x _ _ l2 c.write_at-2.ensures.crash in
    let go1 = then (begin file (g.D.Disk.state c.args.disk.now) P) c.write_at.ensures.call file_in (λ b h. inl (l1 b h)) in
    let go2 = then go1 c.sync.ensures.call file_in (λ b h. inl (l1 b (c.sync.ensures.same.leaves b h))) in
    let go3 = then go2 c.write_at-2.ensures.call file_in (λ b h. inr (l3 b h)) in
    let go4 = then go3 c.sync-2.ensures.call file_in (λ b h. inr (l3 b (c.sync-2.ensures.same.leaves b h))) in
    go4.moments

pub returns-in_err-sync-2-clause-unsettled : goal.returns-in_err-sync-2-clause-unsettled
returns-in_err-sync-2-clause-unsettled g c fault tells base payloads s =
    let file = c.args.self.now.file in
    let file_in = c.args.self.now.file_in in
    let x = c.args.payload.now in
    let end = c.args.self.now.end in
    let F = front_of file base payloads in
    let P = Is F (Some x) in
    let tells1 = still c.write_at.ensures.call tells in
    let tells2 = still c.sync.ensures.call tells1 in
    let tells3 = still c.write_at-2.ensures.call tells2 in
    let l1 = behind_leaves F end s.end _ _ _ s.leaves c.write_at.ensures.crash in
    let bytes : c.deref.result.now ≡ behind x ++ 0 ∷ [] = c.deref.ensures.value ∙ c.in_ok-behind.ensures in
    let s1 = staged F end s.end x _ _ _ s.reads bytes (c.in_ok-write_at.ensures.written tells) in
    let l2 : (b : List ℕ) → (g.D.Disk.state c.sync.new.self).leaves file b → IsFrameReady F x b = λ b h. subst (IsFrameReady F x) (sym (c.in_ok-sync.ensures.durable tells1 b h)) (ready F 0 x _ s1) in
    let r2 : IsFrameReady F x ((g.D.Disk.state c.sync.new.self).reads file) = subst (IsFrameReady F x) (sym (c.sync.ensures.same.reads tells1)) (ready F 0 x _ s1) in
    let l3 = gate_leaves F end s.end x _ _ l2 c.write_at-2.ensures.crash in
    let s3 = gate_written F end s.end 1 x _ _ r2 (c.in_ok-write_at-2.ensures.written tells2) in
    record {
      is_base = s.is_base;
      sized = s.sized;
      payload = c.requires.payload;
      end = s.end;
      waits = refl;
      reads = inr (subst (IsFrameReady F x) (sym (c.sync-2.ensures.same.reads tells3)) (ready F 1 x _ s3));
      leaves = λ b h. inr (l3 b (c.sync-2.ensures.same.leaves b h));
    }

pub returns-clause-any_moment : goal.returns-clause-any_moment
returns-clause-any_moment g c tells base payloads s =
    let file = c.args.self.now.file in
    let file_in = c.args.self.now.file_in in
    let x = c.args.payload.now in
    let end = c.args.self.now.end in
    let F = front_of file base payloads in
    let P = Is F (Some x) in
    let tells1 = still c.write_at.ensures.call tells in
    let l1 = behind_leaves F end s.end _ _ _ s.leaves c.write_at.ensures.crash in
    let bytes : c.deref.result.now ≡ behind x ++ 0 ∷ [] = c.deref.ensures.value ∙ c.in_ok-behind.ensures in
    let s1 = staged F end s.end x _ _ _ s.reads bytes (c.in_ok-write_at.ensures.written tells) in
    let l2 : (b : List ℕ) → (g.D.Disk.state c.sync.new.self).leaves file b → IsFrameReady F x b = λ b h. subst (IsFrameReady F x) (sym (c.in_ok-sync.ensures.durable tells1 b h)) (ready F 0 x _ s1) in
    let l3 = gate_leaves F end s.end x _ _ l2 c.write_at-2.ensures.crash in
    let go1 = then (begin file (g.D.Disk.state c.args.disk.now) P) c.write_at.ensures.call file_in (λ b h. inl (l1 b h)) in
    let go2 = then go1 c.sync.ensures.call file_in (λ b h. inl (l1 b (c.sync.ensures.same.leaves b h))) in
    let go3 = then go2 c.write_at-2.ensures.call file_in (λ b h. inr (l3 b h)) in
    let go4 = then go3 c.sync-2.ensures.call file_in (λ b h. inr (l3 b (c.sync-2.ensures.same.leaves b h))) in
    go4.moments

pub returns-clause-added : goal.returns-clause-added
returns-clause-added g c tells base payloads s =
    let file = c.args.self.now.file in
    let file_in = c.args.self.now.file_in in
    let x = c.args.payload.now in
    let end = c.args.self.now.end in
    let F = front_of file base payloads in
    let P = Is F (Some x) in
    let tells1 = still c.write_at.ensures.call tells in
    let tells2 = still c.sync.ensures.call tells1 in
    let tells3 = still c.write_at-2.ensures.call tells2 in
    let l1 = behind_leaves F end s.end _ _ _ s.leaves c.write_at.ensures.crash in
    let bytes : c.deref.result.now ≡ behind x ++ 0 ∷ [] = c.deref.ensures.value ∙ c.in_ok-behind.ensures in
    let s1 = staged F end s.end x _ _ _ s.reads bytes (c.in_ok-write_at.ensures.written tells) in
    let l2 : (b : List ℕ) → (g.D.Disk.state c.sync.new.self).leaves file b → IsFrameReady F x b = λ b h. subst (IsFrameReady F x) (sym (c.in_ok-sync.ensures.durable tells1 b h)) (ready F 0 x _ s1) in
    let r2 : IsFrameReady F x ((g.D.Disk.state c.sync.new.self).reads file) = subst (IsFrameReady F x) (sym (c.sync.ensures.same.reads tells1)) (ready F 0 x _ s1) in
    let s3 = gate_written F end s.end 1 x _ _ r2 (c.in_ok-write_at-2.ensures.written tells2) in
    let done : IsShut (front_of file base (payloads ++ x ∷ [])) ((g.D.Disk.state c.write_at-2.new.self).reads file) = (s3.0, s3.1 ∙ joined (base_bytes file base) payloads x s3.0) in
    record {
      is_base = s.is_base;
      sized = all_push IsPayload payloads x s.sized c.requires.payload;
      payload = tt;
      end = omega (arith, s.end, end_on (base_bytes file base) payloads x);
      waits = refl;
      reads = subst (IsShut (front_of file base (payloads ++ x ∷ []))) (sym (c.sync-2.ensures.same.reads tells3)) done;
      leaves = λ b h. subst (IsShut (front_of file base (payloads ++ x ∷ []))) (sym (c.in_ok-sync-2.ensures.durable tells3 b h)) done;
    }

pub returns-in_err-write_at-clause-run : goal.returns-in_err-write_at-clause-run
returns-in_err-write_at-clause-run g c = one c.write_at.ensures.call

pub returns-in_err-write_at-clause-cause : goal.returns-in_err-write_at-clause-cause
returns-in_err-write_at-clause-cause g c is = c.in_err-write_at.ensures.cause

pub returns-in_err-sync-clause-run : goal.returns-in_err-sync-clause-run
returns-in_err-sync-clause-run g c = run_then (one c.write_at.ensures.call) (one c.sync.ensures.call)

pub returns-in_err-sync-clause-cause : goal.returns-in_err-sync-clause-cause
returns-in_err-sync-clause-cause g c is = rose_since c.write_at.ensures.call.faults c.in_err-sync.ensures.cause

pub returns-in_err-write_at-2-clause-run : goal.returns-in_err-write_at-2-clause-run
returns-in_err-write_at-2-clause-run g c = run_then (run_then (one c.write_at.ensures.call) (one c.sync.ensures.call)) (one c.write_at-2.ensures.call)

pub returns-in_err-write_at-2-clause-cause : goal.returns-in_err-write_at-2-clause-cause
returns-in_err-write_at-2-clause-cause g c is = rose_since (run_then (one c.write_at.ensures.call) (one c.sync.ensures.call)).faults c.in_err-write_at-2.ensures.cause

pub returns-in_err-sync-2-clause-run : goal.returns-in_err-sync-2-clause-run
returns-in_err-sync-2-clause-run g c = run_then (run_then (run_then (one c.write_at.ensures.call) (one c.sync.ensures.call)) (one c.write_at-2.ensures.call)) (one c.sync-2.ensures.call)

pub returns-in_err-sync-2-clause-cause : goal.returns-in_err-sync-2-clause-cause
returns-in_err-sync-2-clause-cause g c is = rose_since (run_then (run_then (one c.write_at.ensures.call) (one c.sync.ensures.call)) (one c.write_at-2.ensures.call)).faults c.in_err-sync-2.ensures.cause

pub returns-clause-run : goal.returns-clause-run
returns-clause-run g c = run_then (run_then (run_then (one c.write_at.ensures.call) (one c.sync.ensures.call)) (one c.write_at-2.ensures.call)) (one c.sync-2.ensures.call)

pub write_at-requires-clause-place : goal.write_at-requires-clause-place
write_at-requires-clause-place g c tells =
    let stands = c.requires.stands tells in
    let s = stands.2 in
    let F = front_of c.args.self.now.file stands.0 stands.1 in
    omega (arith, s.end, ap length s.reads.1, length-append F (0 ∷ s.reads.0))

pub write_at-requires-2-clause-place : goal.write_at-requires-2-clause-place
write_at-requires-2-clause-place g c tells2 =
    let tells1 = subst (λ b. IsTrue b) c.sync.ensures.call.tells tells2 in
    let tells = subst (λ b. IsTrue b) c.write_at.ensures.call.tells tells1 in
    let stands = c.requires.stands tells in
    let s = stands.2 in
    let F = front_of c.args.self.now.file stands.0 stands.1 in
    let x = c.args.payload.now in
    let bytes : c.deref.result.now ≡ behind x ++ 0 ∷ [] = c.deref.ensures.value ∙ c.in_ok-behind.ensures in
    let s1 = staged F c.args.self.now.end s.end x _ _ _ s.reads bytes (c.in_ok-write_at.ensures.written tells) in
    omega (arith, s.end, ap length (c.sync.ensures.same.reads tells1), ap length s1.1, length-append F (0 ∷ (behind x ++ 0 ∷ s1.0)))
