-- What layers above logs need of them.
use Rattle.std.proofs.Common.{◌≡◌, ◌⊎◌, inl, inr, ◌-◌, ℕ, suc, List, [], ◌∷◌, ◌++◌, None, Option, sym, ◌∙◌, ap, subst, ⊎_elim, arith}
use Rattle.hk_base.specs.Disk.{DiskState, Tells, Reads, RunOn}
use Rattle.hk_base.proofs.Runs.{Going}
use Rattle.frame_log.specs.Format.{log_of, Found, IsAtRest, IsHalfOpen, IsBeforeOrAfter, IsAsFound, At_rest, Half_open, Opened, IsRecovered, Log_as_found, No_log}
use Rattle.frame_log.specs.Bases.{Area, front_of}
use Rattle.frame_log.specs.Stands.{Stands, StandsOn, Is, IsSoundFile, LeavesFrom}
use Rattle.frame_log.specs.declared.log.Log.{Log}
use Rattle.frame_log.proofs.Reading.{log_shut}

-- calls on one file keep the invariant of the other log
pub other_stands : {base : Option Area} (file : ℕ) (old new : DiskState) (log : Log) (payloads : List (List ℕ)) (unsettled : Option (List ℕ)) → RunOn file old new → log.file ≡ 1 - file → Tells old → StandsOn base old log payloads unsettled → StandsOn base new log payloads unsettled
other_stands {base} file old new log payloads unsettled run other tells s = record {
  is_base = s.is_base;
  sized = s.sized;
  payload = s.payload;
  end = s.end;
  waits = s.waits;
  reads = subst (Is (front_of log.file base payloads) unsettled) (sym (subst (λ (k : ℕ). new.reads k ≡ old.reads k) (sym other) (run.other_reads tells))) s.reads;
  leaves = λ bytes h. s.leaves bytes (subst (λ (k : ℕ). new.leaves k bytes → old.leaves k bytes) (sym other) (run.other_leaves bytes).0 h);
}

-- what a crash leaves of a settled log is a log of its payloads, at rest
pub left_at_rest : (d : DiskState) (log : Log) (payloads : List (List ℕ)) → Stands d log payloads None → (bytes : List ℕ) → d.leaves log.file bytes → IsAtRest log.file payloads bytes
left_at_rest d log payloads s bytes h =
    let shut = s.leaves bytes h in
    ap (log_of log.file) shut.1 ∙ log_shut log.file payloads shut.0 s.sized

-- its file reads as one too
pub reads_at_rest : (d : DiskState) (log : Log) (payloads : List (List ℕ)) → Stands d log payloads None → IsAtRest log.file payloads (d.reads log.file)
reads_at_rest d log payloads s = ap (log_of log.file) s.reads.1 ∙ log_shut log.file payloads s.reads.0 s.sized

-- calls that only read leave the log standing
pub still_stands : {base : Option Area} (file : ℕ) (old new : DiskState) (log : Log) (payloads : List (List ℕ)) (unsettled : Option (List ℕ)) → Reads file old new → log.file ≡ file → Tells old → StandsOn base old log payloads unsettled → StandsOn base new log payloads unsettled
still_stands {base} file old new log payloads unsettled same is tells s = record {
  is_base = s.is_base;
  sized = s.sized;
  payload = s.payload;
  end = s.end;
  waits = s.waits;
  reads = subst (Is (front_of log.file base payloads) unsettled) (sym (subst (λ (k : ℕ). new.reads k ≡ old.reads k) (sym is) (same.reads tells))) s.reads;
  leaves = λ bytes h. s.leaves bytes (subst (λ (k : ℕ). new.leaves k bytes → old.leaves k bytes) (sym is) (same.leaves bytes) h);
}

-- what a crash leaves of a log that stands as it was found
pub left_as_found : (d : DiskState) (log : Log) (payloads : List (List ℕ)) (file gate : ℕ) (found : List ℕ) → Stands d log payloads None → log.file ≡ file → log_of file found ≡ Found payloads gate → (bytes : List ℕ) → d.leaves file bytes → IsAsFound file found bytes
left_as_found d log payloads file gate found s is here bytes h =
    let left : d.leaves log.file bytes = subst (λ (k : ℕ). d.leaves k bytes) (sym is) h in
    At_rest payloads gate here (subst (λ (k : ℕ). IsAtRest k payloads bytes) is (left_at_rest d log payloads s bytes left))

-- a run of calls after a moment from which a crash leaves only what has P
pub from_then : {file : ℕ} {old mid new : DiskState} {P Q : List ℕ → Type 0} → LeavesFrom file old mid P → Going file mid new Q → ((c : List ℕ) → Q c → P c) → LeavesFrom file old new P
from_then {file} {old} {mid} {new} {P} {Q} s run f = record {
  moment = s.moment;
  begun = s.begun;
  reached = omega (arith, s.reached, run.run.later);
  only = λ c left. ⊎_elim (λ past. s.only c past) (λ now. f (c file) now.0) (run.moments.before s.moment c s.reached left);
}

-- what a crash leaves while a payload is added is a log, without it or with it
pub before_or_after_log : (file : ℕ) (payloads : List (List ℕ)) (payload bytes : List ℕ) → IsBeforeOrAfter file payloads payload bytes
    → ((gate : ℕ) × (log_of file bytes ≡ Found payloads gate)) ⊎ ((gate : ℕ) × (log_of file bytes ≡ Found (payloads ++ payload ∷ []) gate))
before_or_after_log file payloads payload bytes (inl before) = inl (0, before)
before_or_after_log file payloads payload bytes (inr (inl after)) = inr (0, after)
before_or_after_log file payloads payload bytes (inr (inr half)) = inl (half.gate, half.now)

-- what a crash leaves while a payload is added is a file that a run may start from
pub sound_after : (file : ℕ) (payloads : List (List ℕ)) (payload bytes : List ℕ) → IsBeforeOrAfter file payloads payload bytes → IsSoundFile file bytes
sound_after file payloads payload bytes (inl before) = record { payloads = payloads; payload = payload; sound = inl before }
sound_after file payloads payload bytes (inr (inl after)) = record { payloads = payloads ++ payload ∷ []; payload = payload; sound = inl after }
sound_after file payloads payload bytes (inr (inr half)) = record { payloads = payloads; payload = payload; sound = inr half }

-- so is what a crash leaves while such a file is opened
pub sound_found : (file : ℕ) (found bytes : List ℕ) → IsSoundFile file found → IsAsFound file found bytes → IsSoundFile file bytes
sound_found file found bytes s (At_rest payloads gate is now) = record { payloads = payloads; payload = s.payload; sound = inl now }
sound_found file found bytes s (Half_open payloads gate other is now same) = half s.sound
  where
    half : IsAtRest file s.payloads found ⊎ IsHalfOpen file s.payloads (s.payloads ++ s.payload ∷ []) found → IsSoundFile file bytes
    half (inl rest) = let no_gate : suc gate ≡ 0 = cc (is, rest) in absurd (omega arith)
    half (inr h) =
        let one : payloads ≡ s.payloads = cc (is, h.now) in
        record {
          payloads = s.payloads;
          payload = s.payload;
          sound = inr (record { gate = suc other; not_shut = omega arith; now = now ∙ ap (λ (l : List (List ℕ)). Found l (suc other)) one; then_on = ap (log_of file) same ∙ h.then_on });
        }
sound_found file found bytes s (Opened payloads gate is same) = half s.sound
  where
    half : IsAtRest file s.payloads found ⊎ IsHalfOpen file s.payloads (s.payloads ++ s.payload ∷ []) found → IsSoundFile file bytes
    half (inl rest) = let no_gate : suc gate ≡ 0 = cc (is, rest) in absurd (omega arith)
    half (inr h) = record { payloads = s.payloads ++ s.payload ∷ []; payload = s.payload; sound = inl (ap (log_of file) same ∙ h.then_on) }

-- what recovery leaves of a log agrees with the log
pub recovered_log : (file : ℕ) (found bytes : List ℕ) (payloads : List (List ℕ)) (gate : ℕ) → log_of file found ≡ Found payloads gate → IsRecovered file found bytes → IsAsFound file found bytes
recovered_log file found bytes payloads gate is (Log_as_found held) = held
recovered_log file found bytes payloads gate is (No_log at none same) = absurd (cc (is, none))

-- so it leaves a file that a run may start from, whatever it returns
pub sound_recovered : (file : ℕ) (found bytes : List ℕ) → IsSoundFile file found → IsRecovered file found bytes → IsSoundFile file bytes
sound_recovered file found bytes s (Log_as_found held) = sound_found file found bytes s held
sound_recovered file found bytes s (No_log at none same) = subst (IsSoundFile file) (sym same) s
