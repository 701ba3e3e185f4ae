-- A start, for other faults, with less said of the file, and followed by more calls.
use Rattle.std.proofs.Common.{◌≡◌, ◌⊎◌, inl, inr, ⊎_elim, ◌≤◌, ℕ, List, Result, Ok, Err, IsTrue, refl, sym, ◌∙◌, ap, subst, arith}
use Rattle.std.specs.Prelude.{IsErrOf}
use Rattle.hk_base.specs.Disk.{DiskState, Tells, RunOn, LeavesOnly}
use Rattle.hk_base.specs.Faults.{Rose}
use Rattle.hk_base.proofs.Runs.{Going, compose, weaker}
use Rattle.frame_log.specs.Faults.{start_fault}
use Rattle.frame_log.specs.Format.{IsAsFound, IsRecovered}
use Rattle.frame_log.specs.Opens.{FailsAs, FailsFor, OpensLog}
use Rattle.frame_log.specs.Stands.{LeavesFrom}
use Rattle.frame_log.specs.declared.fault.LogFault.{LogFault}
use Rattle.frame_log.specs.declared.fault.LogFault.TheVariants as log
use Rattle.frame_log.specs.declared.fault.StartFault.{StartFault}
use Rattle.frame_log.specs.declared.fault.StartFault.TheVariants as start
use Rattle.frame_log.proofs.Found.{left_or_found}
use Rattle.frame_log.proofs.Layers.{from_then}

pub from_weaker : {file : ℕ} {old new : DiskState} {P Q : List ℕ → Type 0} → ((c : List ℕ) → P c → Q c) → LeavesFrom file old new P → LeavesFrom file old new Q
from_weaker f s = record { moment = s.moment; begun = s.begun; reached = s.reached; only = λ c left. f _ (s.only c left) }

-- a count of faults that rose since a later moment rose since an earlier one
pub rose_since : {a b c : ℕ} → a ≤ b → Rose b c → Rose a c
rose_since le rose = omega (arith, le, rose)

-- one run of calls after another
pub run_then : {file : ℕ} {old mid new : DiskState} → RunOn file old mid → RunOn file mid new → RunOn file old new
run_then a b = record {
  tells = b.tells ∙ a.tells;
  faults = omega (arith, a.faults, b.faults);
  later = omega (arith, a.later, b.later);
  other_reads = λ telling. b.other_reads (subst (λ x. IsTrue x) (sym a.tells) telling) ∙ a.other_reads telling;
  other_leaves = λ c. (λ h. (a.other_leaves c).0 ((b.other_leaves c).0 h), λ h. (b.other_leaves c).1 ((a.other_leaves c).1 h));
}

-- both results are this fault
pub same_fault : {T U : Type 0} (why : StartFault) (first : Result T StartFault) (then : Result U StartFault) → first ≡ Err why → then ≡ Err why → (fault : StartFault) → IsErrOf then fault → IsErrOf first fault
same_fault why first then was now fault is = let same : why ≡ fault = cc (now, is) in was ∙ ap Err same

module _ {file : ℕ} {Damage : List ℕ → ℕ → Type 0} {Used : List ℕ → Type 0} where
  -- it fails only with some of the faults
  pub why_for : {old new : DiskState} {fails fails' : StartFault → Type 0} → ((fault : StartFault) → fails' fault → fails fault) → FailsFor file Damage Used old new fails → FailsFor file Damage Used old new fails'
  why_for f w = record {
    damaged = λ at is. w.damaged at (f (start.Damaged at) is);
    spent = λ is. w.spent (f start.Spent is);
    cause = λ is. w.cause (f start.StoreFault is);
  }

  -- more of the fault is known since an earlier moment
  pub why_since : (old mid new : DiskState) {fails : StartFault → Type 0} → RunOn file old mid → (Tells old → mid.reads file ≡ old.reads file) → FailsFor file Damage Used mid new fails → FailsFor file Damage Used old new fails
  why_since old mid new run same w = record {
    damaged = λ at is telling. subst (λ (b : List ℕ). Damage b at) (same telling) (w.damaged at is (run.tells ∙ telling));
    spent = λ is telling. subst Used (same telling) (w.spent is (run.tells ∙ telling));
    cause = λ is. rose_since run.faults (w.cause is);
  }

  module _ {Left : List ℕ → List ℕ → Type 0} {old new : DiskState} where
    pub opens_for : {fails fails' : StartFault → Type 0} → ((fault : StartFault) → fails' fault → fails fault) → (fails start.StoreFault → fails' start.StoreFault)
        → OpensLog file Damage Used Left old new fails → OpensLog file Damage Used Left old new fails'
    opens_for f g o = record {
      why = why_for f o.why;
      any_moment = o.any_moment;
      since_sync = λ telling. ⊎_elim (λ failed. inl (g failed.0, failed.1)) (λ since. inr since) (o.since_sync telling);
      run = o.run;
    }

    -- what a call returns that returns what the start did

    pub opens_ok : {T U : Type 0} (x : T) (y : U) → OpensLog file Damage Used Left old new (λ fault. IsErrOf (Ok x) fault) → OpensLog file Damage Used Left old new (λ fault. IsErrOf (Ok y) fault)
    opens_ok x y o = opens_for (λ fault is. absurd (cc is)) (λ is. absurd (cc is)) o

    pub opens_err : {T U : Type 0} (why : StartFault) (first : Result T StartFault) (then : Result U StartFault) → first ≡ Err why → then ≡ Err why
        → OpensLog file Damage Used Left old new (λ fault. IsErrOf first fault) → OpensLog file Damage Used Left old new (λ fault. IsErrOf then fault)
    opens_err why first then was now o = opens_for (same_fault why first then was now) (same_fault why then first now was start.StoreFault) o

-- less is said of the file
module _ {file : ℕ} {Damage Damage' : List ℕ → ℕ → Type 0} {Used Used' : List ℕ → Type 0} {Left Left' : List ℕ → List ℕ → Type 0} (old new : DiskState) {fails : StartFault → Type 0} where
  pub opens_as : ((bytes : List ℕ) (at : ℕ) → Damage bytes at → Damage' bytes at) → ((bytes : List ℕ) → Used bytes → Used' bytes) → ((bytes c : List ℕ) → Left bytes c → Left' bytes c)
      → OpensLog file Damage Used Left old new fails → OpensLog file Damage' Used' Left' old new fails
  opens_as damage used left o = record {
    why = record {
      damaged = λ at is telling. damage (old.reads file) at (o.why.damaged at is telling);
      spent = λ is telling. used (old.reads file) (o.why.spent is telling);
      cause = o.why.cause;
    };
    any_moment = λ telling. weaker (λ c here. ⊎_elim (λ past. inl past) (λ now. inr (left (old.reads file) c now)) here) (o.any_moment telling);
    since_sync = λ telling. ⊎_elim (λ failed. inl failed) (λ since. inr (from_weaker (left (old.reads file)) since)) (o.since_sync telling);
    run = o.run;
  }

-- a log was opened, and then calls leave only what the start leaves
module _ {file : ℕ} {Damage Damage' : List ℕ → ℕ → Type 0} {Used Used' : List ℕ → Type 0} {Left : List ℕ → List ℕ → Type 0} (old mid new : DiskState) {fails fails' : StartFault → Type 0} where
  pub opens_then : (fails start.StoreFault → ⊥) → OpensLog file Damage Used Left old mid fails → RunOn file mid new → (Tells old → LeavesOnly file mid new (Left (old.reads file))) → FailsFor file Damage' Used' old new fails'
      → OpensLog file Damage' Used' Left old new fails'
  opens_then opened o run moments why = record {
    why = why;
    any_moment = λ telling.
        let first : Going file old mid (λ c. old.leaves file c ⊎ Left (old.reads file) c) = record { run = o.run; moments = o.any_moment telling } in
        (compose first (on telling) (λ c here. inr here)).moments;
    since_sync = λ telling. ⊎_elim (λ failed. absurd (opened failed.0)) (λ since. inr (from_then since (on telling) (λ c here. here))) (o.since_sync telling);
    run = run_then o.run run;
  }
    where
      on : Tells old → Going file mid new (Left (old.reads file))
      on telling = record { run = run; moments = moments telling }

-- beside what a crash might have left before, a recovery leaves only the log found
pub as_found : (file : ℕ) (old new : DiskState) → old.leaves file (old.reads file) → LeavesOnly file old new (λ c. old.leaves file c ⊎ IsRecovered file (old.reads file) c) → LeavesOnly file old new (λ c. old.leaves file c ⊎ IsAsFound file (old.reads file) c)
as_found file old new one moments = weaker (λ c here. ⊎_elim (λ past. inl past) (λ now. left_or_found file (old.reads file) (old.leaves file) one c now) here) moments

-- the faults of a log

no_damage : (fault : LogFault) (at : ℕ) → start_fault fault ≡ start.Damaged at → fault ≡ log.Damaged at
no_damage (log.Damaged other) at is = cc is
no_damage log.StoreFault at is = absurd (cc is)
no_damage log.NoMemory at is = absurd (cc is)

never_spent : (fault : LogFault) → start_fault fault ≡ start.Spent → ⊥
never_spent (log.Damaged at) is = absurd (cc is)
never_spent log.StoreFault is = absurd (cc is)
never_spent log.NoMemory is = absurd (cc is)

no_store : (fault : LogFault) → start_fault fault ≡ start.StoreFault → fault ≡ log.StoreFault
no_store (log.Damaged at) is = absurd (cc is)
no_store log.StoreFault is = refl
no_store log.NoMemory is = absurd (cc is)

pub log_ok : {T : Type 0} (x : T) (fault : StartFault) → FailsAs (Ok x) fault → ⊥
log_ok x fault is = absurd (cc is.1)

pub log_err : {T U : Type 0} (why : LogFault) (first : Result T LogFault) (then : Result U LogFault) → first ≡ Err why → then ≡ Err why → (fault : StartFault) → FailsAs then fault → FailsAs first fault
log_err why first then was now fault is = (why, was, ap start_fault (same is.0 is.1) ∙ is.2)
  where
    same : (other : LogFault) → then ≡ Err other → why ≡ other
    same other is = cc (now, is)

module _ {file : ℕ} {Damage : List ℕ → ℕ → Type 0} {Used : List ℕ → Type 0} {T : Type 0} (old new : DiskState) (result : Result T LogFault) where
  pub why_log : ((at : ℕ) → IsErrOf result (log.Damaged at) → Tells old → Damage (old.reads file) at) → (IsErrOf result log.StoreFault → Rose old.faults new.faults) → FailsFor file Damage Used old new (FailsAs result)
  why_log damaged cause = record {
    damaged = λ at is. damaged at (is.1 ∙ ap Err (no_damage is.0 at is.2));
    spent = λ is. absurd (never_spent is.0 is.2);
    cause = λ is. cause (is.1 ∙ ap Err (no_store is.0 is.2));
  }

-- the start of a store returns what its log did
module _ {file : ℕ} {Damage : List ℕ → ℕ → Type 0} {Used : List ℕ → Type 0} {Left : List ℕ → List ℕ → Type 0} {old new : DiskState} {T U : Type 0} where
  pub opens_done : (x : T) (y : U) → OpensLog file Damage Used Left old new (FailsAs (Ok x)) → OpensLog file Damage Used Left old new (λ fault. IsErrOf (Ok y) fault)
  opens_done x y o = opens_for (λ fault is. absurd (cc is)) (λ is. absurd (log_ok x start.StoreFault is)) o

  pub opens_fault : (why : LogFault) (first : Result T LogFault) (then : Result U StartFault) → first ≡ Err why → then ≡ Err (start_fault why)
      → OpensLog file Damage Used Left old new (FailsAs first) → OpensLog file Damage Used Left old new (λ fault. IsErrOf then fault)
  opens_fault why first then was now o = opens_for (λ fault is. (why, was, cc (now, is))) (λ is. now ∙ ap Err (ap start_fault (same is.0 is.1) ∙ is.2)) o
    where
      same : (other : LogFault) → first ≡ Err other → why ≡ other
      same other is = cc (was, is)
