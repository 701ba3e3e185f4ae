-- Runs of calls on one file, call by call.
use Rattle.std.specs.Prelude.{ℕ, ◌-◌, ◌<◌, List, refl, IsTrue}
use Rattle.std.proofs.Common.{inl, inr, ⊎_elim, ◌∙◌, arith, subst, sym}
use Rattle.hk_base.specs.Disk.{DiskState, CallOn, Reads, RunOn, LeavesOnly}

pub record Going (file : ℕ) (old new : DiskState) (P : List ℕ → Type 0) : Type 0 where
  pub run : RunOn file old new
  pub moments : LeavesOnly file old new P

-- before the first call
pub begin : (file : ℕ) (old : DiskState) (P : List ℕ → Type 0) → Going file old old P
begin file old P = record {
  run = record {
    tells = refl;
    faults = omega arith;
    later = omega arith;
    other_reads = λ telling. refl;
    other_leaves = λ c. (λ h. h, λ h. h);
  };
  moments = record { before = λ t c le left. inl left };
}

-- one more call, after which a crash leaves bytes of the file that satisfy P
pub then : {file : ℕ} {old mid new : DiskState} {P : List ℕ → Type 0} → Going file old mid P → CallOn file mid new → file < 2 → ((c : List ℕ) → new.leaves file c → P c) → Going file old new P
then {file} {old} {mid} {new} {P} so_far call file_in here = record {
  run = record {
    tells = call.tells ∙ so_far.run.tells;
    faults = omega (arith, call.faults, so_far.run.faults);
    later = omega (arith, call.later, so_far.run.later);
    other_reads = λ telling. call.other_reads (subst (λ b. IsTrue b) (sym so_far.run.tells) telling) ∙ so_far.run.other_reads telling;
    other_leaves = λ c. (λ h. (so_far.run.other_leaves c).0 ((call.other_leaves c).0 h), λ h. (call.other_leaves c).1 ((so_far.run.other_leaves c).1 h));
  };
  moments = record {
    before = λ t c le left. ⊎_elim (so_far.moments.before t c le) (λ image. inr (here (c file) (image file file_in), (so_far.run.other_leaves (c (1 - file))).0 ((call.other_leaves (c (1 - file))).0 (image (1 - file) (omega arith))))) (call.nothing_else t c (omega (arith, le, so_far.run.later)) left);
  };
}

pub weaker : {file : ℕ} {old new : DiskState} {P Q : List ℕ → Type 0} → ((c : List ℕ) → P c → Q c) → LeavesOnly file old new P → LeavesOnly file old new Q
weaker f moments = record {
  before = λ t c le left. ⊎_elim (λ past. inl past) (λ now. inr (f _ now.0, now.1)) (moments.before t c le left);
}

-- one more call of a run that only reads
pub read_on : {file : ℕ} {old mid new : DiskState} → Going file old mid (old.leaves file) → Reads file old mid → CallOn file mid new → Reads file mid new → file < 2 → Going file old new (old.leaves file)
read_on so_far same call same_too file_in = then so_far call file_in (λ c h. same.leaves c (same_too.leaves c h))

-- one run after another
pub compose : {file : ℕ} {old mid new : DiskState} {P Q : List ℕ → Type 0} → Going file old mid P → Going file mid new Q → ((c : List ℕ) → Q c → P c) → Going file old new P
compose {file} {old} {mid} {new} {P} {Q} a b weaker_than = record {
  run = record {
    tells = b.run.tells ∙ a.run.tells;
    faults = omega (arith, a.run.faults, b.run.faults);
    later = omega (arith, a.run.later, b.run.later);
    other_reads = λ telling. b.run.other_reads (subst (λ x. IsTrue x) (sym a.run.tells) telling) ∙ a.run.other_reads telling;
    other_leaves = λ c. (λ h. (a.run.other_leaves c).0 ((b.run.other_leaves c).0 h), λ h. (b.run.other_leaves c).1 ((a.run.other_leaves c).1 h));
  };
  moments = record {
    before = λ t c le left. ⊎_elim (a.moments.before t c le) (λ now. inr (weaker_than (c file) now.0, (a.run.other_leaves (c (1 - file))).0 now.1)) (b.moments.before t c (omega (arith, le, a.run.later)) left);
  };
}

-- reading changes nothing
pub both_read : {file : ℕ} {old mid new : DiskState} {P : List ℕ → Type 0} → Going file old mid P → Reads file old mid → Reads file mid new → Reads file old new
both_read so_far a b = record {
  reads = λ telling. b.reads (subst (λ x. IsTrue x) (sym so_far.run.tells) telling) ∙ a.reads telling;
  leaves = λ c h. a.leaves c (b.leaves c h);
}
