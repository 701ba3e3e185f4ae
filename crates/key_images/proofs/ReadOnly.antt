-- Runs of reads of file 0.
use Rattle.std.proofs.Common.{ℕ, sym, subst, refl, arith}
use Rattle.std.specs.Prelude.{IsTrue}
use Rattle.hk_base.specs.Disk.{DiskState, LeavesOnly, Reads, RunOn, Tells}
use Rattle.hk_base.specs.Faults.{Rose}
use Rattle.hk_base.proofs.Runs.{Going, begin, both_read, compose}

pub record OnlyReads (old new : DiskState) : Type 0 where
  pub same : Reads 0 old new
  pub going : Going 0 old new (old.leaves 0)

pub reads-none : (d : DiskState) → OnlyReads d d
reads-none d = record { same = record { reads = λ telling. refl; leaves = λ c h. h }; going = begin 0 d (d.leaves 0) }

pub reads-then : {old mid new : DiskState} → OnlyReads old mid → Reads 0 mid new → RunOn 0 mid new → LeavesOnly 0 mid new (mid.leaves 0) → OnlyReads old new
reads-then {old} {mid} {new} a same run moments = record {
  same = both_read a.going a.same same;
  going = compose a.going (record { run = run; moments = moments }) a.same.leaves;
}

pub still_tells : {old mid : DiskState} → OnlyReads old mid → Tells old → Tells mid
still_tells a telling = subst (λ b. IsTrue b) (sym a.going.run.tells) telling

pub told_before : {old mid : DiskState} → OnlyReads old mid → Tells mid → Tells old
told_before a telling = subst (λ b. IsTrue b) a.going.run.tells telling

pub rose_before : {old mid : DiskState} (now : ℕ) → OnlyReads old mid → Rose mid.faults now → Rose old.faults now
rose_before now a rose = omega (arith, a.going.run.faults, rose)
