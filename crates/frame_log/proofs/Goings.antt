-- What a run of calls leaves of a file.
use Rattle.std.proofs.Common.{ℕ, ◌<◌, ◌≤◌, List, ⊎_elim, arith}
use Rattle.hk_base.specs.Disk.{DiskState, Image, IsImage, CallOn, RunOn, LeavesOnly}
use Rattle.hk_base.proofs.Runs.{Going}
use Rattle.frame_log.specs.Stands.{LeavesFrom}

-- the two clauses on a run as one fact
pub going : {file : ℕ} {old new : DiskState} {P : List ℕ → Type 0} → RunOn file old new → LeavesOnly file old new P → Going file old new P
going run moments = record { run = run; moments = moments }

-- a run continues from a moment at which a crash leaves only what satisfies P
pub since : (file : ℕ) (old mid new : DiskState) (P : List ℕ → Type 0) → file < 2 → old.moment ≤ mid.moment → ((c : Image) → mid.left_since mid.moment c → IsImage mid c) → ((bytes : List ℕ) → mid.leaves file bytes → P bytes) → Going file mid new P → LeavesFrom file old new P
since file old mid new P file_in begun only_now here run = record {
  moment = mid.moment;
  begun = begun;
  reached = run.run.later;
  only = λ c left. ⊎_elim (λ past. here (c file) (only_now c past file file_in)) (λ now. now.0) (run.moments.before mid.moment c (omega arith) left);
}

-- a run of one call
pub one : {file : ℕ} {old new : DiskState} → CallOn file old new → RunOn file old new
one call = record {
  tells = call.tells;
  faults = call.faults;
  later = call.later;
  other_reads = call.other_reads;
  other_leaves = call.other_leaves;
}
