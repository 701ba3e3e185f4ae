-- Disks in memory that lie in a yard, or are taken and given back.
use Rattle.std.proofs.Common.{◌≡◌, sym, List, ℕ, inl, inr, refl, ap, subst, Option, None, Result, Ok, Err, IfOk, OnOk}
use Rattle.hk_base.specs.Disk.{Only}
use Rattle.server_parts.specs.Yards.{YardState, Taken, OnlyFaults}
use Rattle.disk_kinds.specs.declared.mem_disk.MemDisk.{MemDisk}
use Rattle.disk_kinds.specs.Past.{fresh_file, MayLeave, reads_of, leaves_of, plan_of, state_of}
use Rattle.door_kinds.specs.Yards.{known_yard, lying}

-- a crash leaves exactly the content of a file that is synced
pub fresh_leaves : (bytes : List ℕ) → Only bytes (MayLeave (fresh_file bytes))
fresh_leaves bytes c (inl same) = same
fresh_leaves bytes c (inr same) = same

pub only_faults : (first second first' second' : Option MemDisk) (n n' later : ℕ)
    → known_yard first' second' n' ≡ known_yard first second n
    → OnlyFaults (known_yard first second n) (known_yard first' second' later)
only_faults first second first' second' n n' later same = record {
  tells = refl;
  lies = λ f. ap (λ (y : YardState). y.lies f) same;
  reads = λ telling f lt. ap (λ (y : YardState). y.reads f) same;
}

pub second_taken : {E : Type 0} (file faults : ℕ) (first second second' : Option MemDisk) (result : Result MemDisk E)
    → 1 ≡ file
    → OnOk result (second' ≡ None)
    → IfOk result (λ own. reads_of own 1 ≡ lying 1 second)
    → IfOk result (λ own. Only (lying 1 second) (leaves_of own 1))
    → IfOk result (λ own. (plan_of own).faults ≡ 0)
    → IfOk result (λ own. Taken file (known_yard first second faults) (known_yard first second' faults) (state_of own))
second_taken file faults first second second' (Err e) is gone reads leaves own = tt
second_taken file faults first second second' (Ok own) is gone reads leaves none =
    subst (λ f. Taken f (known_yard first second faults) (known_yard first second' faults) (state_of own)) is
    (subst (λ (d : Option MemDisk). Taken 1 (known_yard first second faults) (known_yard first d faults) (state_of own)) (sym gone) (record {
      tells = refl;
      gone = refl;
      other_lies = refl;
      other_reads = λ telling. refl;
      faults = refl;
      own_tells = refl;
      own_reads = λ telling. reads;
      own_leaves = λ telling. leaves;
      own_faults = none;
    }))
