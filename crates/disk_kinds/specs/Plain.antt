-- A disk in memory that records nothing.
use Rattle.std.specs.Prelude.{◌≡◌, ◌≤◌, ◌<◌, ◌^◌, ℕ, zero, suc, List, length, true, false}
use Rattle.hk_base.specs.Disk.{DiskState}
use Rattle.disk_kinds.specs.declared.plain_disk.PlainDisk.{PlainDisk}

abbrev pub contents : PlainDisk → ℕ → List ℕ
contents d zero = d.first.items
contents d (suc f) = d.second.items

abbrev pub faults_of : PlainDisk → ℕ
faults_of d = d.faults

-- each call takes effect at once, and no earlier moment is recorded
abbrev pub plain_state : (ℕ → List ℕ) → ℕ → DiskState
plain_state files faults = record {
  tells = true;
  records = false;
  reads = files;
  leaves = λ f c. c ≡ files f;
  moment = 0;
  left_since = λ t c. (f : ℕ) → f < 2 → c f ≡ files f;
  faults = faults;
}

-- the view of the disk in the clauses of `Disk`
abbrev pub state_of : PlainDisk → DiskState
state_of d = plain_state (contents d) (faults_of d)

pub within : (d : PlainDisk) (f : ℕ) → f < 2 → length (contents d f) ≤ 2 ^ 62
within d zero lt = d.first_limit
within d (suc f) lt = d.second_limit
