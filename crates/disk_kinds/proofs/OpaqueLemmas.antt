-- Calls on a disk of which a crash may leave any bytes.
use Rattle.std.proofs.Common.{◌≤◌, ℕ, refl, arith, inl}
use Rattle.hk_base.specs.Disk.{CallOn, Torn, Cut, Follows}
use Rattle.disk_kinds.specs.Opaque.{opaque}
use Rattle.disk_kinds.proofs.Puts.{torn_same, cut_same}

pub opaque_call : (file faults later : ℕ) → faults ≤ later → CallOn file (opaque faults) (opaque later)
opaque_call file faults later le = record {
  tells = refl;
  records = refl;
  faults = le;
  later = omega arith;
  nothing_else = λ t c in_time h. inl h;
  keeps = λ recorded t c in_time h. h;
  other_reads = λ telling. refl;
  other_leaves = λ c. (λ h. h, λ h. h);
}

pub opaque_torn : (at n : ℕ) → Follows (Torn at n) (λ c. Unit {0}) (λ c. Unit {0})
opaque_torn at n c any = (c, tt, torn_same at n c)

pub opaque_cut : (n : ℕ) → Follows (Cut n) (λ c. Unit {0}) (λ c. Unit {0})
opaque_cut n c any = (c, tt, cut_same n c)
