-- A disk that promises nothing about its files.
use Rattle.std.specs.Prelude.{ℕ, [], false}
use Rattle.hk_base.specs.Disk.{DiskState}

-- A proof knows the count of faults and nothing else: a crash may leave, and may have left, any bytes.
abbrev pub opaque : ℕ → DiskState
opaque faults = record {
  tells = false;
  records = false;
  reads = λ f. [];
  leaves = λ f c. Unit {0};
  moment = 0;
  left_since = λ t c. Unit {0};
  faults = faults;
}
