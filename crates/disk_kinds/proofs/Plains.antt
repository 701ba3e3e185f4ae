-- Calls that change no file, or one file, of a disk that records nothing.
use Rattle.std.proofs.Common.{◌≡◌, ◌≤◌, ◌-◌, ℕ, List, refl, sym, ◌∙◌, subst, arith, inl, inr}
use Rattle.hk_base.specs.Disk.{CallOn}
use Rattle.disk_kinds.specs.Plain.{plain_state}

pub plain_call : (file : ℕ) (old new : ℕ → List ℕ) (faults later : ℕ) → faults ≤ later → new ≡ old → CallOn file (plain_state old faults) (plain_state new later)
plain_call file old new faults later le same =
    subst (λ (h : ℕ → List ℕ). CallOn file (plain_state old faults) (plain_state h later)) (sym same) (record {
      tells = refl;
      records = refl;
      faults = le;
      later = omega arith;
      nothing_else = λ t c in_time h. inl h;
      keeps = λ recorded t c in_time h. h;
      other_reads = λ telling. refl;
      other_leaves = λ c. (λ h. h, λ h. h);
    })

pub one_changed : (file : ℕ) (old new : ℕ → List ℕ) (faults later : ℕ) → faults ≤ later → new (1 - file) ≡ old (1 - file) → CallOn file (plain_state old faults) (plain_state new later)
one_changed file old new faults later le other = record {
  tells = refl;
  records = refl;
  faults = le;
  later = omega arith;
  nothing_else = λ t c in_time h. inr h;
  keeps = λ recorded t c in_time h. absurd cc;
  other_reads = λ telling. other;
  other_leaves = λ c. (λ h. h ∙ other, λ h. h ∙ sym other);
}
