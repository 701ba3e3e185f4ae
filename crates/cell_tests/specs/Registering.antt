-- A service that registers numbers, and keeps a pass of the cell that issues them.
use Rattle.std.specs.Prelude.{ℕ, ◌≡◌, ◌⊎◌, ◌+◌, ◌%◌, ◌^◌, List, [], ◌∷◌, Option, length, ⊤}
use Rattle.std.proofs.Common.{sym, ap, ◌∙◌, subst}
use mathlib.Core.List.{IsPrefix}
use Rattle.hist_cell.specs.declared.views.Entry.{Entry}
use Rattle.hist_cell.specs.declared.views.Known.{Known}
use Rattle.hist_cell.specs.History.{Meets}
use Rattle.cell_tests.specs.declared.issuer.Issuer.{Issuer}
use Rattle.cell_tests.specs.declared.issuer.IssuerCall.{IssuerCall}
use Rattle.cell_tests.specs.declared.issuer.IssuerCall.TheVariants.{Redeem}
use Rattle.cell_tests.specs.declared.registry.RegistryCall.{RegistryCall}
use Rattle.cell_tests.specs.declared.registry.RegistryCall.TheVariants.{Count, Register}
use Rattle.cell_tests.specs.Issuing.{Issued, Allows-grows}

-- what a pass of the issuer knows
abbrev pub IssuerKnown : Type 0
IssuerKnown = Known IssuerCall (Option ℕ) Issuer

-- what the kept pass knows, and how many numbers are registered
pub record RegistryView : Type 0 where
  pub issued : IssuerKnown
  pub count : ℕ

-- One entry. After a number was registered, the kept pass has seen that it was issued, and all that it had seen before. The reply counts
-- the entries that it has then seen.
abbrev pub Registers : RegistryView → RegistryCall → ℕ → RegistryView → Type 0
Registers v Count r v' = (r ≡ v.count) × (v' ≡ v)
Registers v (Register n) r v' =
    IsPrefix v.issued.seen v'.issued.seen × Issued n v'.issued.seen × (r ≡ length v'.issued.seen) × (v'.count ≡ (v.count + 1) % 2 ^ 64)

-- what the service does by itself: the kept pass stays as it is
abbrev pub RegistersKept : RegistryView → RegistryCall → ℕ → RegistryView → Type 0
RegistersKept v Count r v' = (r ≡ v.count) × (v' ≡ v)
RegistersKept v (Register n) r v' = (v'.issued ≡ v.issued) × (r ≡ length v.issued.seen) × (v'.count ≡ (v.count + 1) % 2 ^ 64)

-- only the count needs no pass of the issuer
abbrev pub IsCallAlone : RegistryCall → Type 0
IsCallAlone Count = ⊤
IsCallAlone (Register n) = ⊥

-- a number is registered by a pass that has seen that it was issued
abbrev pub NeedsPass : RegistryCall → IssuerKnown → Type 0
NeedsPass Count w = ⊥
NeedsPass (Register n) w = Issued n w.seen

-- a pass was met into the kept one
abbrev pub MeetsPass : RegistryView → IssuerKnown → RegistryView → Type 0
MeetsPass v w v' = Meets v.issued w v'.issued × (v'.count ≡ v.count)

pub alone_registers : (v v' : RegistryView) (q : RegistryCall) (r : ℕ) → IsCallAlone q → RegistersKept v q r v' → Registers v q r v'
alone_registers v v' Count r alone h = h
alone_registers v v' (Register n) r alone h = absurd alone

pub meeting_registers : (v m v' : RegistryView) (w : IssuerKnown) (q : RegistryCall) (r : ℕ) → NeedsPass q w → MeetsPass v w m → RegistersKept m q r v' → Registers v q r v'
meeting_registers v m v' w Count r need took h = absurd need
meeting_registers v m v' w (Register n) r need took h = (
  subst (λ (k : IssuerKnown). IsPrefix v.issued.seen k.seen) (sym h.0) took.0.this,
  subst (λ (k : IssuerKnown). Issued n k.seen) (sym h.0) (Allows-grows w.seen m.issued.seen (Redeem n) took.0.that need),
  h.1 ∙ ap (λ (k : IssuerKnown). length k.seen) (sym h.0),
  h.2 ∙ ap (λ (k : ℕ). (k + 1) % 2 ^ 64) took.1,
)

-- an entry registered the number, and its state shows that the number was issued
abbrev pub HasRegistered : ℕ → List (Entry RegistryCall ℕ RegistryView) → Type 0
HasRegistered n [] = ⊥
HasRegistered n (e ∷ es) = ((e.call ≡ Register n) × Issued n e.after.issued.seen) ⊎ HasRegistered n es
