-- What a call that registers a number adds to the history of the registry.
use Rattle.std.proofs.Common.{◌≡◌, ℕ, List, [], ◌∷◌, ◌++◌, Option, Some, None, sym, subst, inl, inr}
use Rattle.hist_cell.specs.declared.views.Entry.{Entry}
use Rattle.hist_cell.specs.declared.views.Known.{Known}
use Rattle.hist_cell.specs.History.{LegalAfter, LegalOf, MakesEntry}
use Rattle.cell_tests.specs.declared.registry.RegistryCall.{RegistryCall}
use Rattle.cell_tests.specs.declared.registry.RegistryCall.TheVariants.{Register}
use Rattle.cell_tests.specs.Issuing.{Issued}
use Rattle.cell_tests.specs.Registering.{RegistryView, Registers, HasRegistered}

module _ (allows : List (Entry RegistryCall ℕ RegistryView) → RegistryCall → Type 0) where
  last_after : (before : List (Entry RegistryCall ℕ RegistryView)) (s : RegistryView) (es : List (Entry RegistryCall ℕ RegistryView)) (e : Entry RegistryCall ℕ RegistryView) → LegalAfter Registers allows before s (es ++ e ∷ [])
      → (t : RegistryView) × Registers t e.call e.reply e.after
  last_after before s [] e legal = (s, legal.1)
  last_after before s (x ∷ es) e legal = last_after (before ++ x ∷ []) x.after es e legal.2

  -- the last entry is a step from some state
  last_step : (start : Option RegistryView) (es : List (Entry RegistryCall ℕ RegistryView)) (e : Entry RegistryCall ℕ RegistryView) → LegalOf Registers allows start (es ++ e ∷ []) → (t : RegistryView) × Registers t e.call e.reply e.after
  last_step None es e legal = absurd legal
  last_step (Some s) es e legal = last_after [] s es e legal

  registered_last : (n : ℕ) (es : List (Entry RegistryCall ℕ RegistryView)) (e : Entry RegistryCall ℕ RegistryView) → e.call ≡ Register n → Issued n e.after.issued.seen → HasRegistered n (es ++ e ∷ [])
  registered_last n [] e is i = inl (is, i)
  registered_last n (x ∷ es) e is i = inr (registered_last n es e is i)

  pub registers : (v w : Known RegistryCall ℕ RegistryView) (n r : ℕ) → MakesEntry Registers allows v (Register n) r w → HasRegistered n w.seen
  registers v w n r a =
      let before = v.seen ++ a.between in
      let last = last_step w.start before a.entry (subst (LegalOf Registers allows w.start) a.seen a.legal) in
      let step : Registers last.0 (Register n) a.entry.reply a.entry.after = subst (λ (q : RegistryCall). Registers last.0 q a.entry.reply a.entry.after) a.call_is last.1 in
      subst (HasRegistered n) (sym a.seen) (registered_last n before a.entry a.call_is step.1)
