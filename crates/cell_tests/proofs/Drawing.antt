-- What a call, or another pass, adds to the numbers that were issued.
use Rattle.std.proofs.Common.{◌≡◌, ℕ, List, [], ◌∷◌, ◌++◌, Option, Some, None, IfSome, sym, ◌∙◌, subst, inl, inr}
use Rattle.hist_cell.specs.declared.views.Entry.{Entry}
use Rattle.hist_cell.specs.declared.views.Known.{Known}
use Rattle.hist_cell.specs.History.{MakesEntry, Meets}
use Rattle.cell_tests.specs.declared.issuer.Issuer.{Issuer}
use Rattle.cell_tests.specs.declared.issuer.IssuerCall.{IssuerCall}
use Rattle.cell_tests.specs.declared.issuer.IssuerCall.TheVariants.{Issue, Redeem}
use Rattle.cell_tests.specs.Issuing.{IssuerSteps, Allows, Issued, Allows-grows}

issued_end : (n : ℕ) (es : List (Entry IssuerCall (Option ℕ) Issuer)) (e : Entry IssuerCall (Option ℕ) Issuer) → e.call ≡ Issue → e.reply ≡ Some n → Issued n (es ++ e ∷ [])
issued_end n [] e c r = inl (c, r)
issued_end n (x ∷ es) e c r = inr (issued_end n es e c r)

pub issues : (v w : Known IssuerCall (Option ℕ) Issuer) (n : ℕ) (r : Option ℕ) → r ≡ Some n → MakesEntry IssuerSteps Allows v Issue r w → Issued n w.seen
issues v w n r is a = subst (Issued n) (sym a.seen) (issued_end n (v.seen ++ a.between) a.entry a.call_is (a.reply_is ∙ is))

pub met : (v w into : Known IssuerCall (Option ℕ) Issuer) (number : Option ℕ) (n : ℕ) → number ≡ Some n → Meets v w into → IfSome number (λ k. Issued k w.seen) → Issued n into.seen
met v w into None n is m i = absurd (cc is)
met v w into (Some k) n is m i = (let same : k ≡ n = cc is in subst (λ j. Issued j into.seen) same (Allows-grows w.seen into.seen (Redeem k) m.that i))
