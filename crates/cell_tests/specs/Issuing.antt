-- A service that issues numbers, and which numbers a history has issued.
use Rattle.std.specs.Prelude.{ℕ, ◌≡◌, ◌<◌, ◌≤◌, ◌+◌, ◌-◌, ◌⊎◌, List, [], ◌∷◌, ◌++◌, Option, Some, None, ⊤}
use Rattle.std.proofs.Common.{subst, inl, inr, arith}
use mathlib.Core.List.{IsPrefix}
use Rattle.hist_cell.specs.declared.views.Entry.{Entry}
use Rattle.hist_cell.specs.History.{Legal, LegalAfter, state_after}
use Rattle.cell_tests.specs.declared.issuer.Issuer.{Issuer}
use Rattle.cell_tests.specs.declared.issuer.IssuerCall.{IssuerCall}
use Rattle.cell_tests.specs.declared.issuer.IssuerCall.TheVariants.{Issue, Redeem}

abbrev pub IssuerSteps : Issuer → IssuerCall → Option ℕ → Issuer → Type 0
IssuerSteps s Issue r t = ((r ≡ Some s.next) × (t.next ≡ s.next + 1)) ⊎ ((r ≡ None) × (t.next ≡ s.next))
IssuerSteps s (Redeem n) r t = (r ≡ Some (s.next - 1 - n)) × (t.next ≡ s.next)

abbrev pub Issued : ℕ → List (Entry IssuerCall (Option ℕ) Issuer) → Type 0
Issued n [] = ⊥
Issued n (e ∷ es) = ((e.call ≡ Issue) × (e.reply ≡ Some n)) ⊎ Issued n es

abbrev pub Allows : List (Entry IssuerCall (Option ℕ) Issuer) → IssuerCall → Type 0
Allows es Issue = ⊤
Allows es (Redeem n) = Issued n es

abbrev pub Can : Issuer → IssuerCall → Type 0
Can s Issue = ⊤
Can s (Redeem n) = n < s.next

issued_more : (n : ℕ) (es more : List (Entry IssuerCall (Option ℕ) Issuer)) → Issued n es → Issued n (es ++ more)
issued_more n [] more i = absurd i
issued_more n (e ∷ es) more i = elim i [
  | inl h ↦ inl h
  | inr h ↦ inr (issued_more n es more h)
]

pub Allows-grows : (es fs : List (Entry IssuerCall (Option ℕ) Issuer)) (q : IssuerCall) → IsPrefix es fs → Allows es q → Allows fs q
Allows-grows es fs Issue p a = tt
Allows-grows es fs (Redeem n) p a = subst (Issued n) p.1 (issued_more n es p.0 a)

step_up : (s : Issuer) (q : IssuerCall) (r : Option ℕ) (t : Issuer) → IssuerSteps s q r t → s.next ≤ t.next
step_up s Issue r t h = elim h [
  | inl g ↦ (let e : t.next ≡ s.next + 1 = g.1 in omega (arith, e))
  | inr g ↦ (let e : t.next ≡ s.next = g.1 in omega (arith, e))
]
step_up s (Redeem n) r t h = (let e : t.next ≡ s.next = h.1 in omega (arith, e))

after_up : (before : List (Entry IssuerCall (Option ℕ) Issuer)) (s : Issuer) (es : List (Entry IssuerCall (Option ℕ) Issuer)) → LegalAfter IssuerSteps Allows before s es → s.next ≤ (state_after s es).next
after_up before s [] l = omega arith
after_up before s (e ∷ es) l =
    let a : s.next ≤ e.after.next = step_up s e.call e.reply e.after l.1 in
    let b : e.after.next ≤ (state_after e.after es).next = after_up (before ++ e ∷ []) e.after es l.2 in
    omega (arith, a, b)

issue_up : (s : Issuer) (r : Option ℕ) (t : Issuer) (n : ℕ) → IssuerSteps s Issue r t → r ≡ Some n → n < t.next
issue_up s r t n h is = elim h [
  | inl g ↦ (let same : s.next ≡ n = cc (g.0, is) in let e : t.next ≡ s.next + 1 = g.1 in omega (arith, same, e))
  | inr g ↦ absurd (cc (g.0, is))
]

after_issued : (before : List (Entry IssuerCall (Option ℕ) Issuer)) (s : Issuer) (es : List (Entry IssuerCall (Option ℕ) Issuer)) (n : ℕ) → LegalAfter IssuerSteps Allows before s es → Issued n es → n < (state_after s es).next
after_issued before s [] n l i = absurd i
after_issued before s (e ∷ es) n l i = elim i [
  | inl h ↦
      let a : n < e.after.next = issue_up s e.reply e.after n (subst (λ q. IssuerSteps s q e.reply e.after) h.0 l.1) h.1 in
      let b : e.after.next ≤ (state_after e.after es).next = after_up (before ++ e ∷ []) e.after es l.2 in
      omega (arith, a, b)
  | inr h ↦ after_issued (before ++ e ∷ []) e.after es n l.2 h
]

pub Allows-fits : (s : Issuer) (es : List (Entry IssuerCall (Option ℕ) Issuer)) (q : IssuerCall) → ⊤ → Legal IssuerSteps Allows s es → Allows es q → Can (state_after s es) q
Allows-fits s es Issue sound l a = tt
Allows-fits s es (Redeem n) sound l a = after_issued [] s es n l a
