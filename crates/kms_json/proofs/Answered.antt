-- A body has one answer.
use Rattle.std.proofs.Common.{◌≡◌, ℕ, List, Some, Result, Ok, Err, refl, ap, sym, ◌∙◌}
use Rattle.serde_json.specs.Data.{Data}
use Rattle.kms_json.specs.declared.faults.JsonFault.{JsonFault}
use Rattle.kms_json.specs.declared.faults.JsonFault.TheVariants as fault
use Rattle.kms_json.specs.Bodies.{IsBody, IsReadingOf}

unsome : {d e : Data} → Some d ≡ Some e → d ≡ e
unsome same = cc

-- a body has at most one value
one_value : (body : List ℕ) (d e : Data) → IsBody body d → IsBody body e → d ≡ e
one_value body d e first second = unsome (sym first.1 ∙ second.1)

-- what a value of the body gives
abbrev Gives : {A : Type 0} → (Data → Result A JsonFault) → List ℕ → Result A JsonFault → Type 0
Gives reading body r = (d : Data) × (IsBody body d × (reading d ≡ r))

both_give : {A : Type 0} (reading : Data → Result A JsonFault) (body : List ℕ) (a b : Result A JsonFault) → Gives reading body a → Gives reading body b → a ≡ b
both_give reading body a b x y = sym x.1.1 ∙ ap reading (one_value body x.0 y.0 x.1.0 y.1.0) ∙ y.1.1

no_json_gives : {A : Type 0} (reading : Data → Result A JsonFault) (body : List ℕ) (b : Result A JsonFault) → IsReadingOf {A = A} reading body (Err fault.NotJson) → Gives reading body b → Err fault.NotJson ≡ b
no_json_gives reading body b x y = sym (x y.0 y.1.0) ∙ y.1.1

-- a value of the body gives the answer, or it is NotJson, or memory ran out
against_given : {A : Type 0} (reading : Data → Result A JsonFault) (body : List ℕ) (a b : Result A JsonFault)
    → Gives reading body a → IsReadingOf reading body b → ¬ (b ≡ Err fault.NoMemory) → a ≡ b
against_given reading body a (Ok y) x s other = both_give reading body a (Ok y) x s
against_given reading body a (Err fault.NotJson) x s other = sym (no_json_gives reading body a s x)
against_given reading body a (Err (fault.Missing m)) x s other = both_give reading body a (Err (fault.Missing m)) x s
against_given reading body a (Err (fault.BadBase64 m)) x s other = both_give reading body a (Err (fault.BadBase64 m)) x s
against_given reading body a (Err (fault.BadValue m)) x s other = both_give reading body a (Err (fault.BadValue m)) x s
against_given reading body a (Err fault.NoMemory) x s other = absurd (other refl)

against_no_json : {A : Type 0} (reading : Data → Result A JsonFault) (body : List ℕ) (b : Result A JsonFault)
    → IsReadingOf {A = A} reading body (Err fault.NotJson) → IsReadingOf reading body b → ¬ (b ≡ Err fault.NoMemory) → Err fault.NotJson ≡ b
against_no_json reading body (Ok y) x s other = no_json_gives reading body (Ok y) x s
against_no_json reading body (Err fault.NotJson) x s other = refl
against_no_json reading body (Err (fault.Missing m)) x s other = no_json_gives reading body (Err (fault.Missing m)) x s
against_no_json reading body (Err (fault.BadBase64 m)) x s other = no_json_gives reading body (Err (fault.BadBase64 m)) x s
against_no_json reading body (Err (fault.BadValue m)) x s other = no_json_gives reading body (Err (fault.BadValue m)) x s
against_no_json reading body (Err fault.NoMemory) x s other = absurd (other refl)

pub one_answer : {A : Type 0} (reading : Data → Result A JsonFault) (body : List ℕ) (a b : Result A JsonFault)
    → IsReadingOf reading body a → IsReadingOf reading body b → ¬ (a ≡ Err fault.NoMemory) → ¬ (b ≡ Err fault.NoMemory) → a ≡ b
one_answer reading body (Ok x) b r s kept other = against_given reading body (Ok x) b r s other
one_answer reading body (Err fault.NotJson) b r s kept other = against_no_json reading body b r s other
one_answer reading body (Err (fault.Missing m)) b r s kept other = against_given reading body (Err (fault.Missing m)) b r s other
one_answer reading body (Err (fault.BadBase64 m)) b r s kept other = against_given reading body (Err (fault.BadBase64 m)) b r s other
one_answer reading body (Err (fault.BadValue m)) b r s kept other = against_given reading body (Err (fault.BadValue m)) b r s other
one_answer reading body (Err fault.NoMemory) b r s kept other = absurd (kept refl)
