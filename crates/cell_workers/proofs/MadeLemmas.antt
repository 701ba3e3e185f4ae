-- What the entries of several calls come to.
use Rattle.std.specs.Prelude.{◌≡◌, ◌<◌, ◌+◌, ℕ, true, List, [], ◌∷◌, ◌++◌, length, take, Result, Ok, Err, IfOk, OnOk, is_err}
use Rattle.std.proofs.lemmas.List.{take_more}
use Rattle.std.proofs.Common.{get_or, ap, ◌∙◌}
use Rattle.hk_base.specs.Disk.{DiskState}
use Rattle.hist_cell.specs.History.{LegalOf}
use Rattle.name_history.specs.Asked.{NameAllows}
use Rattle.name_history.specs.Entries.{Makes, NameEntry, NameKnown}
use Rattle.name_history.specs.Steps.{NameSteps}
use Rattle.name_history.specs.Views.{NameView}
use Rattle.name_history.specs.declared.acts.NameAct.{NameAct}
use Rattle.name_history.specs.declared.acts.NameActed.{NameActed}
use Rattle.turns.specs.Entries.{NamesMake}
use Rattle.turns.proofs.EntryLemmas.{made_after, made_none, made_one}

pub if_ok : {T E : Type 0} (P Q : T → Type 0) (result : Result T E) → ((x : T) → P x → Q x) → IfOk result P → IfOk result Q
if_ok P Q (Ok x) f p = f x p
if_ok P Q (Err e) f p = tt

pub if_err : {T E : Type 0} (P : T → Type 0) (result : Result T E) → is_err result ≡ true → IfOk result P
if_err P (Ok x) e = absurd cc
if_err P (Err x) e = tt

pub on_err : {T E : Type 0} (P : Type 0) (result : Result T E) → is_err result ≡ true → OnOk result P
on_err P (Ok x) e = absurd cc
on_err P (Err x) e = tt

pub on_ok : {T E : Type 0} (P Q : Type 0) (result : Result T E) → (P → Q) → OnOk result P → OnOk result Q
on_ok P Q (Ok x) f p = f p
on_ok P Q (Err e) f p = tt

pub taken_more : {A : Type 0} (xs : List A) (i : ℕ) (x : A) → i < length xs → get_or xs i x ≡ x → take (i + 1) xs ≡ take i xs ++ x ∷ []
taken_more xs i x within at = take_more xs i x within ∙ ap (λ y. take i xs ++ y ∷ []) at

module _ {D W : Type 0} (state : D → DiskState) (to_come : W → ℕ → ℕ) where
  -- what a pass has seen is a legal history
  abbrev pub NamesLegal : NameKnown D W → Type 0
  NamesLegal v = LegalOf (NameSteps {D = D} {W = W} state to_come) (NameAllows {S = NameView D W}) v.start v.seen

  pub names_none : (v : NameKnown D W) → NamesLegal v → NamesMake state to_come v [] v
  names_none v legal = made_none (NameSteps {D = D} {W = W} state to_come) (NameAllows {S = NameView D W}) v legal

  pub names_one : (v w : NameKnown D W) (q : NameAct) (r : NameActed) → (a : Makes state to_come v q r w) → NamesMake state to_come v (a.entry ∷ []) w
  names_one v w q r a = made_one (NameSteps {D = D} {W = W} state to_come) (NameAllows {S = NameView D W}) v w q r a

  pub names_then : (v w x : NameKnown D W) (made more : List (NameEntry D W)) → NamesMake state to_come v made w → NamesMake state to_come w more x → NamesMake state to_come v (made ++ more) x
  names_then v w x made more m n = made_after (NameSteps {D = D} {W = W} state to_come) (NameAllows {S = NameView D W}) v w x made more m n
