-- What holds of the value in an `Ok`.
use Rattle.std.proofs.Common.{◌≡◌, sym, subst}
use Rattle.std.specs.Prelude.{IfOk, Result, Ok, Err}

-- the value is this one
pub ok_same : {T E : Type 0} (P : T → Type 0) (r : Result T E) (x : T) → IfOk r (λ y. y ≡ x) → P x → IfOk r P
ok_same P (Ok y) x same holds = subst P (sym same) holds
ok_same P (Err e) x same holds = tt

-- it holds of any value
pub ok_any : {T E : Type 0} (P : Type 0) (r : Result T E) → P → IfOk r (λ y. P)
ok_any P (Ok y) holds = holds
ok_any P (Err e) holds = tt

-- it follows from what holds of the value
pub ok_then : {T E : Type 0} (P Q : T → Type 0) (r : Result T E) → ((y : T) → P y → Q y) → IfOk r P → IfOk r Q
ok_then P Q (Ok y) follows holds = follows y holds
ok_then P Q (Err e) follows holds = tt

-- and from two facts of it
pub ok_both : {T E : Type 0} (P P' Q : T → Type 0) (r : Result T E) → ((y : T) → P y → P' y → Q y) → IfOk r P → IfOk r P' → IfOk r Q
ok_both P P' Q (Ok y) follows holds holds' = follows y holds holds'
ok_both P P' Q (Err e) follows holds holds' = tt
