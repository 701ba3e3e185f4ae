-- Operations one after another.
use Rattle.std.proofs.Common.{◌≡◌, ℕ, Bool, true, false, List, [], ◌∷◌, ◌++◌, Some, None, sym, ◌∙◌, ap, subst}
use Rattle.std.specs.Prelude.{if◌then◌else◌}
use Rattle.std.specs.List.{AllByRecursion}
use Rattle.edit_ops.specs.declared.ops.EditOp.{EditOp}
use Rattle.edit_log.specs.Replay.{in_turn, then_last, openings}

pub each_more : {X : Type 0} (P : X → Type 0) (xs : List X) (x : X) → AllByRecursion P xs → P x → AllByRecursion P (xs ++ x ∷ [])
each_more P [] x each here = (here, tt)
each_more P (y ∷ ys) x each here = (each.0, each_more P ys x each.1 here)

-- an operation more, which is in turn
pub openings_more : (t u : ℕ) (ops : List EditOp) (op : EditOp) → openings t ops ≡ Some u → in_turn u op ≡ true → openings t (ops ++ op ∷ []) ≡ Some (then_last u op)
openings_more t u [] op is turn =
    let same : t ≡ u = cc is in
    let here : in_turn t op ≡ true = subst (λ (x : ℕ). in_turn x op ≡ true) (sym same) turn in
    ap (λ (b : Bool). if b then Some (then_last t op) else None) here ∙ ap (λ (x : ℕ). Some (then_last x op)) same
openings_more t u (first ∷ rest) op is turn =
    let P : Bool → Type 0 = λ b. (if b then openings (then_last t first) rest else None) ≡ Some u → (if b then openings (then_last t first) (rest ++ op ∷ []) else None) ≡ Some (then_last u op) in
    (elim (in_turn t first) as P [ true ↦ (λ e. openings_more (then_last t first) u rest op e turn) | false ↦ (λ e. absurd (cc e)) ]) is
