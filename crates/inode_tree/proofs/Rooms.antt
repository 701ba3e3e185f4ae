-- The room that is kept for one more row.
use Rattle.std.proofs.Common.{◌≡◌, ℕ, ◌+◌, ◌<◌, ◌≤◌, suc, Bool, true, false, cond, ◌&&◌, List, length, refl, arith}
use Rattle.std.specs.Prelude.{nat_lt, Result, Ok, Err, OnOk}
use Rattle.std.proofs.lemmas.Bool.{ltb-true, lt-ltb}
use Rattle.name_calls.specs.Paths.{last_name}
use Rattle.inode_tree.specs.Rows.{need}

-- enough is spare if there is room
pub enough : (a b d e n : ℕ) (p : List (List ℕ)) → n ≡ length (last_name p) → (0 < a) × (0 < b) × (0 < d) × (n ≤ e) → need p ≤ cond (nat_lt 0 a && nat_lt 0 b && nat_lt 0 d) (suc e) 0
enough a b d e n p en h = rw (lt-ltb 0 a h.0, lt-ltb 0 b h.1, lt-ltb 0 d h.2) (let k = h.3 in omega arith)

-- and there is room if enough is spare
pub room-parts : (a b d e : ℕ) (p : List (List ℕ)) → need p ≤ cond (nat_lt 0 a && nat_lt 0 b && nat_lt 0 d) (suc e) 0 → (0 < a) × (0 < b) × (0 < d) × (length (last_name p) ≤ e)
room-parts a b d e p h = go (nat_lt 0 a) refl (nat_lt 0 b) refl (nat_lt 0 d) refl h
  where
    go : (s : Bool) → nat_lt 0 a ≡ s → (t : Bool) → nat_lt 0 b ≡ t → (u : Bool) → nat_lt 0 d ≡ u → length (last_name p) + 1 ≤ cond (s && t && u) (suc e) 0 → (0 < a) × (0 < b) × (0 < d) × (length (last_name p) ≤ e)
    go true f true g true i k = (ltb-true 0 a f, ltb-true 0 b g, ltb-true 0 d i, omega arith)
    go true f true g false i k = absurd (omega arith)
    go true f false g u i k = absurd (omega arith)
    go false f t g u i k = absurd (omega arith)

pub on-ok : {T E P Q : Type 0} (r : Result T E) → (P → Q) → OnOk r P → OnOk r Q
on-ok (Ok v) f h = f h
on-ok (Err e) f h = tt
