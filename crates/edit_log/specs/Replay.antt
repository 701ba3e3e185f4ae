-- The order of the records of an edit log.
use Rattle.std.specs.Prelude.{◌≡◌, ℕ, ◌+◌, Bool, true, false, ◌==◌, nat_lt, List, [], ◌∷◌, Option, Some, None, if◌then◌else◌}
use Rattle.edit_ops.specs.Records.{HasSpelling, spelling}
use Rattle.edit_ops.specs.declared.ops.EditOp.{EditOp}
use Rattle.edit_ops.specs.declared.ops.EditOp.TheVariants.{Opened}

-- whether an operation may follow this last opening: openings count from 1, and the others come after the first
abbrev pub in_turn : ℕ → EditOp → Bool
in_turn last (Opened opening) = opening == last + 1
in_turn last op = nat_lt 0 last

-- the last opening after an operation
abbrev pub then_last : ℕ → EditOp → ℕ
then_last last (Opened opening) = opening
then_last last op = last

-- the last opening after operations, or None if one of them is out of turn
abbrev pub openings : ℕ → List EditOp → Option ℕ
openings last [] = Some last
openings last (op ∷ ops) = if in_turn last op then openings (then_last last op) ops else None

-- the record spells this operation, which is in turn
pub record IsNext (last : ℕ) (payload : List ℕ) (op : EditOp) : Type 0 where
  pub spelled : HasSpelling op
  pub spells : payload ≡ spelling op
  pub turn : in_turn last op ≡ true

-- the record spells no operation, or one that is out of turn
abbrev pub IsNoNext : ℕ → List ℕ → Type 0
IsNoNext last payload = (op : EditOp) → HasSpelling op → payload ≡ spelling op → in_turn last op ≡ false

-- the operation taken from a record: the next one, or none
abbrev pub IsTaken : ℕ → List ℕ → Option EditOp → Type 0
IsTaken last payload None = IsNoNext last payload
IsTaken last payload (Some op) = IsNext last payload op
