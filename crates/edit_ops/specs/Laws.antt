-- Properties of the records of the edit log.
use Rattle.std.specs.Prelude.{◌≡◌, ℕ, ◌≤◌, length, IsTrue}
use Rattle.edit_ops.specs.declared.ops.EditOp.{EditOp}
use Rattle.edit_ops.specs.Records.{HasSpelling, fits, spelling}

abbrev pub OneSpelling : Type 0
OneSpelling = (a b : EditOp) → HasSpelling a → HasSpelling b → spelling a ≡ spelling b → a ≡ b

abbrev pub SpelledFits : Type 0
SpelledFits = (op : EditOp) → HasSpelling op → IsTrue (fits op)

-- the most bytes of a record
abbrev pub longest_record : ℕ
longest_record = 132024

-- no record is empty, and none is longer
abbrev pub RecordsAreShort : Type 0
RecordsAreShort = (op : EditOp) → HasSpelling op → (1 ≤ length (spelling op)) × (length (spelling op) ≤ longest_record)
