-- The table that the records of a key log make.
use Rattle.std.specs.Prelude.{◌≡◌, ℕ, ◌+◌, ◌-◌, ◌*◌, ◌^◌, ◌<◌, Bool, true, false, List, ◌∷◌, ◌++◌, map, Option, Some}
use Rattle.std.specs.List.{AllByRecursion}
use Rattle.key_rows.specs.Table.{Table, no_keys, applies, after}
use Rattle.key_rows.specs.Records.{HasSpelling, spelling}
use Rattle.key_rows.specs.declared.rows.KeyCommand.{KeyCommand}
use Rattle.log_kinds.specs.Kinds.{replay}
use Rattle.log_kinds.specs.Kinds as kinds
use Rattle.kms_store.specs.Kind.{key_kind}

-- the table after the commands, or None if one of them doesn't apply
abbrev pub key_replay : Table → List KeyCommand → Option Table
key_replay = replay key_kind

-- the record encodes a command that applies, and this is the table after it
pub record IsNext (t : Table) (payload : List ℕ) (u : Table) : Type 0 where
  pub command : KeyCommand
  pub spelled : HasSpelling command
  pub spells : payload ≡ spelling command
  pub may : applies t command ≡ true
  pub then_is : u ≡ after t command

-- the record encodes no command, or one that doesn't apply
abbrev pub IsNoNext : Table → List ℕ → Type 0
IsNoNext = kinds.IsNoNext key_kind

-- whether a record was taken: it is the next command, or is not one
abbrev pub IsTaken : Table → List ℕ → Table → Bool → Type 0
IsTaken t payload u true = IsNext t payload u
IsTaken t payload u false = IsNoNext t payload

abbrev pub place_of : ℕ × List ℕ → ℕ
place_of frame = frame.0

abbrev pub payload_of : ℕ × List ℕ → List ℕ
payload_of frame = frame.1

-- the payloads of these frames are commands that make this table
pub record IsReplayed (frames : List (ℕ × List ℕ)) (table : Table) : Type 0 where
  pub commands : List KeyCommand
  pub spelled : AllByRecursion HasSpelling commands
  pub are : map payload_of frames ≡ map spelling commands
  pub makes : key_replay no_keys commands ≡ Some table

-- the payload of a frame is not a command that applies after those before it; its gate is at this offset
pub record IsStuck (frames : List (ℕ × List ℕ)) (at : ℕ) : Type 0 where
  pub before : List (ℕ × List ℕ)
  pub frame : ℕ × List ℕ
  pub behind : List (ℕ × List ℕ)
  pub table : Table
  pub split : frames ≡ before ++ frame ∷ behind
  pub replayed : IsReplayed before table
  pub not_next : IsNoNext table (payload_of frame)
  pub place : at ≡ place_of frame - 5

-- no birth is of a later opening than the last one
abbrev pub HasRoomForBirths : Table → Type 0
HasRoomForBirths t = t.greatest < (t.opening + 1) * 2 ^ 32
