-- What a log of records stands for, whatever its records are: the operations that they spell, and the state that these make.
use Rattle.std.specs.Prelude.{◌≡◌, ◌⊎◌, ℕ, Bool, true, false, List, [], ◌∷◌, ◌++◌, map, Option, None, Some, IfSome, if◌then◌else◌}
use Rattle.std.specs.List.{AllByRecursion}
use Rattle.frame_log.specs.Format.{log_of, Found, NoLog, end_of, IsAtRest, IsBeforeOrAfter, IsRecovered}

-- A kind of log: in which file it is, what its records spell, and what they make.
pub record LogKind : Type 1 where
  pub file : ℕ
  pub Op : Type 0
  pub HasSpelling : Op → Type 0
  pub spelling : Op → List ℕ
  pub State : Type 0
  -- the state before the first operation
  pub empty : State
  -- whether an operation may follow those that made a state, and the state after it
  pub applies : State → Op → Bool
  pub after : State → Op → State
  -- the state once a pending operation was settled: kept or dropped
  pub settled : Bool → Option Op → State → State
  -- the operation that the next opening records
  pub next_opening : State → Op
  pub is_opening : Op → Bool

-- the state after the operations, or None if one of them doesn't apply
abbrev pub replay : (K : LogKind) → K.State → List K.Op → Option K.State
replay K s [] = Some s
replay K s (op ∷ ops) = if K.applies s op then replay K (K.after s op) ops else None

-- the record spells no operation, or one that doesn't apply
abbrev pub IsNoNext : (K : LogKind) → K.State → List ℕ → Type 0
IsNoNext K s payload = (op : K.Op) → K.HasSpelling op → payload ≡ K.spelling op → K.applies s op ≡ false

abbrev pub Applies : (K : LogKind) → K.State → Option K.Op → Type 0
Applies K s more = IfSome more (λ op. K.applies s op ≡ true)

-- the operations that a settling acknowledges, if the pending one is kept or dropped
abbrev pub settled_ops : (K : LogKind) → Bool → Option K.Op → List K.Op
settled_ops K kept None = []
settled_ops K true (Some op) = op ∷ []
settled_ops K false (Some op) = []

-- a log of these operations, with or without one more, both now and once its end gate byte is set to 1
abbrev pub IsWithOrWithout : (K : LogKind) → List K.Op → K.Op → List ℕ → Type 0
IsWithOrWithout K ops op bytes = IsBeforeOrAfter K.file (map K.spelling ops) (K.spelling op) bytes

-- the same for an operation that can be encoded
abbrev pub IsWritten : (K : LogKind) → List K.Op → K.Op → List ℕ → Type 0
IsWritten K ops op bytes = K.HasSpelling op × IsWithOrWithout K ops op bytes

-- what a crash may leave of a log: these operations, with or without one more, both now and once the end gate byte is set to 1
abbrev pub IsLogOf : (K : LogKind) → List K.Op → Option K.Op → List ℕ → Type 0
IsLogOf K ops None bytes = IsAtRest K.file (map K.spelling ops) bytes
IsLogOf K ops (Some op) bytes = IsWithOrWithout K ops op bytes

-- the file is a log of these operations, all of which apply, and they make this state
pub record IsLog (K : LogKind) (bytes : List ℕ) (ops : List K.Op) (made : K.State) : Type 0 where
  pub gate : ℕ
  pub spelled : AllByRecursion K.HasSpelling ops
  pub found : log_of K.file bytes ≡ Found (map K.spelling ops) gate
  pub makes : replay K K.empty ops ≡ Some made

-- The file is a log, and the record whose gate is at this offset is no operation that applies after those before it.
pub record IsNoLog (K : LogKind) (bytes : List ℕ) (at : ℕ) : Type 0 where
  pub ops : List K.Op
  pub payload : List ℕ
  pub payloads : List (List ℕ)
  pub gate : ℕ
  pub made : K.State
  pub spelled : AllByRecursion K.HasSpelling ops
  pub found : log_of K.file bytes ≡ Found (map K.spelling ops ++ payload ∷ payloads) gate
  pub makes : replay K K.empty ops ≡ Some made
  pub not_next : IsNoNext K made payload
  pub place : at ≡ end_of (map K.spelling ops)

-- why a start returns Damaged with this offset
pub data IsDamagedAt (K : LogKind) (bytes : List ℕ) (at : ℕ) : Type 0 where
  Not_a_log : log_of K.file bytes ≡ NoLog at → IsDamagedAt K bytes at
  Not_of_its_kind : IsNoLog K bytes at → IsDamagedAt K bytes at

-- what a start leaves of the file found, from its sync on: what recovery leaves, or the log with or
-- without the record of the new opening
pub data IsLeftByStart (K : LogKind) (found bytes : List ℕ) : Type 0 where
  Recovered : IsRecovered K.file found bytes → IsLeftByStart K found bytes
  Opening : (ops : List K.Op) (made : K.State) → IsLog K found ops made → IsWritten K ops (K.next_opening made) bytes → IsLeftByStart K found bytes

-- A log that a run may start from: its operations make a state, and it may have one more, which applies.
pub record IsSoundLog (K : LogKind) (bytes : List ℕ) (ops : List K.Op) (more : Option K.Op) (made : K.State) : Type 0 where
  pub spelled : AllByRecursion K.HasSpelling ops
  pub spelled_more : IfSome more K.HasSpelling
  pub makes : replay K K.empty ops ≡ Some made
  pub fits : Applies K made more
  pub log : IsLogOf K ops more bytes

-- What a crash may leave of the log of these operations, which make a state, while one is pending: the log with or without the
-- pending operation, and with or without one more, which applies. That one is the pending operation itself, or one of `own`,
-- which says what may be written after the settled log.
pub record IsLeftOf (K : LogKind) (made : K.State) (pending : Option K.Op) (own : Bool → K.Op → Type 0) (ops : List K.Op) (bytes : List ℕ) : Type 0 where
  pub kept : Bool
  pub more : Option K.Op
  pub more_is : IfSome more (λ op. ((kept ≡ false) × (pending ≡ Some op)) ⊎ own kept op)
  pub fits : Applies K (K.settled kept pending made) more
  pub spelled : IfSome more K.HasSpelling
  pub log : IsLogOf K (ops ++ settled_ops K kept pending) more bytes

-- what may be written: nothing, or the record of an opening

abbrev pub Nothing : (K : LogKind) → Bool → K.Op → Type 0
Nothing K kept op = ⊥

abbrev pub AnOpening : (K : LogKind) → Bool → K.Op → Type 0
AnOpening K kept op = K.is_opening op ≡ true
