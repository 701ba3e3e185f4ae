-- Connections of a server from when they are accepted until they are left.
use Rattle.std.specs.Prelude.{◌≡◌, ◌≤◌, ◌+◌, ℕ, List, [], ◌∷◌, ◌++◌, length, map, Option, ⊤}
use mathlib.Core.List.{IsPrefix}
use Rattle.hk_base.specs.Faults.{Rose}
use Rattle.hk_base.specs.declared.ended.Ended.{Ended}
use Rattle.hk_base.specs.declared.outside.Sink as sinks
use Rattle.hk_base.specs.declared.outside.Source as sources
use Rattle.hk_base.specs.declared.ended.Ended.TheVariants as ended
use Rattle.hist_cell.specs.declared.views.Known.{Known}
use Rattle.hist_cell.specs.History.{Distinct, IsIn, own}
use Rattle.kms_cell.specs.Entries.{KmsEntry, KmsKnown}
use Rattle.name_history.specs.Entries.{NameEntry, NameKnown}
use Rattle.server_parts.specs.Doors.{DoorState, LeftConnection, with_more}
use Rattle.cell_desk.specs.Connections.{ServedByCells}
use Rattle.cell_workers.specs.Work.{IsWork}

-- ---- one connection

-- what serves a connection: both ends before, the entries of each service, both ends after, and how it ended
abbrev pub Serving : Type 0 → Type 0 → Type 0 → Type 0 → Type 1
Serving I O D W = I → O → List (KmsEntry D W) → List (NameEntry D W) → I → O → Ended → Type 0

-- A connection was served by these entries. It ended with a fault of reading or writing only if that count of faults rose.
pub record ServesEnds {I O D W : Type 0} (left : I → Option (List ℕ)) (read_faults : I → ℕ) (written : O → Option (List ℕ)) (write_faults : O → ℕ)
    (input : I) (out : O) (keys : List (KmsEntry D W)) (names : List (NameEntry D W)) (input' : I) (out' : O) (how : Ended) : Type 0 where
  pub served : ServedByCells (left input) (written out) keys names (left input') (written out') how
  pub read_later : read_faults input ≤ read_faults input'
  pub read_fault : how ≡ ended.ReadFault → Rose (read_faults input) (read_faults input')
  pub write_later : write_faults out ≤ write_faults out'
  pub write_fault : how ≡ ended.WriteFault → Rose (write_faults out) (write_faults out')

-- the same at ends of these kinds
abbrev pub serving_by : {I O D W : Type 0} → sources.Ghosts I → sinks.Ghosts O → Serving I O D W
serving_by of_in of_out = ServesEnds of_in.left of_in.faults of_out.written of_out.faults

-- what a connection begins with: both ends, and a pass of each cell
pub record Start (I O D W : Type 0) : Type 0 where
  pub input : I
  pub out : O
  pub keys : KmsKnown D W
  pub names : NameKnown D W

-- a connection was served by the entries that its passes made, which met no others
pub record EndsServed {I O D W : Type 0} (serves : Serving I O D W) (start : Start I O D W) (input : I) (out : O) (keys : KmsKnown D W) (names : NameKnown D W) (how : Ended) : Type 0 where
  pub served : serves start.input start.out (own start.keys.number keys.seen) (own start.names.number names.seen) input out how
  pub keys_number : keys.number ≡ start.keys.number
  pub keys_ended : keys.ended ≡ start.keys.ended
  pub names_number : names.number ≡ start.names.number
  pub names_ended : names.ended ≡ start.names.ended

-- a connection that was left: the number of each of its passes, both ends as they came, and how it was left
pub record Visit (I O : Type 0) : Type 0 where
  pub keys : ℕ
  pub names : ℕ
  pub input : I
  pub out : O
  pub left : LeftConnection I O

module _ {I O : Type 0} where
  abbrev pub came_of : Visit I O → I × O
  came_of visit = (visit.input, visit.out)

  abbrev pub left_of : Visit I O → LeftConnection I O
  left_of visit = visit.left

  abbrev pub keys_of : Visit I O → ℕ
  keys_of visit = visit.keys

  abbrev pub names_of : Visit I O → ℕ
  names_of visit = visit.names

  -- at least n connections were accepted and are not left yet
  abbrev pub HasOut : DoorState I O → ℕ → Type 0
  HasOut door n = door.left + n ≤ door.accepted

-- ---- passes

-- w is the pass v after passes with these numbers were met into it. It made no entry itself. All numbers are new and different.
pub record HasMet {Q R S : Type 0} (v w : Known Q R S) (numbers : List ℕ) : Type 0 where
  pub number : w.number ≡ v.number
  pub start : w.start ≡ v.start
  pub ended : w.ended ≡ v.ended ++ numbers
  pub begins : IsPrefix v.seen w.seen
  pub same_own : (k : ℕ) → IsIn k (v.number ∷ v.ended) → own k w.seen ≡ own k v.seen
  pub new : (k : ℕ) → IsIn k numbers → ¬ IsIn k (v.number ∷ v.ended)
  pub different : Distinct numbers

-- ---- all connections

module _ {I O D W : Type 0} where
  abbrev pub ends_of : Start I O D W → I × O
  ends_of start = (start.input, start.out)

  -- no pass of these has made an entry or was met by another
  abbrev pub AllFresh : List (Start I O D W) → Type 0
  AllFresh [] = ⊤
  AllFresh (start ∷ more) =
      ((own start.keys.number start.keys.seen ≡ []) × (start.keys.ended ≡ []) × (own start.names.number start.names.seen ≡ []) × (start.names.ended ≡ [])) × AllFresh more

module _ {I O D W : Type 0} (serves : Serving I O D W) where
  -- each connection was served by the entries of its numbers, and no others
  abbrev pub AllServed : List (KmsEntry D W) → List (NameEntry D W) → List (Visit I O) → Type 0
  AllServed keys names [] = ⊤
  AllServed keys names (visit ∷ more) =
      serves visit.input visit.out (own visit.keys keys) (own visit.names names) visit.left.input visit.left.out visit.left.ended × AllServed keys names more

  -- Connections came and were left in the order in which they came, except for those that still run. Each that was left was served by the
  -- entries of two numbers of its own, which the caller's passes have seen.
  pub record Going (door0 : DoorState I O) (keys0 : KmsKnown D W) (names0 : NameKnown D W) (door : DoorState I O) (keys : KmsKnown D W) (names : NameKnown D W)
      (running : List (Start I O D W)) : Type 0 where
    pub visits : List (Visit I O)
    pub accepted : door.accepted ≡ door0.accepted + (length visits + length running)
    pub left : door.left ≡ door0.left + length visits
    pub came : door.came ≡ with_more door0.came (map came_of visits ++ map ends_of running)
    pub gone : door.gone ≡ with_more door0.gone (map left_of visits)
    pub port : door.port ≡ door0.port
    pub served : AllServed keys.seen names.seen visits
    pub met_keys : HasMet keys0 keys (map keys_of visits)
    pub met_names : HasMet names0 names (map names_of visits)
    pub fresh : AllFresh running

  -- what goes on from any first state still does
  abbrev pub ConnectionsGoOn : DoorState I O → KmsKnown D W → NameKnown D W → List (Start I O D W) → DoorState I O → KmsKnown D W → NameKnown D W → List (Start I O D W) → Type 0
  ConnectionsGoOn door keys names running door' keys' names' running' =
      (door0 : DoorState I O) (keys0 : KmsKnown D W) (names0 : NameKnown D W) → Going door0 keys0 names0 door keys names running → Going door0 keys0 names0 door' keys' names' running'

  -- Connections came and were all left, in the order in which they came. Each was served by the entries of two numbers of its own, which the
  -- caller's passes have seen. Beside their passes, those of workers were met, whose entries are work: `first` and `second` are the words of the
  -- fillers.
  pub record Connections (first second : ℕ → ℕ) (door0 : DoorState I O) (keys0 : KmsKnown D W) (names0 : NameKnown D W) (door : DoorState I O) (keys : KmsKnown D W) (names : NameKnown D W) : Type 0 where
    pub visits : List (Visit I O)
    pub accepted : door.accepted ≡ door0.accepted + length visits
    pub left : door.left ≡ door0.left + length visits
    pub came : door.came ≡ with_more door0.came (map came_of visits)
    pub gone : door.gone ≡ with_more door0.gone (map left_of visits)
    pub served : AllServed keys.seen names.seen visits
    pub other_keys : List ℕ
    pub other_names : List ℕ
    pub work : IsWork first second keys.seen names.seen other_keys other_names
    pub met_keys : HasMet keys0 keys (map keys_of visits ++ other_keys)
    pub met_names : HasMet names0 names (map names_of visits ++ other_names)
