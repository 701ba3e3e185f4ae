-- A connection over both cells.
use Rattle.std.specs.Prelude.{◌≡◌, ℕ, List, [], ◌++◌, Option}
use Rattle.hk_base.specs.Disk.{DiskState}
use Rattle.hk_base.specs.declared.ended.Ended.{Ended}
use Rattle.http_wire.specs.Reading.{ahead}
use Rattle.hk_serve.specs.Exchanges.{Stand}
use Rattle.hk_serve.specs.Served.{Served}
use Rattle.hk_serve.specs.Transactions.{Transaction}
use Rattle.kms_cell.specs.Entries.{KmsEntry, KmsKnown}
use Rattle.name_history.specs.Entries.{NameEntry, NameKnown}
use Rattle.turns.specs.Entries.{KeysMake, NamesMake, calls_of}
use Rattle.cell_desk.specs.Orders.{TakesCalls}

-- what the passes of a connection know of both histories
pub record BothKnown (D W : Type 0) : Type 0 where
  pub keys : KmsKnown D W
  pub names : NameKnown D W

-- A transaction of a user is these entries of both legal histories, after all that the passes had seen.
pub record MakesOrder {D W : Type 0} (state : D → DiskState) (to_come : W → ℕ → ℕ) (v : BothKnown D W) (user : List ℕ) (done : Transaction) (w : BothKnown D W) : Type 0 where
  pub keys : List (KmsEntry D W)
  pub names : List (NameEntry D W)
  pub makes_keys : KeysMake state to_come v.keys keys w.keys
  pub makes_names : NamesMake state to_come v.names names w.names
  pub takes : TakesCalls user done (calls_of keys) names

-- a connection over both cells: what is ahead of it, what its passes know, and what was written
abbrev pub connection : {D W : Type 0} → Option (List ℕ) → KmsKnown D W → NameKnown D W → Option (List ℕ) → Stand (BothKnown D W)
connection ahead keys names written = record { ahead = ahead; desk = record { keys = keys; names = names }; written = written }

-- entries of both histories
pub record BothEntries (D W : Type 0) : Type 0 where
  pub keys : List (KmsEntry D W)
  pub names : List (NameEntry D W)

module _ {D W : Type 0} where
  -- more entries, which are those of a transaction of a user
  pub record AddsOrder (es : BothEntries D W) (user : List ℕ) (done : Transaction) (es' : BothEntries D W) : Type 0 where
    pub keys : List (KmsEntry D W)
    pub names : List (NameEntry D W)
    pub takes : TakesCalls user done (calls_of keys) names
    pub added_keys : es'.keys ≡ es.keys ++ keys
    pub added_names : es'.names ≡ es.names ++ names

  -- A connection was served by these entries: each request that is a call or an order has its own, in order, with the reply that it was
  -- answered with, and there are no others. Bytes that were read past the last request are unused.
  pub record ServedByCells (source written : Option (List ℕ)) (keys : List (KmsEntry D W)) (names : List (NameEntry D W)) (source' written' : Option (List ℕ)) (how : Ended) : Type 0 where
    pub unused : List ℕ
    pub served : Served AddsOrder (record { ahead = source; desk = record { keys = []; names = [] }; written = written })
        (record { ahead = ahead unused source'; desk = record { keys = keys; names = names }; written = written' }) how

-- The passes of a connection made some entries and no others, and it was served by these.
abbrev pub ServedByEntries : {D W : Type 0} → (D → DiskState) → (W → ℕ → ℕ) → Stand (BothKnown D W) → Stand (BothKnown D W) → Ended → Type 0
ServedByEntries {D} {W} state to_come old new how =
    (by_keys : List (KmsEntry D W)) × (by_names : List (NameEntry D W))
    × KeysMake state to_come old.desk.keys by_keys new.desk.keys × NamesMake state to_come old.desk.names by_names new.desk.names
    × ServedByCells old.ahead old.written by_keys by_names new.ahead new.written how
