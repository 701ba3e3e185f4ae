-- Properties of the definitions.
use Rattle.std.specs.Prelude.{◌≡◌, ℕ, List, ⊤}
use Rattle.http_wire.specs.Message.{Message}
use Rattle.hk_base.specs.declared.ended.Ended.{Ended}
use Rattle.hk_base.specs.declared.ended.Ended.TheVariants as ended
use Rattle.hk_serve.specs.Served.{AreRequestsOf}

-- the bytes end the connection, not the outside and not their count
abbrev pub EndsByBytes : Ended → Type 0
EndsByBytes ended.End = ⊤
EndsByBytes ended.Wire = ⊤
EndsByBytes ended.Closed = ⊤
EndsByBytes ended.TooLong = ⊥
EndsByBytes ended.ReadFault = ⊥
EndsByBytes ended.WriteFault = ⊥
EndsByBytes ended.NoMemory = ⊥

-- if the bytes end a connection, they have one list of requests and one end
abbrev pub OneConnection : Type 0
OneConnection = (all : List ℕ) (requests others : List Message) (how other : Ended) → EndsByBytes how → EndsByBytes other → AreRequestsOf all requests how → AreRequestsOf all others other → (requests ≡ others) × (how ≡ other)
