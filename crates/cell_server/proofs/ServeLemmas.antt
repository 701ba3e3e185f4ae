-- What a server did in all.
use Rattle.std.specs.Prelude.{◌≡◌, ◌+◌, ℕ, IsTrue, List, [], length}
use Rattle.std.proofs.Common.{ap, sym, ◌∙◌, refl, inl, inr, subst, arith}
use Rattle.hk_base.specs.Disk.{DiskState}
use Rattle.hist_cell.specs.History.{LegalOf}
use Rattle.kms_cell.specs.Entries.{KmsKnown}
use Rattle.kms_cell.specs.Steps.{KmsSteps}
use Rattle.kms_cell.specs.Tickets.{KmsAllows}
use Rattle.kms_cell.specs.Views.{KmsView}
use Rattle.name_history.specs.Entries.{NameEntry, NameKnown}
use Rattle.server_parts.specs.Doors.{DoorState, with_port}
use Rattle.turns.specs.Entries.{NamesMake}
use Rattle.cell_server.specs.Connections.{Connections, Serving}
use Rattle.cell_workers.specs.Rounds.{IsLastRound}
use Rattle.cell_server.specs.Serves.{Listens, ServesAll}
use Rattle.cell_server.specs.declared.ends.ServeEnd.{ServeEnd}
use Rattle.cell_server.specs.declared.ends.ServeEnd.TheVariants as serve_end
use Rattle.cell_server.proofs.GoingLemmas.{connections_none}
use Rattle.cell_workers.proofs.MadeLemmas.{NamesLegal, names_none}

module _ {D W : Type 0} (state : D → DiskState) (to_come : W → ℕ → ℕ) where
  -- what a pass of the keys has seen is a legal history
  abbrev pub KeysLegal : KmsKnown D W → Type 0
  KeysLegal v = LegalOf (KmsSteps {D = D} {W = W} state to_come) (KmsAllows {S = KmsView D W}) v.start v.seen

module _ {I O D W : Type 0} (serves : Serving I O D W) (first second : ℕ → ℕ) (state : D → DiskState) (to_come : W → ℕ → ℕ) where
  -- memory ran out in the last round
  pub serves_part : (door0 : DoorState I O) (keys0 : KmsKnown D W) (names0 : NameKnown D W) (port conns : ℕ) (end : ServeEnd) (door : DoorState I O) (keys : KmsKnown D W) (names names' : NameKnown D W) (made : List (NameEntry D W))
      → Listens port door0 end door → Connections serves first second door0 keys0 names0 door keys names → KeysLegal state to_come keys → NamesMake state to_come names made names' → end ≡ serve_end.NoMemory
      → ServesAll serves first second state to_come door0 keys0 names0 port conns end door keys names'
  serves_part door0 keys0 names0 port conns end door keys names names' made listens connections legal makes is = record {
    listens = listens;
    names_then = names;
    connections = connections;
    legal = legal;
    made = made;
    makes = makes;
    ends_well = λ all. cc (is, all);
    closed = λ closed. cc (is, closed);
    no_round = λ closed. cc (is, closed);
  }

  -- there was no last round
  pub serves_no_round : (door0 : DoorState I O) (keys0 : KmsKnown D W) (names0 : NameKnown D W) (port conns : ℕ) (end : ServeEnd) (door : DoorState I O) (keys : KmsKnown D W) (names : NameKnown D W)
      → Listens port door0 end door → Connections serves first second door0 keys0 names0 door keys names → KeysLegal state to_come keys → NamesLegal state to_come names
      → ¬ (end ≡ serve_end.Served) → (end ≡ serve_end.Closed → IsTrue door.closed)
      → ServesAll serves first second state to_come door0 keys0 names0 port conns end door keys names
  serves_no_round door0 keys0 names0 port conns end door keys names listens connections legal names_legal not_all closed = record {
    listens = listens;
    names_then = names;
    connections = connections;
    legal = legal;
    made = [];
    makes = names_none state to_come names names_legal;
    ends_well = λ all. absurd (not_all all);
    closed = closed;
    no_round = λ is. refl;
  }

  -- the door could not be opened, and nothing was served
  pub serves_none : (door0 : DoorState I O) (keys : KmsKnown D W) (names : NameKnown D W) (port conns : ℕ) (door : DoorState I O) → door ≡ door0 → KeysLegal state to_come keys → NamesLegal state to_come names
      → ServesAll serves first second state to_come door0 keys names port conns serve_end.DoorFault door keys names
  serves_none door0 keys names port conns door same legal names_legal =
      subst (λ (d : DoorState I O). ServesAll serves first second state to_come door0 keys names port conns serve_end.DoorFault d keys names) (sym same)
      (serves_no_round door0 keys names port conns serve_end.DoorFault door0 keys names (inr (refl, refl)) (connections_none serves first second door0 keys names) legal names_legal (λ e. cc) (λ e. absurd cc))

  -- all connections were served, and the last round was finished
  pub serves_whole : (door0 : DoorState I O) (keys0 : KmsKnown D W) (names0 : NameKnown D W) (port conns : ℕ) (end : ServeEnd) (door : DoorState I O) (keys : KmsKnown D W) (names names' : NameKnown D W) (made : List (NameEntry D W))
      → Listens port door0 end door → Connections serves first second door0 keys0 names0 door keys names → door.accepted ≡ door0.accepted + conns → KeysLegal state to_come keys → NamesMake state to_come names made names' → IsLastRound made
      → end ≡ serve_end.Served → ServesAll serves first second state to_come door0 keys0 names0 port conns end door keys names'
  serves_whole door0 keys0 names0 port conns end door keys names names' made listens connections accepted legal makes round is =
      let so_many : door.accepted ≡ door0.accepted + length connections.visits = connections.accepted in
      let left : door.left ≡ door0.left + length connections.visits = connections.left in
      record {
        listens = listens;
        names_then = names;
        connections = connections;
        legal = legal;
        made = made;
        makes = makes;
        ends_well = λ all. record { accepted = accepted; left = omega (arith, accepted, so_many, left); round = round };
        closed = λ closed. cc (is, closed);
        no_round = λ closed. cc (is, closed);
      }

  -- the same connections, at the door before it was opened
  connections_before : (door0 : DoorState I O) (port : ℕ) (keys0 : KmsKnown D W) (names0 : NameKnown D W) (door : DoorState I O) (keys : KmsKnown D W) (names : NameKnown D W)
      → Connections serves first second (with_port door0 port) keys0 names0 door keys names → Connections serves first second door0 keys0 names0 door keys names
  connections_before door0 port keys0 names0 door keys names c = record {
    visits = c.visits;
    accepted = c.accepted;
    left = c.left;
    came = c.came;
    gone = c.gone;
    served = c.served;
    other_keys = c.other_keys;
    other_names = c.other_names;
    work = c.work;
    met_keys = c.met_keys;
    met_names = c.met_names;
  }

  -- a door that listens keeps its port, even if it is left as it was
  listens_before : (door0 : DoorState I O) (port : ℕ) (end : ServeEnd) (door : DoorState I O) → Listens port (with_port door0 port) end door → Listens port door0 end door
  listens_before door0 port end door (inl is) = inl is
  listens_before door0 port end door (inr (failed, same)) = inl (ap (λ (d : DoorState I O). d.port) same)

  -- the same, from before the door was opened
  pub serves_after : (door0 : DoorState I O) (keys0 : KmsKnown D W) (names0 : NameKnown D W) (port conns : ℕ) (end : ServeEnd) (door : DoorState I O) (keys : KmsKnown D W) (names : NameKnown D W)
      → ServesAll serves first second state to_come (with_port door0 port) keys0 names0 port conns end door keys names → ServesAll serves first second state to_come door0 keys0 names0 port conns end door keys names
  serves_after door0 keys0 names0 port conns end door keys names s = record {
    listens = listens_before door0 port end door s.listens;
    names_then = s.names_then;
    connections = connections_before door0 port keys0 names0 door keys s.names_then s.connections;
    legal = s.legal;
    made = s.made;
    makes = s.makes;
    ends_well = λ all. let e = s.ends_well all in record { accepted = e.accepted; left = e.left; round = e.round };
    closed = s.closed;
    no_round = s.no_round;
  }
