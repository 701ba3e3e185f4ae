-- How the serving of connections ended.
use Rattle.std.specs.Prelude.{◌≡◌, ◌+◌, ℕ, IsTrue}
use Rattle.std.proofs.Common.{refl, subst, sym, ◌∙◌}
use Rattle.hk_base.specs.Faults.{Rose}
use Rattle.server_parts.specs.Doors.{DoorState}
use Rattle.cell_server.specs.Ends.{EndsServing}
use Rattle.cell_server.specs.declared.ends.ServeEnd.{ServeEnd}
use Rattle.cell_server.specs.declared.ends.ServeEnd.TheVariants as serve_end

module _ {I O : Type 0} (door0 : DoorState I O) (faults0 conns : ℕ) where
  -- there was no memory to begin with
  pub ends_unbegun : EndsServing door0 faults0 conns serve_end.NoMemory door0 faults0
  ends_unbegun = record {
    port = refl;
    accepted = λ e. absurd cc;
    closed = λ e. absurd cc;
    fault = λ e. absurd cc;
  }

  -- the connections that still ran were left after the last accept
  pub ends_left : (end : ServeEnd) (door door' : DoorState I O) (faults faults' : ℕ) → door'.port ≡ door0.port
      → (end ≡ serve_end.Served → door.accepted ≡ door0.accepted + conns) → (end ≡ serve_end.Closed → IsTrue door.closed) → (end ≡ serve_end.DoorFault → Rose faults0 faults)
      → door'.accepted ≡ door.accepted → door'.closed ≡ door.closed → faults' ≡ faults → EndsServing door0 faults0 conns end door' faults'
  ends_left end door door' faults faults' port accepted closed fault same same' same'' = record {
    port = port;
    accepted = λ e. same ∙ accepted e;
    closed = λ e. subst IsTrue (sym same') (closed e);
    fault = λ e. subst (Rose faults0) (sym same'') (fault e);
  }
