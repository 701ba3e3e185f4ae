-- A connection whose ends were closed after it was served.
use Rattle.std.specs.Prelude.{◌≡◌, ◌≤◌, ℕ, List, Option}
use Rattle.std.proofs.Common.{subst, sym}
use Rattle.hk_base.specs.Faults.{Rose}
use Rattle.hk_base.specs.declared.ended.Ended.{Ended}
use Rattle.kms_cell.specs.Entries.{KmsEntry}
use Rattle.name_history.specs.Entries.{NameEntry}
use Rattle.cell_desk.specs.Connections.{ServedByCells}
use Rattle.cell_server.specs.Connections.{ServesEnds}

-- it is served as it was if neither what is left or written nor the faults changed
pub serves_closed : {I O D W : Type 0} (left : I → Option (List ℕ)) (read_faults : I → ℕ) (written : O → Option (List ℕ)) (write_faults : O → ℕ)
    (input : I) (out : O) (keys : List (KmsEntry D W)) (names : List (NameEntry D W)) (input' : I) (out' : O) (how : Ended) (input'' : I) (out'' : O)
    → left input'' ≡ left input' → read_faults input'' ≡ read_faults input' → written out'' ≡ written out' → write_faults out'' ≡ write_faults out'
    → ServesEnds left read_faults written write_faults input out keys names input' out' how
    → ServesEnds left read_faults written write_faults input out keys names input'' out'' how
serves_closed left read_faults written write_faults input out keys names input' out' how input'' out'' same_left same_reads same_written same_writes s =
    record {
      served =
          subst (λ (l : Option (List ℕ)). ServedByCells (left input) (written out) keys names l (written out'') how) (sym same_left)
          (subst (λ (w : Option (List ℕ)). ServedByCells (left input) (written out) keys names (left input') w how) (sym same_written) s.served);
      read_later = subst (λ (n : ℕ). read_faults input ≤ n) (sym same_reads) s.read_later;
      read_fault = λ is. subst (λ (n : ℕ). Rose (read_faults input) n) (sym same_reads) (s.read_fault is);
      write_later = subst (λ (n : ℕ). write_faults out ≤ n) (sym same_writes) s.write_later;
      write_fault = λ is. subst (λ (n : ℕ). Rose (write_faults out) n) (sym same_writes) (s.write_fault is);
    }
