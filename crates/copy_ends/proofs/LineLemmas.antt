-- The last line of a command that copies.
use Rattle.std.proofs.Common.{◌≡◌, inl, ℕ, List, sym, subst}
use Rattle.std.specs.Prelude.{Option}
use Rattle.frame_log.specs.declared.fault.StartFault.{StartFault}
use Rattle.command_io.specs.Ends.{ShowsWith}
use Rattle.copy_ends.specs.Ends.{ShowsLine, start_line, start_status}

-- the line of this fault was shown
pub start_shown : (fault own : StartFault) → fault ≡ own → (text : List ℕ) (written now : Option (List ℕ)) (status : ℕ) → text ≡ start_line own → ShowsWith text (start_status own) written now status → ShowsLine (start_line fault) (start_status fault) written now status
start_shown fault own same text written now status is shows =
    subst (λ (f : StartFault). ShowsLine (start_line f) (start_status f) written now status) (sym same) (inl (subst (λ (t : List ℕ). ShowsWith t (start_status own) written now status) is shows))
