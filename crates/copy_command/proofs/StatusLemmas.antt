-- Only words with a mistake give the status 2.
use Rattle.std.proofs.Common.{◌≢◌, inl, inr, ℕ, List}
use Rattle.std.specs.Prelude.{codes, Option, Result, Ok, Err}
use Rattle.hk_base.specs.Disk.{DiskState}
use Rattle.frame_log.specs.declared.fault.StartFault.{StartFault}
use Rattle.frame_log.specs.declared.fault.StartFault.TheVariants as start
use Rattle.body_stream.specs.Vaults.{VaultState}
use Rattle.command_io.specs.Ends.{ended_by, ended_by_props}
use Rattle.command_io.proofs.UsageLemmas.{not_shown, report_is_no_usage}
use Rattle.data_stream.proofs.EndLemmas.{close_is_no_usage}
use Rattle.copy_ends.specs.Ends.{ShowsLine, copied_line, start_line, start_status}
use Rattle.copy_reads.specs.Commands.{CopyUnder, ReadsCopyFile, ReportsCopies, RestAfter, copies_line, copies_status}
use Rattle.data_stream.specs.Runs.{Worked}
use Rattle.row_copies.specs.declared.walk.Copied.{Copied}
use Rattle.raw_copy.specs.declared.backup.CopyFault.{CopyFault}
use Rattle.raw_copy.specs.declared.backup.CopyFault.TheVariants.{End, Start}
use Rattle.copy_runs.specs.Commands.{ClosesCopy, CopiesByFile, CopiesUnder}

-- ---- a range of a copy is read

copies_is_no_usage : (fault : StartFault) → copies_status fault ≢ 2
copies_is_no_usage (start.Damaged at) h = absurd cc
copies_is_no_usage start.StoreFault h = absurd cc
copies_is_no_usage start.NoMemory h = absurd cc
copies_is_no_usage start.Spent h = absurd cc

reports_is_no_usage : (fault : StartFault) (written now : Option (List ℕ)) (status : ℕ) → ReportsCopies fault written now status → status ≢ 2
reports_is_no_usage fault written now status r = not_shown (copies_line r.last) (copies_status r.last) written now status (copies_is_no_usage r.last) r.shows

module _ (user path : List ℕ) (from count : ℕ) (old new backup backup' : DiskState) (words words' : ℕ → ℕ) (copies copies' : VaultState) (written now : Option (List ℕ)) (status : ℕ) where
  rest_is_no_usage : (same : Type 0) {props : _} (worked : Worked props old new words words') → RestAfter worked same user path from count backup backup' copies copies' written now status → status ≢ 2
  rest_is_no_usage same worked (inl not) = reports_is_no_usage not.fault written now status not.reports
  rest_is_no_usage same worked (inr (r, wrote)) = close_is_no_usage r.how r.body now status r.closes

  pub read_is_no_usage : (same_disk same_backup same : Type 0) (acls acls' : Option (List ℕ)) → ReadsCopyFile same_disk same_backup same user path from count old new backup backup' acls acls' words words' copies copies' written now status → status ≢ 2
  read_is_no_usage same_disk same_backup same acls acls' (inl bad) = report_is_no_usage (ended_by_props bad.fault) written now status bad.reports
  read_is_no_usage same_disk same_backup same acls acls' (inr with) = under with.range
    where
      under : CopyUnder with.props same_backup same user path from count old new backup backup' words words' copies copies' written now status → status ≢ 2
      under (inl not) = report_is_no_usage (ended_by not.file not.fault) written now status not.reports
      under (inr o) = rest_is_no_usage same o.worked o.rest

-- ---- a zone is copied

start_is_no_usage : (fault : StartFault) → start_status fault ≢ 2
start_is_no_usage (start.Damaged at) h = absurd cc
start_is_no_usage start.StoreFault h = absurd cc
start_is_no_usage start.NoMemory h = absurd cc
start_is_no_usage start.Spent h = absurd cc

line_is_no_usage : (line : List ℕ) (own : ℕ) (written now : Option (List ℕ)) (status : ℕ) → own ≢ 2 → ShowsLine line own written now status → status ≢ 2
line_is_no_usage line own written now status other (inl shown) = not_shown line own written now status other shown
line_is_no_usage line own written now status other (inr none) = not_shown (codes "no memory\n") 6 written now status (λ h. absurd cc) none

closes_is_no_usage : (ended : Result Copied CopyFault) (written now : Option (List ℕ)) (status : ℕ) → ClosesCopy ended written now status → status ≢ 2
closes_is_no_usage (Ok counts) written now status closes = line_is_no_usage (copied_line counts) 0 written now status (λ h. absurd cc) closes
closes_is_no_usage (Err (Start fault)) written now status closes = line_is_no_usage (start_line fault) (start_status fault) written now status (start_is_no_usage fault) closes
closes_is_no_usage (Err (End how)) written now status closes = close_is_no_usage how written now status closes

module _ {E : Type 0} (disk : E → DiskState) (source target : List ℕ) (old new : DiskState) (backup backup' : E) (acls acls' : Option (List ℕ)) (words words' : ℕ → ℕ) (vault vault' copies copies' : VaultState) (written now : Option (List ℕ)) (status : ℕ) where
  pub copy_is_no_usage : (same_disk same : Type 0) → CopiesByFile disk same_disk same source target old new backup backup' acls acls' words words' vault vault' copies copies' written now status → status ≢ 2
  copy_is_no_usage same_disk same (inl bad) = report_is_no_usage (ended_by_props bad.fault) written now status bad.reports
  copy_is_no_usage same_disk same (inr with) = under with.copy
    where
      under : CopiesUnder disk with.props same source target old new backup backup' words words' vault vault' copies copies' written now status → status ≢ 2
      under (inl not) = report_is_no_usage (ended_by not.file not.fault) written now status not.reports
      under (inr o) = closes_is_no_usage o.ended written now status o.closes
