-- The status of a check.
use Rattle.std.proofs.Common.{◌≢◌, inl, inr, ℕ, List}
use Rattle.std.specs.Prelude.{Option}
use Rattle.hk_base.specs.Disk.{DiskState}
use Rattle.check_run.specs.Checks.{Checks}
use Rattle.command_io.proofs.UsageLemmas.{not_shown, report_is_no_usage}

pub check_is_no_usage : (old new : DiskState) (written now : Option (List ℕ)) (status : ℕ) → Checks written now status old new → status ≢ 2
check_is_no_usage old new written now status (inl (found, are, inl (text, sums, shows))) = not_shown text 0 written now status (λ h. absurd cc) shows
check_is_no_usage old new written now status (inl (found, are, inr (end, unsummed, reports))) = report_is_no_usage end written now status reports
check_is_no_usage old new written now status (inr (inl failed)) = report_is_no_usage _ written now status failed.0
check_is_no_usage old new written now status (inr (inr reports)) = report_is_no_usage _ written now status reports
