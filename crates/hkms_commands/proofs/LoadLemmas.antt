-- The status of a load.
use Rattle.std.proofs.Common.{◌≢◌, inl, inr, ℕ, List}
use Rattle.std.specs.Prelude.{Option}
use Rattle.load_run.specs.Load.{Load}
use Rattle.command_io.proofs.UsageLemmas.{not_shown}

pub load_is_no_usage : {W : Type 0} (to_come : W → ℕ → ℕ) (count : ℕ) (words words' : W) (written now : Option (List ℕ)) (status : ℕ) → Load to_come count words words' written now status → status ≢ 2
load_is_no_usage to_come count words words' written now status (inl (counts, did, shows)) = not_shown _ 0 written now status (λ h. absurd cc) shows
load_is_no_usage to_come count words words' written now status (inr shows) = not_shown _ 6 written now status (λ h. absurd cc) shows
