use Rattle.run_laws.proofs.KeyLaws.{zone_files_decrypt}
use Rattle.run_laws.proofs.ShownKeys.{shown_keys_are_kept}
use Rattle.run_laws.proofs.zone_files_are_decrypted.Goals as goal

pub returns-clause-decrypted : goal.returns-clause-decrypted
returns-clause-decrypted c = zone_files_decrypt

pub returns-clause-shown : goal.returns-clause-shown
returns-clause-shown c = shown_keys_are_kept
