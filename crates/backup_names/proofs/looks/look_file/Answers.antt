use Rattle.backup_names.proofs.RefusalLemmas.{file_looked, row_looked}
use Rattle.backup_names.proofs.looks.look_file.Goals as goal

pub returns-in-Err-clause-cause : goal.returns-in-Err-clause-cause
returns-in-Err-clause-cause g c = row_looked _ c.look.result c.in-Err.end c.in-Err.is c.look.ensures.cause

pub returns-in-Ok-clause-cause : goal.returns-in-Ok-clause-cause
returns-in-Ok-clause-cause g c = file_looked _ _ c.file_shown.result c.file_shown.ensures.directory
