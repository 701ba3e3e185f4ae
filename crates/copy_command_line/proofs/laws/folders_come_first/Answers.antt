use Rattle.copy_command_line.proofs.FolderLemmas.{late_is_refused, says_in_folder, twice_is_refused}
use Rattle.copy_command_line.proofs.laws.folders_come_first.Goals as goal

pub returns-clause-same : goal.returns-clause-same
returns-clause-same c folder option command rest spelled named = says_in_folder folder option command rest spelled named

pub returns-clause-twice : goal.returns-clause-twice
returns-clause-twice c = twice_is_refused

pub returns-clause-late : goal.returns-clause-late
returns-clause-late c = late_is_refused
