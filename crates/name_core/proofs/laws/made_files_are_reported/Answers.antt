use Rattle.name_core.proofs.AskLaws.{file_is_reported, others_stay_by_file, zone_is_as_asked}
use Rattle.name_core.proofs.laws.made_files_are_reported.Goals as goal

pub returns-clause-shown : goal.returns-clause-shown
returns-clause-shown c = file_is_reported

pub returns-clause-zone : goal.returns-clause-zone
returns-clause-zone c = zone_is_as_asked

pub returns-clause-others : goal.returns-clause-others
returns-clause-others c = others_stay_by_file
