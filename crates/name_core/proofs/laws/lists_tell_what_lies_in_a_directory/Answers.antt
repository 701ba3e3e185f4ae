use Rattle.name_core.proofs.DeleteLaws.{list_tells_children}
use Rattle.name_core.proofs.laws.lists_tell_what_lies_in_a_directory.Goals as goal

pub returns : goal.returns
returns c = list_tells_children
