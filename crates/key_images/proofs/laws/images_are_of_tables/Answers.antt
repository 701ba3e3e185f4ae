use Rattle.key_images.proofs.Sources.{held_is_imaged, held_is_within}
use Rattle.key_images.proofs.Moves.{moved_is_held}
use Rattle.key_images.proofs.laws.images_are_of_tables.Goals as goal

pub returns-clause-held : goal.returns-clause-held
returns-clause-held c = held_is_imaged

pub returns-clause-within : goal.returns-clause-within
returns-clause-within c m file x is held = held_is_within m file x.rows is.rows held

pub returns-clause-relocated : goal.returns-clause-relocated
returns-clause-relocated c = moved_is_held
