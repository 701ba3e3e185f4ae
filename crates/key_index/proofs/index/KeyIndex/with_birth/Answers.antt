use Rattle.std.proofs.Common.{None, Some}
use Rattle.key_index.specs.Index.{is_born}
use Rattle.key_index.proofs.Lookups.{born_as, found_sound}
use Rattle.key_index.proofs.index.KeyIndex.with_birth.Goals as goal

pub returns-in-None-clause-found : goal.returns-in-None-clause-found
returns-in-None-clause-found c m = born_as m c.args.self.now.index.rows c.args.birth None c.in-None.ensures.found

pub returns-in-Some-clause-found : goal.returns-in-Some-clause-found
returns-in-Some-clause-found c m = born_as m c.args.self.now.index.rows c.args.birth (Some c.in-Some.placed.now) c.in-Some.ensures.found

pub returns-in-Some-clause-row : goal.returns-in-Some-clause-row
returns-in-Some-clause-row c = found_sound (is_born c.args.birth) c.args.self.now.index.rows c.in-Some.placed.now c.born.ensures.sound.rows c.in-Some.ensures.found
