use Rattle.std.proofs.Common.{None, Some}
use Rattle.key_index.specs.Index.{is_named}
use Rattle.key_index.proofs.Lookups.{found_alone, found_sound, named_as}
use Rattle.key_index.proofs.Sounds.{is_table}
use Rattle.key_index.proofs.index.KeyIndex.find.Goals as goal

pub returns-in-None-clause-found : goal.returns-in-None-clause-found
returns-in-None-clause-found c m = named_as m c.args.self.now.index.rows c.args.name.now None c.in-None.ensures.found

pub returns-in-None-clause-table : goal.returns-in-None-clause-table
returns-in-None-clause-table c m sized = is_table m c.args.self.now.index c.named.ensures.sound sized

pub returns-in-Some-clause-found : goal.returns-in-Some-clause-found
returns-in-Some-clause-found c m = named_as m c.args.self.now.index.rows c.args.name.now (Some c.in-Some.placed.now) c.in-Some.ensures.found

pub returns-in-Some-clause-row : goal.returns-in-Some-clause-row
returns-in-Some-clause-row c = found_sound (is_named c.args.name.now) c.args.self.now.index.rows c.in-Some.placed.now c.named.ensures.sound.rows c.in-Some.ensures.found

pub returns-in-Some-clause-birth : goal.returns-in-Some-clause-birth
returns-in-Some-clause-birth c m = found_alone m c.args.self.now.index c.args.name.now c.in-Some.placed.now c.named.ensures.sound c.in-Some.ensures.found

pub returns-in-Some-clause-table : goal.returns-in-Some-clause-table
returns-in-Some-clause-table c m sized = is_table m c.args.self.now.index c.named.ensures.sound sized
