use Rattle.std.proofs.Common.{ap, option_map}
use Rattle.key_rows.specs.Table.{current_of}
use Rattle.key_index.proofs.Lookups.{current_as}
use Rattle.key_index.proofs.index.KeyIndex.current.Goals as goal

pub returns-in-None : goal.returns-in-None
returns-in-None c m = ap (option_map current_of) (c.in-None.ensures.found m)

pub returns-in-Some : goal.returns-in-Some
returns-in-Some c m = current_as m _ c.in-Some.row.now c.in-Some.ensures.row (c.in-Some.ensures.found m)
