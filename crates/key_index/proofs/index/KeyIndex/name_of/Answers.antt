use Rattle.std.proofs.Common.{ap, option_map}
use Rattle.key_rows.specs.declared.rows.KeyRow.{KeyRow}
use Rattle.key_index.proofs.index.KeyIndex.name_of.Goals as goal

pub returns-in-None : goal.returns-in-None
returns-in-None c m = ap (option_map (λ (row : KeyRow). row.name)) (c.in-None.ensures.found m)

pub returns-in-Some : goal.returns-in-Some
returns-in-Some c m = ap (option_map (λ (row : KeyRow). row.name)) (c.in-Some.ensures.found m)
