use Rattle.std.proofs.Common.{ap, ◌∙◌, Option}
use Rattle.std.specs.Prelude.{option_and_then}
use Rattle.key_index.specs.declared.rows.PlacedRow.{PlacedRow}
use Rattle.key_index.specs.Index.{older_place}
use Rattle.key_index.proofs.index.KeyIndex.older_place.Goals as goal

pub returns-in-None-clause-place : goal.returns-in-None-clause-place
returns-in-None-clause-place c = rw (← c.version.view_is) (ap (λ (o : Option PlacedRow). option_and_then (older_place c.version.inside.number) o) c.in-None.ensures.found)

pub returns-in-Some-clause-place : goal.returns-in-Some-clause-place
returns-in-Some-clause-place c = rw (← c.version.view_is) (c.older_place.ensures ∙ ap (λ (o : Option PlacedRow). option_and_then (older_place c.version.inside.number) o) c.in-Some.ensures.found)
