-- The keys of an index by number, in order of birth.
use Rattle.std.specs.Prelude.{ℕ, ◌/◌, set}
use Rattle.key_index.specs.declared.rows.PlacedRow.{PlacedRow}
use Rattle.key_index.specs.Index.{Index}
use Rattle.key_index.specs.Runs.{run_places}

-- a key whose materials are one after the other, from an offset on
abbrev pub placed_from : ℕ → PlacedRow → PlacedRow
placed_from first placed = record placed { places = run_places first (placed.row.bits / 8) placed.row.versions }

-- the index with another key at a number
abbrev pub with_at : Index → ℕ → PlacedRow → Index
with_at x number placed = record x { rows = set x.rows number placed }
