-- The index that stands for a table whose image is at a place of a file: each material is where the image has it.
use Rattle.std.specs.Prelude.{ℕ, ◌+◌, ◌-◌, ◌/◌, List, [], ◌∷◌, length}
use Rattle.std.specs.List.{concat}
use Rattle.hk_base.specs.declared.names.Dek.{Dek}
use Rattle.key_rows.specs.declared.rows.KeyRow.{KeyRow}
use Rattle.key_rows.specs.Image.{key_row_image}
use Rattle.key_rows.specs.Table.{Table}
use Rattle.key_index.specs.declared.rows.IndexRow.{IndexRow}
use Rattle.key_index.specs.declared.rows.PlacedRow.{PlacedRow}
use Rattle.key_index.specs.Index.{Index}
use Rattle.key_index.specs.Runs.{run_places}

-- the last of the materials
abbrev pub last_of : Dek → List Dek → Dek
last_of first [] = first
last_of first (second ∷ materials) = last_of second materials

abbrev pub newest_of : List Dek → Dek
newest_of [] = []
newest_of (first ∷ materials) = last_of first materials

-- a key without its older materials
abbrev pub brief : KeyRow → IndexRow
brief row = record {
  name = row.name;
  birth = row.birth;
  bits = row.bits;
  current = newest_of row.materials;
  versions = length row.materials;
  description = row.description;
  created = row.created;
}

-- a key whose image is at this place: its materials end it
abbrev pub placed_key : ℕ → KeyRow → PlacedRow
placed_key place row = record {
  row = brief row;
  places = run_places (place + length (key_row_image row) - length (concat row.materials)) (row.bits / 8) (length row.materials);
}

-- keys one after the other
abbrev pub placed_keys : ℕ → List KeyRow → List PlacedRow
placed_keys place [] = []
placed_keys place (row ∷ rows) = placed_key place row ∷ placed_keys (place + length (key_row_image row)) rows

-- a table: its keys follow 16 bytes
abbrev pub index_at : ℕ → Table → Index
index_at place t = record { opening = t.opening; greatest = t.greatest; rows = placed_keys (place + 16) t.rows }
