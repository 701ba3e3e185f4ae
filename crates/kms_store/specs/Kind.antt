-- The key log as a log of records.
use Rattle.std.specs.Prelude.{◌+◌, Bool, true, false, Option, Some, None}
use Rattle.key_rows.specs.Table.{Table, after, applies, no_keys}
use Rattle.key_rows.specs.Records.{HasSpelling, spelling}
use Rattle.key_rows.specs.declared.rows.KeyCommand.{KeyCommand}
use Rattle.key_rows.specs.declared.rows.KeyCommand.TheVariants.{Opened}
use Rattle.log_kinds.specs.Kinds.{LogKind}

-- the table once the pending command was settled: kept or dropped
abbrev pub settled_table : Bool → Option KeyCommand → Table → Table
settled_table kept None t = t
settled_table true (Some command) t = after t command
settled_table false (Some command) t = t

-- the record of the opening after this table
abbrev pub next_opening : Table → KeyCommand
next_opening table = Opened (table.opening + 1)

abbrev pub is_key_opening : KeyCommand → Bool
is_key_opening (Opened opening) = true
is_key_opening _ = false

abbrev pub key_kind : LogKind
key_kind = record {
  file = 0;
  Op = KeyCommand;
  HasSpelling = HasSpelling;
  spelling = spelling;
  State = Table;
  empty = no_keys;
  applies = applies;
  after = after;
  settled = settled_table;
  next_opening = next_opening;
  is_opening = is_key_opening;
}
