-- A view of a key log that another instance has open.
use Rattle.std.specs.Prelude.{◌≡◌, Bool, List, ◌++◌, Some}
use Rattle.hk_base.specs.Disk.{DiskState}
use Rattle.key_rows.specs.Table.{Table, no_keys}
use Rattle.key_rows.specs.declared.rows.KeyCommand.{KeyCommand}
use Rattle.kms_store.specs.Replay.{key_replay}
use Rattle.kms_store.specs.Store.{Applies, IsKeyStoreOf, StoreState, settled_commands}

-- the store of the other instance, the lead, holds these acknowledged commands on the disk
pub record IsLead (disk : DiskState) (lead : StoreState) (commands : List KeyCommand) : Type 0 where
  pub file : lead.log.file ≡ 0
  pub fits : Applies lead.table.keys lead.pending
  pub store : IsKeyStoreOf disk lead commands

-- the table is that of all commands that the lead acknowledged, and of at most its pending one after them
pub record ShowsAll (lead : StoreState) (commands : List KeyCommand) (table : Table) : Type 0 where
  pub kept : Bool
  pub makes : key_replay no_keys (commands ++ settled_commands kept lead.pending) ≡ Some table
