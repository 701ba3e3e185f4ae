-- What a command is given if it is to be done whole.
use Rattle.std.specs.Prelude.{◌≡◌, ◌⊎◌, ◌<◌, ◌≤◌, ℕ, IsTrue, List, length, Option, None, Some}
use Rattle.std.specs.List.{AllByRecursion}
use Rattle.hk_base.specs.Disk.{DiskState, Tells}
use Rattle.hk_base.specs.Faults.{Rose}
use Rattle.http_wire.specs.declared.faults.WireFault.TheVariants as wire
use Rattle.http_wire.specs.Message.{Message}
use Rattle.http_wire.specs.Requests.{HasRequests}
use Rattle.edit_ops.specs.declared.ops.EditOp.{EditOp}
use Rattle.key_rows.specs.declared.rows.KeyCommand.{KeyCommand}
use Rattle.key_rows.specs.Table.{Table}
use Rattle.kms_store.specs.Store.{IsKeyLog}
use Rattle.name_store.specs.Store.{IsNameLog}
use Rattle.name_store.specs.Table.{Replayed}
use Rattle.prop_text.specs.declared.props.Props.{Props}
use Rattle.prop_text.specs.Properties.{IsProps}
use Rattle.replay_text.specs.Events.{IsBad}
use Rattle.server_parts.specs.Yards.{YardState}
use Rattle.command_io.specs.Lines.{lines_of}
use Rattle.hk_runs.specs.Replay.{longest_input}

-- The source tells its text, and that is properties.
pub record GoodProperties (acls : Option (List ℕ)) : Type 0 where
  pub text : List ℕ
  pub known : acls ≡ Some text
  pub props : Props
  pub is_props : IsProps text props

-- The source tells its text, which is not too long, and no line of it is a bad one.
pub record GoodLines (input : Option (List ℕ)) : Type 0 where
  pub all : List ℕ
  pub known : input ≡ Some all
  pub short : length all ≤ longest_input
  pub none_bad : AllByRecursion (λ line. ¬ IsBad line) (lines_of all)

-- The source tells its bytes, which are fewer than the longest input. They are requests, up to their end or to a request that closes
-- the connection.
pub record GoodRequests (input : Option (List ℕ)) : Type 0 where
  pub all : List ℕ
  pub known : input ≡ Some all
  pub short : length all < longest_input
  pub requests : List Message
  pub are : HasRequests all requests None ⊎ HasRequests all requests (Some wire.End)

-- The file is a key log whose commands apply, and its last opening is not used.
pub record GoodKeys (bytes : List ℕ) : Type 0 where
  pub commands : List KeyCommand
  pub table : Table
  pub log : IsKeyLog bytes commands table
  pub room : table.opening < 4294967295

-- The file is an edit log whose operations apply, and its last opening is not used.
pub record GoodNames (bytes : List ℕ) : Type 0 where
  pub ops : List EditOp
  pub made : Replayed
  pub log : IsNameLog bytes ops made
  pub room : made.table.opening < 4294967295

-- The disk tells its two files, which are good logs.
pub record GoodDisk (disk : DiskState) : Type 0 where
  pub tells : Tells disk
  pub keys : GoodKeys (disk.reads 0)
  pub names : GoodNames (disk.reads 1)

-- The same of a yard.
pub record GoodYard (yard : YardState) : Type 0 where
  pub tells : IsTrue yard.tells
  pub keys : GoodKeys (yard.reads 0)
  pub names : GoodNames (yard.reads 1)

-- The counts of faults of what a command uses of the outside.
pub record FaultCounts : Type 0 where
  pub acls : ℕ
  pub input : ℕ
  pub out : ℕ
  pub store : ℕ
  pub door : ℕ

-- none of them rose
pub record NoneRose (before after : FaultCounts) : Type 0 where
  pub acls : ¬ Rose before.acls after.acls
  pub input : ¬ Rose before.input after.input
  pub out : ¬ Rose before.out after.out
  pub store : ¬ Rose before.store after.store
  pub door : ¬ Rose before.door after.door

-- a status that tells of a fault comes only if a count of that kind rose
pub record HasCauses (before after : FaultCounts) (status : ℕ) : Type 0 where
  pub read : status ≡ 7 → Rose before.input after.input ⊎ Rose before.acls after.acls
  pub write : status ≡ 8 → Rose before.out after.out
  pub store : status ≡ 5 → Rose before.store after.store
  pub door : status ≡ 9 → Rose before.door after.door
