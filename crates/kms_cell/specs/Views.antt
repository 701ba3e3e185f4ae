-- The key management service beside its disk.
use Rattle.std.specs.Prelude.{List}
use Rattle.hk_base.specs.Disk.{DiskState, Tells}
use Rattle.key_rows.specs.declared.rows.KeyCommand.{KeyCommand}
use Rattle.prop_text.specs.declared.lines.PropLine.{PropLine}
use Rattle.kms_acls.specs.Agreement.{AreListsOf}
use Rattle.kms_store.specs.Store.{IsKeyStoreOf}
use Rattle.kms_core.specs.Users.{RunningKms}

-- the service with its disk and the random words that it draws from
pub record KmsView (D W : Type 0) : Type 0 where
  pub kms : RunningKms
  pub disk : D
  pub words : W

-- The service runs on this disk: its lists agree with some lines of properties, and the disk, if it tells, holds the service's store: some
-- commands, with or without the pending one.
pub record RunsOn (disk : DiskState) (kms : RunningKms) : Type 0 where
  pub lines : List PropLine
  pub lists : AreListsOf kms.acls lines
  pub log : Tells disk → (commands : List KeyCommand) × IsKeyStoreOf disk kms.store commands
