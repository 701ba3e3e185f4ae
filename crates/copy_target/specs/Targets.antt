-- Two clusters: one that is only read, and the namesystem of another over its disk. Each has a vault.
use Rattle.std.specs.Prelude.{◌≡◌, ◌≢◌, ◌⊎◌, ◌≤◌, ℕ, List, [], Option, None, Some}
use Rattle.hk_base.specs.Disk.{DiskState}
use Rattle.hk_base.specs.Faults.{Rose}
use Rattle.hk_base.specs.declared.names.Edek.{Edek}
use Rattle.hk_base.specs.declared.names.KeyName.{KeyName}
use Rattle.hk_base.specs.declared.texts.Text.{Text}
use Rattle.file_orders.specs.declared.ends.FsEnd.{FsEnd}
use Rattle.kms_calls.specs.declared.calls.KmsRefusal.{KmsRefusal}
use Rattle.kms_calls.specs.declared.calls.KmsReply.{KmsReply}
use Rattle.kms_calls.specs.declared.calls.KmsReply.TheVariants.{Refused}
use Rattle.name_calls.specs.Answers.{answer_of}
use Rattle.name_calls.specs.declared.calls.Ask.TheVariants as ask
use Rattle.name_calls.specs.declared.calls.KeyAnswer.TheVariants as answer
use Rattle.name_calls.specs.declared.calls.NameCall.TheVariants as call
use Rattle.name_calls.specs.declared.paths.NPath.{NPath}
use Rattle.name_core.specs.State.{RunningNames}
use Rattle.inode_tree.specs.Rows.{Entry, entry_of}
use Rattle.body_stream.specs.Vaults.{TellsBodies, VaultState}
use Rattle.backup_names.specs.Orders.{HoldsNamesystem, IsSettled, OrdersNames}
use Rattle.backup_names.specs.Refusals.{AskRefused, CallRefused, FinishRefused, info_at}
use Rattle.row_copies.specs.Clusters.{CopyState}
use Rattle.row_copies.specs.Copies.{ChainOf}
use Rattle.copy_target.specs.declared.both.BothClusters.{BothClusters}

-- the rows and bodies of both
abbrev pub state_of : {S E V U : Type 0} → (S → List Entry) → (V → VaultState) → (U → VaultState) → BothClusters S E V U → CopyState
state_of rows vault copies v = record {
  source = record { rows = rows v.source.now; bodies = vault v.vault.now };
  target = record { rows = v.names.now.store.table.rows; bodies = copies v.copies.now };
}

-- the source can be read, the disk holds the log of the target, and no operation of it is pending
abbrev pub CanCopy : {S E V U : Type 0} → (S → Type 0) → (E → DiskState) → BothClusters S E V U → Type 0
CanCopy ready disk v = ready v.source.now × HoldsNamesystem (disk v.backup.now) v.names.now × IsSettled v.names.now

-- they still hold what the others held
pub record HoldsSameClusters {S E V U : Type 0} (old new : BothClusters S E V U) : Type 0 where
  pub source : new.source.ghost_name ≡ old.source.ghost_name
  pub names : new.names.ghost_name ≡ old.names.ghost_name
  pub backup : new.backup.ghost_name ≡ old.backup.ghost_name
  pub vault : new.vault.ghost_name ≡ old.vault.ghost_name
  pub copies : new.copies.ghost_name ≡ old.copies.ghost_name
  pub user : new.user.now ≡ old.user.now

-- The source was read, and changes of the target were made.
pub record WorksOnTarget {S E V U : Type 0} (follows : S → S → Type 0) (disk : E → DiskState) (vault : V → VaultState) (copies : U → VaultState) (old new : BothClusters S E V U) : Type 0 where
  pub holds : HoldsSameClusters old new
  pub source : ChainOf follows old.source.now new.source.now
  pub orders : OrdersNames (disk old.backup.now) (disk new.backup.now) old.names.now new.names.now
  pub vault_later : (vault old.vault.now).faults ≤ (vault new.vault.now).faults
  pub copies_later : (copies old.copies.now).faults ≤ (copies new.copies.now).faults

-- the vault has a body under an id that no row has
abbrev pub HasFreeBody : List Entry → VaultState → Type 0
HasFreeBody rows vault = (id : ℕ) × (entry_of rows id ≡ None) × (vault.bodies id ≢ [])

-- Why a body was not copied: one of the vaults failed, or the second had a body already for the new file.
abbrev pub BodyFails : List Entry → (source source' old new : VaultState) → Type 0
BodyFails rows source source' old new =
    Rose source.faults source'.faults ⊎ (Rose old.faults new.faults ⊎ (TellsBodies source → TellsBodies old → HasFreeBody rows old))

abbrev pub DiskFails : {S E V U : Type 0} → (E → DiskState) → (old new : BothClusters S E V U) → Type 0
DiskFails disk old new = Rose (disk old.backup.now).faults (disk new.backup.now).faults

abbrev pub VaultsFail : {S E V U : Type 0} → (V → VaultState) → (U → VaultState) → (old new : BothClusters S E V U) → Type 0
VaultsFail vault copies old new = BodyFails old.names.now.store.table.rows (vault old.vault.now) (vault new.vault.now) (copies old.copies.now) (copies new.copies.now)

-- The key management service was asked for the metadata of a key, and didn't refuse. This was its reply.
pub record KnowsKey {S : Type 0} (replies : S → KeyName → KmsReply → S → Type 0) (old : S) (key : KeyName) (new : S) : Type 0 where
  pub reply : KmsReply
  pub replied : replies old key reply new
  pub accepted : (why : KmsRefusal) → reply ≢ Refused why

-- ---- refusals

-- the key management service was asked for the metadata of a key, and this was its reply
abbrev pub RepliedTo : {S : Type 0} → (S → KeyName → KmsReply → S → Type 0) → S → S → KmsReply → Type 0
RepliedTo replies old new reply = (key : KeyName) × replies old key reply new

-- The namesystem refused an order of a user for a copy: a call, an ask, or to finish one. An ask for a zone was finished with a reply that was given.
pub data NamesRefuse (user : Text) (given : KmsReply → Type 0) (disk disk' : DiskState) (r r' : RunningNames) (why : FsEnd) : Type 0 where
  LookRefused : (path : NPath) → CallRefused disk disk' r r' user (info_at path) why → NamesRefuse user given disk disk' r r' why
  DirectoryRefused : (path : NPath) → CallRefused disk disk' r r' user (call.Mkdir path) why → NamesRefuse user given disk disk' r r' why
  ZoneAskRefused : (path : NPath) (key : KeyName) → AskRefused r r' user (ask.Zone path key) why → NamesRefuse user given disk disk' r r' why
  FileAskRefused : (path : NPath) → AskRefused r r' user (ask.Create path) why → NamesRefuse user given disk disk' r r' why
  ZoneRefused : (id : ℕ) (reply : KmsReply) → given reply → FinishRefused disk disk' r r' id (answer_of (Some reply)) why → NamesRefuse user given disk disk' r r' why
  FileRefused : (id : ℕ) (edek : Option Edek) → FinishRefused disk disk' r r' id (answer.Given edek) why → NamesRefuse user given disk disk' r r' why

-- Orders were done, and then the namesystem refused one.
pub record TargetRefuses {E : Type 0} (disk : E → DiskState) (user : Text) (given : KmsReply → Type 0) (old new : E) (r r' : RunningNames) (why : FsEnd) : Type 0 where
  pub mid : E
  pub names : RunningNames
  pub orders : OrdersNames (disk old) (disk mid) r names
  pub refused : NamesRefuse user given (disk mid) (disk new) names r' why

-- the source refused, or the namesystem that gets the copy did
abbrev pub PartsRefuse : {S E : Type 0} → (S → S → FsEnd → Type 0) → (S → KeyName → KmsReply → S → Type 0) → (E → DiskState) → (user : Text) (source source' : S) (old new : E) (r r' : RunningNames) → FsEnd → Type 0
PartsRefuse refuses replies disk user source source' old new r r' why = refuses source source' why ⊎ TargetRefuses disk user (RepliedTo replies source source') old new r r' why

abbrev pub BothRefuse : {S E V U : Type 0} → (S → S → FsEnd → Type 0) → (S → KeyName → KmsReply → S → Type 0) → (E → DiskState) → (old new : BothClusters S E V U) → FsEnd → Type 0
BothRefuse refuses replies disk old new why = PartsRefuse refuses replies disk old.user.now old.source.now new.source.now old.backup.now new.backup.now old.names.now new.names.now why
