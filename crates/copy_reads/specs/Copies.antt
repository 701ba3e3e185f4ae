-- A range of a file of a copy is read.
use Rattle.std.specs.Prelude.{◌≡◌, ◌⊎◌, ℕ, ⊤, true, List, [], Option, None, Some, Result, Ok, Err}
use Rattle.body_stream.specs.Vaults.{VaultState}
use Rattle.inode_tree.specs.Rows.{Entry, is_dir_at, row_at}
use Rattle.kms_calls.specs.declared.calls.KmsRefusal.{KmsRefusal}
use Rattle.name_calls.specs.Paths.{read_path}
use Rattle.name_calls.specs.declared.calls.NameRefusal.{NameRefusal}
use Rattle.name_calls.specs.declared.calls.NameRefusal.TheVariants as refusal
use Rattle.name_calls.specs.declared.calls.NameReply.TheVariants as reply
use Rattle.name_core.specs.Service.{NameServes}
use Rattle.name_core.specs.State.{RunningNames, service_of}
use Rattle.file_orders.specs.Bodies.{Sends}
use Rattle.file_orders.specs.Ends.{IsFailure, end_of_names}
use Rattle.file_orders.specs.Events.{Leading}
use Rattle.file_orders.specs.Opening.{OpensShown}
use Rattle.file_orders.specs.declared.ends.FsEnd.{FsEnd}
use Rattle.file_orders.specs.declared.ends.FsEnd.TheVariants as end
use Rattle.file_orders.specs.declared.open.OpenFile.{OpenFile}
use Rattle.file_orders.specs.declared.open.ShownFile.{ShownFile}
use Rattle.backup_names.specs.Ends.{row_shown}
use Rattle.backup_names.specs.Refusals.{info_at}

-- the file is at the path in these rows
pub record IsCopyAt (rows : List Entry) (path : List ℕ) (file : ShownFile) : Type 0 where
  pub place : List (List ℕ)
  pub is_place : read_path path ≡ Some place
  pub at : row_at rows place ≡ Some (row_shown file)

-- a directory is at the path in these rows
pub record IsDirectoryAt (rows : List Entry) (path : List ℕ) : Type 0 where
  pub place : List (List ℕ)
  pub is_place : read_path path ≡ Some place
  pub at : is_dir_at (row_at rows place) ≡ true

-- The second namesystem refused a user the row at the path, and this is the end by its refusal. The disk had no fault, and nothing changed.
pub record RowRefused (r : RunningNames) (user path : List ℕ) (why : FsEnd) : Type 0 where
  pub place : List (List ℕ)
  pub is_place : read_path path ≡ Some place
  pub refused : NameRefusal
  pub serves : NameServes (service_of r) user (info_at place) ⊥ (reply.Refused refused) [] (service_of r)
  pub why_is : why ≡ end_of_names refused

-- the path is none, and this is the end by that
abbrev pub IsNoPath : List ℕ → FsEnd → Type 0
IsNoPath path why = (read_path path ≡ None) × (why ≡ end.NameRefused refusal.BadPath)

-- By what a read of a copy was refused: the path is none, the second namesystem refused the row at it, or a directory is there. Of the
-- other ends nothing is said.
abbrev pub CauseOfRead : RunningNames → (user path : List ℕ) → FsEnd → Type 0
CauseOfRead r user path (end.NameRefused refused) = IsNoPath path (end.NameRefused refused) ⊎ RowRefused r user path (end.NameRefused refused)
CauseOfRead r user path end.Directory = IsDirectoryAt r.store.table.rows path
CauseOfRead r user path _ = ⊤

-- No file is found, and this end says why. It is neither a fault of the disk nor a refusal of the key management service.
pub record FindsNone (rows : List Entry) (path : List ℕ) (why : FsEnd) : Type 0 where
  pub failure : IsFailure why
  pub no_fault : why ≡ end.StoreFault → ⊥
  pub no_key : (refused : KmsRefusal) → why ≡ end.KeyRefused refused → ⊥
  pub bad : read_path path ≡ None → why ≡ end.NameRefused refusal.BadPath
  pub directory : why ≡ end.Directory → IsDirectoryAt rows path

abbrev pub FindsCopy : List Entry → List ℕ → Result ShownFile FsEnd → Type 0
FindsCopy rows path (Ok file) = IsCopyAt rows path file
FindsCopy rows path (Err why) = FindsNone rows path why

-- A user reads a range of the file at a path in these rows of the second namesystem: it is found, then its key is decrypted by an event
-- if it has one, and then the range of the body under its id is written.
pub record ReadsCopy {X : Type 0} (leads : Leading X) (rows : List Entry) (user path : List ℕ) (from count : ℕ) (a : X) (how : FsEnd) (b : X) (old new : VaultState) (written now : Option (List ℕ)) : Type 0 where
  pub found : Result ShownFile FsEnd
  pub finds : FindsCopy rows path found
  pub opened : Result OpenFile FsEnd
  pub opens : OpensShown leads user found a opened b
  pub sends : Sends from count opened how old new written now
