-- The body of a new file is put, and a range of the body of a file is read.
use Rattle.std.specs.Prelude.{◌≡◌, ◌≢◌, ◌⊎◌, ℕ, List, [], Option, None, Some, Result, Ok, Err}
use Rattle.hk_base.specs.Faults.{Rose}
use Rattle.body_stream.specs.Transfers.{PutsBody, PutsInPart, ReadsBody, ReadsInPart}
use Rattle.body_stream.specs.Vaults.{KeepsBodies, TellsBodies, VaultState}
use Rattle.body_stream.specs.declared.faults.BodyFault.{BodyFault}
use Rattle.file_orders.specs.declared.ends.FsEnd.{FsEnd}
use Rattle.file_orders.specs.declared.ends.FsEnd.TheVariants as end
use Rattle.file_orders.specs.declared.open.OpenFile.{OpenFile}
use Rattle.file_orders.specs.Ends.{end_of_body}
use Rattle.file_orders.specs.Events.{Leading}
use Rattle.file_orders.specs.Opening.{CreatesFile, OpensFile}

-- the input was put as the body of the file, to its end
pub record PutWhole (file : OpenFile) (how : FsEnd) (left left' : Option (List ℕ)) (old new : VaultState) : Type 0 where
  pub count : ℕ
  pub how_is : how ≡ end.Put count
  pub puts : PutsBody file.key file.id count left left' old new

-- a fault ended it, and the body is a prefix
pub record PutCut (file : OpenFile) (how : FsEnd) (left left' : Option (List ℕ)) (old new : VaultState) : Type 0 where
  pub fault : BodyFault
  pub how_is : how ≡ end_of_body fault
  pub puts : PutsInPart file.key file.id left left' old new

-- a vault that has a body under some id
abbrev pub HadBody : VaultState → Type 0
HadBody vault = (id : ℕ) × (vault.bodies id ≢ [])

-- nothing was put: the size of the body could not be read, or the vault had a body for the new file
pub record NotPut (file : OpenFile) (how : FsEnd) (left left' : Option (List ℕ)) (old new : VaultState) : Type 0 where
  pub how_is : how ≡ end.VaultFault
  pub unread : left' ≡ left
  pub keeps : KeepsBodies old new
  pub cause : Rose old.faults new.faults ⊎ (TellsBodies old → old.bodies file.id ≢ [])

abbrev pub StoresFile : OpenFile → FsEnd → Option (List ℕ) → Option (List ℕ) → VaultState → VaultState → Type 0
StoresFile file how left left' old new = PutWhole file how left left' old new ⊎ (PutCut file how left left' old new ⊎ NotPut file how left left' old new)

-- neither the input nor the vault was used
pub record UntouchedBody (left left' : Option (List ℕ)) (old new : VaultState) : Type 0 where
  pub unread : left' ≡ left
  pub same : new ≡ old

abbrev pub Stores : Result OpenFile FsEnd → FsEnd → Option (List ℕ) → Option (List ℕ) → VaultState → VaultState → Type 0
Stores (Err why) how left left' old new = (how ≡ why) × UntouchedBody left left' old new
Stores (Ok file) how left left' old new = StoresFile file how left left' old new

-- the new file is opened, and its body is put, unless it was not made
abbrev pub PutsUnless : {X : Type 0} → Option FsEnd → Leading X → List ℕ → List ℕ → X → FsEnd → X → Option (List ℕ) → Option (List ℕ) → VaultState → VaultState → Type 0
PutsUnless (Some why) leads user path a how b left left' old new = (how ≡ why) × (b ≡ a) × UntouchedBody left left' old new
PutsUnless None leads user path a how b left left' old new = (opened : Result OpenFile FsEnd) × OpensFile leads user path a opened b × Stores opened how left left' old new

-- A user puts a file at a path: it is made, and then opened, and its body is put. A refusal ends it.
pub record Puts {X : Type 0} (leads : Leading X) (user path : List ℕ) (a : X) (how : FsEnd) (b : X) (left left' : Option (List ℕ)) (old new : VaultState) : Type 0 where
  pub mid : X
  pub made : Option FsEnd
  pub makes : CreatesFile leads user path a made mid
  pub puts : PutsUnless made leads user path mid how b left left' old new

-- the range was written
pub record SentWhole (file : OpenFile) (from count : ℕ) (how : FsEnd) (vault : VaultState) (written now : Option (List ℕ)) : Type 0 where
  pub sent : ℕ
  pub how_is : how ≡ end.Read sent
  pub reads : ReadsBody file.key file.id from count sent vault written now

-- a fault ended it, and a prefix of the range was written
pub record SentCut (file : OpenFile) (from count : ℕ) (how : FsEnd) (vault : VaultState) (written now : Option (List ℕ)) : Type 0 where
  pub fault : BodyFault
  pub how_is : how ≡ end_of_body fault
  pub reads : ReadsInPart file.key file.id from count vault written now

abbrev pub Sends : ℕ → ℕ → Result OpenFile FsEnd → FsEnd → VaultState → VaultState → Option (List ℕ) → Option (List ℕ) → Type 0
Sends from count (Err why) how old new written now = (how ≡ why) × (now ≡ written) × (new ≡ old)
Sends from count (Ok file) how old new written now = (SentWhole file from count how old written now ⊎ SentCut file from count how old written now) × KeepsBodies old new

-- A user reads a range of the file at a path: it is opened, and then the range is written.
pub record ReadsRange {X : Type 0} (leads : Leading X) (user path : List ℕ) (from count : ℕ) (a : X) (how : FsEnd) (b : X) (old new : VaultState) (written now : Option (List ℕ)) : Type 0 where
  pub opened : Result OpenFile FsEnd
  pub opens : OpensFile leads user path a opened b
  pub sends : Sends from count opened how old new written now
