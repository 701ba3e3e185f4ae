-- Properties of what a delivery changes.
use Rattle.std.specs.Prelude.{◌≡◌, ◌≢◌, ◌↔◌, ◌⊎◌, ℕ, ◌+◌, Bool, true, not, ◌&&◌, ◌==◌, List, [], ◌∷◌, length, Some}
use Rattle.std.specs.List.{list_any}
use Rattle.hk_base.specs.Names.{Encrypted}
use Rattle.edit_ops.specs.declared.files.FileKey.{FileKey}
use Rattle.inode_tree.specs.Rows.{Entry, entry_of, zone_id}
use Rattle.inode_tree.specs.ZoneFiles.{edek_of}
use Rattle.reenc_walk.specs.declared.sent.Sent.{Sent}
use Rattle.reenc_update.specs.Changes.{changes_of}
use Rattle.reenc_update.specs.Replies.{FitsSent}
use Rattle.reenc_update.specs.declared.reply.BatchResult.{BatchResult}
use Rattle.reenc_update.specs.declared.reply.BatchResult.TheVariants.{Ready}

-- x is in the list
abbrev pub In : {X : Type 0} → X → List X → Type 0
In x [] = ⊥
In x (y ∷ ys) = (x ≡ y) ⊎ In x ys

-- no number comes twice
abbrev pub once_by : {X : Type 0} → (X → ℕ) → List X → Bool
once_by see [] = true
once_by see (x ∷ xs) = not (list_any (λ y. see y == see x) xs) && once_by see xs

-- this encrypted key came back for this file
abbrev pub CameFor : List Sent → List Encrypted → Sent → Encrypted → Type 0
CameFor [] edeks file edek = ⊥
CameFor (x ∷ xs) [] file edek = ⊥
CameFor (x ∷ xs) (e ∷ es) file edek = ((file ≡ x) × (edek ≡ e)) ⊎ CameFor xs es file edek

-- the file with this id lies in the zone, and has this encrypted key
pub record HasInZone (rows : List Entry) (zone id : ℕ) (edek : Encrypted) : Type 0 where
  pub entry : Entry
  pub stands : entry_of rows id ≡ Some entry
  pub lies : zone_id rows entry.path ≡ Some zone
  pub has : edek_of entry.row.kind ≡ Some edek

-- the file was sent, it is still in the zone with the encrypted key that was sent, and this other one came back
pub record IsDelivered (rows : List Entry) (zone : ℕ) (sent : List Sent) (edeks : List Encrypted) (f : FileKey) : Type 0 where
  pub file : Sent
  pub came : CameFor sent edeks file f.edek
  pub id : file.id ≡ f.id
  pub still : HasInZone rows zone f.id file.edek
  pub another : f.edek ≢ file.edek

-- exactly those files change
abbrev pub ChangedExactly : Type 0
ChangedExactly = (rows : List Entry) (zone : ℕ) (sent : List Sent) (edeks : List Encrypted) (f : FileKey) → In f (changes_of rows zone sent (Ready edeks)).files ↔ IsDelivered rows zone sent edeks f

-- each file of the batch is changed, skipped or failed
abbrev pub EachIsCounted : Type 0
EachIsCounted =
    (rows : List Entry) (zone : ℕ) (sent : List Sent) (r : BatchResult)
    → length (changes_of rows zone sent r).files + (changes_of rows zone sent r).skipped + (changes_of rows zone sent r).failed ≡ length sent

-- if no file was sent twice, none changes twice
abbrev pub IdsStayOnce : Type 0
IdsStayOnce =
    (rows : List Entry) (zone : ℕ) (sent : List Sent) (r : BatchResult) → once_by (λ x. x.id) sent ≡ true → once_by (λ f. f.id) (changes_of rows zone sent r).files ≡ true

-- a new encrypted key is of the same key as the one that the file has
abbrev pub KeysStayTheSame : Type 0
KeysStayTheSame =
    (rows : List Entry) (zone : ℕ) (sent : List Sent) (r : BatchResult) (f : FileKey) (e : Entry) (edek : Encrypted) → FitsSent sent r → In f (changes_of rows zone sent r).files
    → entry_of rows f.id ≡ Some e → edek_of e.row.kind ≡ Some edek → f.edek.version.key ≡ edek.version.key
