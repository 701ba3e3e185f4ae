-- The records of the edit log: the one spelling of each operation. Numbers are big-endian.
use Rattle.std.specs.Prelude.{◌≡◌, ℕ, ◌<◌, ◌≤◌, ◌^◌, Bool, true, not, ◌&&◌, List, [], ◌∷◌, ◌++◌, length, Option, Some, None, IsTrue}
use Rattle.std.specs.List.{AllByRecursion}
use Rattle.std.specs.Int.{w16, w32, w64, to_be_bytes}
use Rattle.hk_base.specs.Names.{Encrypted, Version, IsKeyName, is_key_length}
use Rattle.name_calls.specs.Paths.{is_absolute, is_component, is_relative, path_text, starts_reserved}
use Rattle.key_rows.specs.Records.{name_field, text_field}
use Rattle.edit_ops.specs.declared.files.FileKey.{FileKey}
use Rattle.edit_ops.specs.declared.ops.EditOp.{EditOp}
use Rattle.edit_ops.specs.declared.ops.EditOp.TheVariants.{Opened, Mkdir, File, Remove, Rename, Zone, Allow, Disallow, Snap, Unsnap, Submit, Update, Cancel, Complete}

-- a path: two bytes of length and the text of the path
abbrev pub path_field : List (List ℕ) → List ℕ
path_field path = text_field (path_text path)

-- a version of a key: the name of the key with one byte of length, and the version's number
abbrev pub version_field : Version → List ℕ
version_field version = name_field version.key ++ to_be_bytes w16 version.number

-- an encrypted data encryption key: the name of its key with one byte of length, the version's number, the
-- initialization vector, and the sealed bytes with one byte of length
abbrev pub edek_field : Encrypted → List ℕ
edek_field edek = name_field edek.version.key ++ (to_be_bytes w16 edek.version.number ++ (edek.iv ++ name_field edek.sealed))

-- an optional value: a byte 0, or a byte 1 and the value
abbrev pub opt_field : {X : Type 0} → (X → List ℕ) → Option X → List ℕ
opt_field field None = 0 ∷ []
opt_field field (Some x) = 1 ∷ field x

-- values one after the other
abbrev pub list_field : {X : Type 0} → (X → List ℕ) → List X → List ℕ
list_field field [] = []
list_field field (x ∷ xs) = field x ++ list_field field xs

-- a file: its id and its encrypted key
abbrev pub file_field : FileKey → List ℕ
file_field file = to_be_bytes w64 file.id ++ edek_field file.edek

abbrev pub files_field : List FileKey → List ℕ
files_field = list_field file_field

-- files after four bytes with their number
abbrev pub counted_field : List FileKey → List ℕ
counted_field files = to_be_bytes w32 (length files) ++ files_field files

-- The bytes of an operation. An update has the number of its files twice.
abbrev pub spelling : EditOp → List ℕ
spelling (Opened opening) = 1 ∷ to_be_bytes w32 opening
spelling (Mkdir id path) = 2 ∷ (to_be_bytes w64 id ++ path_field path)
spelling (File id path edek) = 3 ∷ (to_be_bytes w64 id ++ (path_field path ++ opt_field edek_field edek))
spelling (Remove path) = 4 ∷ path_field path
spelling (Rename path to) = 5 ∷ (path_field path ++ path_field to)
spelling (Zone path key) = 6 ∷ (path_field path ++ name_field key)
spelling (Allow path) = 7 ∷ path_field path
spelling (Disallow path) = 8 ∷ path_field path
spelling (Snap path name) = 9 ∷ (path_field path ++ text_field name)
spelling (Unsnap path name) = 10 ∷ (path_field path ++ text_field name)
spelling (Submit session path noted) = 11 ∷ (to_be_bytes w64 session ++ (path_field path ++ version_field noted))
spelling (Update session failed mark files) =
    12 ∷ (to_be_bytes w64 session ++ (to_be_bytes w32 (length files) ++ (to_be_bytes w32 failed ++ (opt_field path_field mark ++ counted_field files))))
spelling (Cancel session) = 13 ∷ to_be_bytes w64 session
spelling (Complete session) = 14 ∷ to_be_bytes w64 session

-- no path of an operation begins with `.reserved`, but for the mark of an update, which is no path from the root; and a snapshot's name can be a name of a path
abbrev pub fits : EditOp → Bool
fits (Opened opening) = true
fits (Mkdir id path) = not (starts_reserved path)
fits (File id path edek) = not (starts_reserved path)
fits (Remove path) = not (starts_reserved path)
fits (Rename path to) = not (starts_reserved path) && not (starts_reserved to)
fits (Zone path key) = not (starts_reserved path)
fits (Allow path) = not (starts_reserved path)
fits (Disallow path) = not (starts_reserved path)
fits (Snap path name) = not (starts_reserved path) && is_component name
fits (Unsnap path name) = not (starts_reserved path) && is_component name
fits (Submit session path noted) = not (starts_reserved path)
fits (Update session failed mark files) = true
fits (Cancel session) = true
fits (Complete session) = true

-- a key's name, and a number below 65,536
pub record IsKeyVersion (version : Version) : Type 0 where
  pub key : IsKeyName version.key
  pub number : version.number < 2 ^ 16

-- a key's name, a number below 65,536, 16 bytes, and 16, 24 or 32 bytes
pub record IsEdek (edek : Encrypted) : Type 0 where
  pub key : IsKeyName edek.version.key
  pub number : edek.version.number < 2 ^ 16
  pub iv : length edek.iv ≡ 16
  pub sealed : IsTrue (is_key_length (length edek.sealed))

abbrev pub IsOpt : {X : Type 0} → (X → Type 0) → Option X → Type 0
IsOpt Is None = Unit {0}
IsOpt Is (Some x) = Is x

pub record IsFileKey (file : FileKey) : Type 0 where
  pub id : file.id < 2 ^ 64
  pub edek : IsEdek file.edek

-- Which operations have a spelling: each number is in its range, and paths, names and keys keep their rules.
abbrev pub HasSpelling : EditOp → Type 0
HasSpelling (Opened opening) = opening < 2 ^ 32
HasSpelling (Mkdir id path) = (id < 2 ^ 64) × IsTrue (is_absolute path)
HasSpelling (File id path edek) = (id < 2 ^ 64) × IsTrue (is_absolute path) × IsOpt IsEdek edek
HasSpelling (Remove path) = IsTrue (is_absolute path)
HasSpelling (Rename path to) = IsTrue (is_absolute path) × IsTrue (is_absolute to)
HasSpelling (Zone path key) = IsTrue (is_absolute path) × IsKeyName key
HasSpelling (Allow path) = IsTrue (is_absolute path)
HasSpelling (Disallow path) = IsTrue (is_absolute path)
HasSpelling (Snap path name) = IsTrue (is_absolute path) × IsTrue (is_component name)
HasSpelling (Unsnap path name) = IsTrue (is_absolute path) × IsTrue (is_component name)
HasSpelling (Submit session path noted) = (session < 2 ^ 64) × IsTrue (is_absolute path) × IsKeyVersion noted
HasSpelling (Update session failed mark files) =
    (session < 2 ^ 64) × (failed < 2 ^ 32) × IsOpt (λ p. IsTrue (is_relative p)) mark × (length files ≤ 1000) × AllByRecursion IsFileKey files
HasSpelling (Cancel session) = session < 2 ^ 64
HasSpelling (Complete session) = session < 2 ^ 64
