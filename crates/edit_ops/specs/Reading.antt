-- Records read from left to right: each field, and the bytes after it.
use Rattle.std.specs.Prelude.{ℕ, Bool, zero, suc, nat_le, List, [], ◌∷◌, length, Option, Some, None, ◌==◌, if◌then◌else◌}
use Rattle.std.specs.Int.{w16, w32, w64}
use Rattle.hk_base.specs.Names.{Encrypted, Version}
use Rattle.name_calls.specs.Paths.{is_component, read_path, read_relative}
use Rattle.key_rows.specs.Reading.{◌>>=◌, number_at, bytes_at, short_at, long_at, name_of, material_of}
use Rattle.edit_ops.specs.declared.files.FileKey.{FileKey}
use Rattle.edit_ops.specs.declared.ops.EditOp.{EditOp}
use Rattle.edit_ops.specs.declared.ops.EditOp.TheVariants.{Opened, Mkdir, File, Remove, Rename, Zone, Allow, Disallow, Snap, Unsnap, Submit, Update, Cancel, Complete}

-- reads a value from the start of the bytes, if they begin with one: the value, and the bytes after it
abbrev pub Front : Type 0 → Type 0
Front X = List ℕ → Option (X × List ℕ)

-- reads all of the bytes as one value, if they are one
abbrev pub Whole : Type 0 → Type 0
Whole X = List ℕ → Option X

-- a value that fills a field at the start
abbrev pub front_of : {X : Type 0} → Front (List ℕ) → Whole X → Front X
front_of front whole bytes = do
  text ← front bytes
  x ← whole text.0
  Some (x, text.1)

-- a value with no bytes after it
abbrev pub last : {X : Type 0} → Front X → Whole X
last front bytes = do
  x ← front bytes
  if length x.1 == 0 then Some x.0 else None

-- a value, and the value that all bytes after it are
abbrev pub then_of : {X Y : Type 0} → Front X → Whole Y → Whole (X × Y)
then_of front whole bytes = do
  x ← front bytes
  y ← whole x.1
  Some (x.0, y)

abbrev pub as_of : {X Y : Type 0} → (X → Y) → Whole X → Whole Y
as_of see whole bytes = do
  x ← whole bytes
  Some (see x)

-- all of the bytes as one value that passes a test
abbrev pub checked : {X : Type 0} → (X → Bool) → Whole X → Whole X
checked test whole bytes = do
  x ← whole bytes
  if test x then Some x else None

-- a value, and another one after it
abbrev pub pair_at : {X Y : Type 0} → Front X → Front Y → Front (X × Y)
pair_at front next bytes = do
  x ← front bytes
  y ← next x.1
  Some ((x.0, y.0), y.1)

abbrev pub as_at : {X Y : Type 0} → (X → Y) → Front X → Front Y
as_at see front bytes = do
  x ← front bytes
  Some (see x.0, x.1)

-- as many values as that, one after the other
abbrev pub times_at : {X : Type 0} → Front X → ℕ → Front (List X)
times_at front zero bytes = Some ([], bytes)
times_at front (suc n) bytes = do
  x ← front bytes
  xs ← times_at front n x.1
  Some (x.0 ∷ xs.0, xs.1)

-- a byte 0, or a byte 1 and a value
abbrev pub opt_at : {X : Type 0} → Front X → Front (Option X)
opt_at front [] = None
opt_at front (tag ∷ bytes) = if tag == 0 then Some (None, bytes) else (if tag == 1 then as_at (λ x. Some x) front bytes else None)

-- a byte 0 alone, or a byte 1 and a value
abbrev pub opt_of : {X : Type 0} → Whole X → Whole (Option X)
opt_of whole [] = None
opt_of whole (tag ∷ bytes) =
    if tag == 0 then (if length bytes == 0 then Some None else None) else (if tag == 1 then as_of (λ x. Some x) whole bytes else None)

abbrev pub name_at : Front (List ℕ)
name_at = front_of short_at name_of

abbrev pub as_version : List ℕ × ℕ → Version
as_version x = record { key = x.0; number = x.1 }

-- all of the bytes, if they are a version of a key
unfoldable pub version_of : Whole Version
version_of bytes = as_of as_version (then_of name_at (last (number_at w16))) bytes

unfoldable pub path_at : Front (List (List ℕ))
path_at bytes = front_of long_at read_path bytes

-- all of the bytes, if they can be a name of a path
abbrev pub component_of : Whole (List ℕ)
component_of bytes = if is_component bytes then Some bytes else None

abbrev pub component_at : Front (List ℕ)
component_at = front_of long_at component_of

unfoldable pub path_and_name_of : Whole (List (List ℕ) × List ℕ)
path_and_name_of bytes = then_of path_at (last component_at) bytes

abbrev pub iv_of : Whole (List ℕ)
iv_of bytes = if length bytes == 16 then Some bytes else None

abbrev pub iv_at : Front (List ℕ)
iv_at = front_of (bytes_at 16) iv_of

abbrev pub sealed_at : Front (List ℕ)
sealed_at = front_of short_at material_of

abbrev pub encrypted : List ℕ × (ℕ × (List ℕ × List ℕ)) → Encrypted
encrypted x = record { version = record { key = x.0; number = x.1.0 }; iv = x.1.1.0; sealed = x.1.1.1 }

unfoldable pub edek_at : Front Encrypted
edek_at bytes = as_at encrypted (pair_at name_at (pair_at (number_at w16) (pair_at iv_at sealed_at))) bytes

unfoldable pub edek_of : Whole Encrypted
edek_of bytes = last edek_at bytes

unfoldable pub opt_edek_of : Whole (Option Encrypted)
opt_edek_of bytes = opt_of edek_of bytes

unfoldable pub opened_of : Whole EditOp
opened_of bytes = as_of Opened (last (number_at w32)) bytes

unfoldable pub mkdir_of : Whole EditOp
mkdir_of bytes = as_of (λ x. Mkdir x.0 x.1) (then_of (number_at w64) (last path_at)) bytes

unfoldable pub file_of : Whole EditOp
file_of bytes = as_of (λ x. File x.0 x.1.0 x.1.1) (then_of (number_at w64) (then_of path_at opt_edek_of)) bytes

unfoldable pub remove_of : Whole EditOp
remove_of bytes = as_of Remove (last path_at) bytes

unfoldable pub rename_of : Whole EditOp
rename_of bytes = as_of (λ x. Rename x.0 x.1) (then_of path_at (last path_at)) bytes

unfoldable pub zone_of : Whole EditOp
zone_of bytes = as_of (λ x. Zone x.0 x.1) (then_of path_at (last name_at)) bytes

unfoldable pub allow_of : Whole EditOp
allow_of bytes = as_of Allow (last path_at) bytes

unfoldable pub disallow_of : Whole EditOp
disallow_of bytes = as_of Disallow (last path_at) bytes

unfoldable pub snap_of : Whole EditOp
snap_of bytes = as_of (λ x. Snap x.0 x.1) path_and_name_of bytes

unfoldable pub unsnap_of : Whole EditOp
unsnap_of bytes = as_of (λ x. Unsnap x.0 x.1) path_and_name_of bytes

unfoldable pub submit_of : Whole EditOp
submit_of bytes = as_of (λ x. Submit x.0 x.1.0 x.1.1) (then_of (number_at w64) (then_of path_at version_of)) bytes

unfoldable pub mark_at : Front (List (List ℕ))
mark_at bytes = front_of long_at read_relative bytes

unfoldable pub opt_mark_at : Front (Option (List (List ℕ)))
opt_mark_at bytes = opt_at mark_at bytes

unfoldable pub file_key_at : Front FileKey
file_key_at bytes = as_at (λ x. record { id = x.0; edek = x.1 }) (pair_at (number_at w64) edek_at) bytes

-- all of the bytes, if they are that many files
abbrev pub files_of : ℕ → Whole (List FileKey)
files_of count = last (times_at file_key_at count)

-- all of the bytes, if they are the number of files, at most 1,000, and the files
unfoldable pub counted_of : Whole (List FileKey)
counted_of bytes = do
  count ← number_at w32 bytes
  files ← files_of count.0 count.1
  if nat_le (length files) 1000 then Some files else None

-- a session, a number of changed files and one of failed ones, a mark, and files
abbrev pub update_parts : Whole (ℕ × (ℕ × (ℕ × (Option (List (List ℕ)) × List FileKey))))
update_parts = then_of (number_at w64) (then_of (number_at w32) (then_of (number_at w32) (then_of opt_mark_at counted_of)))

-- as many files as changed
unfoldable pub update_of : Whole EditOp
update_of bytes = as_of (λ x. Update x.0 x.1.1.0 x.1.1.1.0 x.1.1.1.1) (checked (λ x. x.1.0 == length x.1.1.1.1) update_parts) bytes

unfoldable pub cancel_of : Whole EditOp
cancel_of bytes = as_of Cancel (last (number_at w64)) bytes

unfoldable pub complete_of : Whole EditOp
complete_of bytes = as_of Complete (last (number_at w64)) bytes

-- the operation of a record, by the record's first byte
unfoldable pub op_of : Whole EditOp
op_of [] = None
op_of (tag ∷ bytes) =
    if tag == 1 then opened_of bytes
    else (if tag == 2 then mkdir_of bytes
    else (if tag == 3 then file_of bytes
    else (if tag == 4 then remove_of bytes
    else (if tag == 5 then rename_of bytes
    else (if tag == 6 then zone_of bytes
    else (if tag == 7 then allow_of bytes
    else (if tag == 8 then disallow_of bytes
    else (if tag == 9 then snap_of bytes
    else (if tag == 10 then unsnap_of bytes
    else (if tag == 11 then submit_of bytes
    else (if tag == 12 then update_of bytes
    else (if tag == 13 then cancel_of bytes
    else (if tag == 14 then complete_of bytes else None)))))))))))))
