-- Records are read from left to right: each field, and the bytes after it.
use Rattle.std.specs.Prelude.{◌≡◌, ℕ, List, [], ◌∷◌, length, take, drop, Option, Some, None, Result, Ok, Err, nat_lt, ◌==◌, if◌then◌else◌, option_and_then}
use Rattle.std.specs.Int.{Width, w16, w32, w64, byte_len, from_be_bytes}
use Rattle.std.specs.Str.{is_utf8}
use Rattle.hk_base.specs.Names.{is_key_name, is_key_length}
use Rattle.hk_base.specs.declared.records.RecordFault.{RecordFault}
use Rattle.hk_base.specs.declared.records.RecordFault.TheVariants.{NoRecord, NoMemory}
use Rattle.key_rows.specs.declared.rows.KeyCommand.{KeyCommand}
use Rattle.key_rows.specs.declared.rows.KeyCommand.TheVariants.{Opened, Create, Roll, Delete}
use Rattle.key_rows.specs.Records.{fits_bits}

infixl 10 ◌>>=◌
abbrev pub ◌>>=◌ : {A B : Type 0} → Option A → (A → Option B) → Option B
o >>= f = option_and_then f o

-- the result of a function, seen by `view`, is what reading gives, unless memory ran out
abbrev pub FailsToRead : {Y : Type 0} → RecordFault → Option Y → Type 0
FailsToRead NoRecord read = read ≡ None
FailsToRead NoMemory read = Unit {0}

abbrev pub GivesRecord : {X Y : Type 0} → (X → Y) → Result X RecordFault → Option Y → Type 0
GivesRecord view (Ok x) read = read ≡ Some (view x)
GivesRecord view (Err fault) read = FailsToRead fault read

abbrev pub number_at : Width → List ℕ → Option (ℕ × List ℕ)
number_at w bytes = if nat_lt (length bytes) (byte_len w) then None else Some (from_be_bytes w (take (byte_len w) bytes), drop (byte_len w) bytes)

abbrev pub bytes_at : ℕ → List ℕ → Option (List ℕ × List ℕ)
bytes_at n bytes = if nat_lt (length bytes) n then None else Some (take n bytes, drop n bytes)

-- a byte with the length, and as many bytes
unfoldable pub short_at : List ℕ → Option (List ℕ × List ℕ)
short_at [] = None
short_at (len ∷ bytes) = bytes_at len bytes

-- two bytes with the length, and as many bytes
unfoldable pub long_at : List ℕ → Option (List ℕ × List ℕ)
long_at bytes = do
  len ← number_at w16 bytes
  bytes_at len.0 len.1

-- all of the bytes, if they are a name, and if they are a text
abbrev pub name_of : List ℕ → Option (List ℕ)
name_of bytes = if is_key_name bytes then Some bytes else None

abbrev pub text_of : List ℕ → Option (List ℕ)
text_of bytes = if is_utf8 bytes then Some bytes else None

-- all of the bytes, if they are material, and if they are material of this number of bits
abbrev pub material_of : List ℕ → Option (List ℕ)
material_of bytes = if is_key_length (length bytes) then Some bytes else None

abbrev pub material_of_bits : ℕ → List ℕ → Option (List ℕ)
material_of_bits bits bytes = if fits_bits bits bytes then Some bytes else None

-- a number that ends the record
abbrev pub last_number : Width → List ℕ → Option ℕ
last_number w bytes = do
  number ← number_at w bytes
  if length number.1 == 0 then Some number.0 else None

unfoldable pub create_at : List ℕ → Option KeyCommand
create_at bytes = do
  birth ← number_at w64 bytes
  named ← short_at birth.1
  name ← name_of named.0
  bits ← number_at w16 named.1
  described ← long_at bits.1
  description ← text_of described.0
  created ← number_at w64 described.1
  material ← material_of_bits bits.0 created.1
  Some (Create birth.0 name bits.0 description created.0 material)

unfoldable pub roll_at : List ℕ → Option KeyCommand
roll_at bytes = do
  birth ← number_at w64 bytes
  number ← number_at w16 birth.1
  material ← material_of number.1
  Some (Roll birth.0 number.0 material)

unfoldable pub opened_at : List ℕ → Option KeyCommand
opened_at bytes = do
  opening ← last_number w32 bytes
  Some (Opened opening)

unfoldable pub delete_at : List ℕ → Option KeyCommand
delete_at bytes = do
  birth ← last_number w64 bytes
  Some (Delete birth)

-- the command of a record, by the record's first byte
unfoldable pub command_at : List ℕ → Option KeyCommand
command_at [] = None
command_at (tag ∷ bytes) =
    if tag == 1 then opened_at bytes
    else (if tag == 2 then create_at bytes
    else (if tag == 3 then roll_at bytes
    else (if tag == 4 then delete_at bytes else None)))
