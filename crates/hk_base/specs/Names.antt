-- Names of keys and of key versions, keys and encrypted keys, as bytes.
use Rattle.std.specs.Prelude.{ℕ, ◌-◌, ◌&&◌, ◌||◌, ◌==◌, nat_le, nat_lt, Bool, List, ◌++◌, codes, length, replicate, IsTrue}
use Rattle.std.specs.List.{list_all}
use Rattle.std.specs.Fmt.{decimal}

-- the byte is a letter, a digit, '.', '_' or '-'
abbrev pub is_name_byte : ℕ → Bool
is_name_byte b = (nat_le 97 b && nat_le b 122) || (nat_le 65 b && nat_le b 90) || (nat_le 48 b && nat_le b 57) || b == 46 || b == 95 || b == 45

-- 1 to 64 bytes of these
abbrev pub is_key_name : List ℕ → Bool
is_key_name bytes = nat_lt 0 (length bytes) && nat_le (length bytes) 64 && list_all is_name_byte bytes

abbrev pub IsKeyName : List ℕ → Type 0
IsKeyName bytes = IsTrue (is_key_name bytes)

-- a key has 16, 24 or 32 bytes
abbrev pub is_key_length : ℕ → Bool
is_key_length n = n == 16 || n == 24 || n == 32

-- the bytes, padded with zeros to length n
abbrev pub padded : ℕ → List ℕ → List ℕ
padded n bytes = bytes ++ replicate (n - length bytes) 0

-- a version of a key: the key's name, and its number from 0
pub record Version : Type 0 where
  pub key : List ℕ
  pub number : ℕ

-- an encrypted data encryption key: the version that sealed it, the initialization vector, and the sealed bytes
pub record Encrypted : Type 0 where
  pub version : Version
  pub iv : List ℕ
  pub sealed : List ℕ

abbrev pub is_at_sign : ℕ → Bool
is_at_sign b = b == 64

-- the one text of a version, `key@number`
abbrev pub version_text : List ℕ → ℕ → List ℕ
version_text key number = key ++ codes "@" ++ decimal number
