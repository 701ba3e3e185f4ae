-- The version of a key that a text names, `key@number`.
use Rattle.std.specs.Prelude.{ℕ, ◌^◌, ◌&&◌, nat_lt, List, decimal, Option, Some, None, option_map, if◌then◌else◌}
use Rattle.std.specs.List.{after_first, before_first}
use Rattle.std.specs.Str.{bytes_eq}
use Rattle.std.specs.Str.Parse.{digits_value}
use Rattle.hk_base.specs.Names.{Version, is_at_sign, is_key_name}

-- the number below 2^16 whose one decimal text is these digits
abbrev pub number_named : List ℕ → Option ℕ
number_named digits =
    if nat_lt (digits_value 10 digits) (2 ^ 16) && bytes_eq (decimal (digits_value 10 digits)) digits
    then Some (digits_value 10 digits) else None

abbrev pub version_of : List ℕ → ℕ → Version
version_of key number = record { key = key; number = number }

-- the key's name is before the first `@`, and the number after it
abbrev pub version_named : List ℕ → Option Version
version_named text =
    if is_key_name (before_first is_at_sign text)
    then option_map (version_of (before_first is_at_sign text)) (number_named (after_first is_at_sign text))
    else None
