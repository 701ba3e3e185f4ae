-- What the fields of a request say about its body and the connection (RFC 9112, sections 6 and 9).
use Rattle.std.specs.Prelude.{ℕ, List, [], ◌∷◌, Bool, ◌&&◌, ◌==◌, not, nat_lt, nat_le, length, map, filter, codes, if◌then◌else◌, Option, None, Some, Result, Ok, Err}
use Rattle.std.specs.List.{list_any, list_all}
use Rattle.std.specs.Char.{is_ascii_digit}
use Rattle.std.specs.Str.{str_eq_ignore_ascii_case}
use Rattle.std.specs.Str.Parse.{digits_value}
use Rattle.httparse.specs.Grammar.{RequestHead}
use Rattle.httparse.specs.Spans.{name_and_value}
use Rattle.http_wire.specs.declared.faults.WireFault.{WireFault}
use Rattle.http_wire.specs.declared.faults.WireFault.TheVariants.{Chunked, BadLength, BodyTooLong}

-- the fields of a head, each with its name and its value
abbrev pub fields_of : RequestHead → List (List ℕ × List ℕ)
fields_of h = map name_and_value h.fields

-- the field has this name, in any case
unfoldable pub is_named : List ℕ → List ℕ × List ℕ → Bool
is_named name field = str_eq_ignore_ascii_case field.0 name

-- the values of the fields of this name
abbrev pub values : List ℕ → List (List ℕ × List ℕ) → List (List ℕ)
values name fields = map (λ (field : List ℕ × List ℕ). field.1) (filter (is_named name) fields)

-- 1 to 19 decimal digits
unfoldable pub is_number : List ℕ → Bool
is_number value = nat_lt 0 (length value) && nat_le (length value) 19 && list_all is_ascii_digit value

-- the number that the digits write
abbrev pub number_of : List ℕ → ℕ
number_of value = digits_value 10 value

-- the value is this number
abbrev pub says : ℕ → List ℕ → Bool
says n value = is_number value && number_of value == n

-- the number on which all values agree, or 0 if there are none
abbrev pub agreed : List (List ℕ) → Option ℕ
agreed [] = Some 0
agreed (value ∷ more) = if list_all (says (number_of value)) (value ∷ more) then Some (number_of value) else None

-- the number after one more value, if they agree
abbrev pub joined : Option ℕ → List ℕ → Option ℕ
joined None value = if is_number value then Some (number_of value) else None
joined (Some n) value = if says n value then Some n else None

-- a body has at most 4,194,304 bytes
abbrev pub sized : Option ℕ → Result ℕ WireFault
sized None = Err BadLength
sized (Some n) = if nat_lt 4194304 n then Err BodyTooLong else Ok n

-- the length of the body in bytes, or why it is not read
unfoldable pub body_length : List (List ℕ × List ℕ) → Result ℕ WireFault
body_length fields =
    if list_any (is_named (codes "transfer-encoding")) fields then Err Chunked else
    sized (agreed (values (codes "content-length") fields))

-- the field asks to close the connection
unfoldable pub is_close : List ℕ × List ℕ → Bool
is_close field = is_named (codes "connection") field && str_eq_ignore_ascii_case field.1 (codes "close")

-- the connection is kept: HTTP/1.1, and no field asks to close it
abbrev pub keeps : ℕ → List (List ℕ × List ℕ) → Bool
keeps minor fields = minor == 1 && not (list_any is_close fields)
