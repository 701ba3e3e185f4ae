-- Bytes as base64 text, as in RFC 4648: in the standard or the URL-safe alphabet, with or without padding.
use Rattle.std.specs.Prelude.{◌≡◌, ◌⊎◌, ℕ, List, Option}
use Rattle.std.specs.Option.{option_or}
use Rattle.std.specs.Result.{result_ok}
use Rattle.base64.specs.GeneralPurpose.{decode_of, encode_of}
use Rattle.base64.specs.Engines.{standard, standard_no_pad, url_safe, url_safe_no_pad}

-- the text is the base64 of the bytes, in one alphabet, without spare bits after the last byte
abbrev pub IsBase64 : List ℕ → List ℕ → Type 0
IsBase64 text bytes =
    (text ≡ encode_of url_safe_no_pad bytes) ⊎ ((text ≡ encode_of url_safe bytes)
    ⊎ ((text ≡ encode_of standard_no_pad bytes) ⊎ (text ≡ encode_of standard bytes)))

-- the bytes of a base64 text, by the strict decoder of each of the four forms
abbrev pub base64_bytes : List ℕ → Option (List ℕ)
base64_bytes text =
    option_or (result_ok (decode_of url_safe_no_pad text))
    (option_or (result_ok (decode_of url_safe text))
    (option_or (result_ok (decode_of standard_no_pad text)) (result_ok (decode_of standard text))))
