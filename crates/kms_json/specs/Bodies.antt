-- The meaning of a body: a call of the key management service, or the first fault of its members.
use Rattle.std.specs.Prelude.{◌≡◌, ℕ, nat_le, List, [], ◌∷◌, length, Option, None, Some, option_and_then, is_some, Result, Ok, Err, codes, if◌then◌else◌, IsUtf8, ⊤}
use Rattle.std.specs.Option.{ok_or}
use Rattle.std.specs.Str.{bytes_eq}
use Rattle.serde_json.specs.Data.{Data, Items, no_items, item}
use Rattle.serde_json.specs.Read.{read}
use Rattle.serde_json.specs.Find.{as_array, as_number, as_object, as_u64}
use Rattle.hk_base.specs.Names.{Version, is_key_name}
use Rattle.kms_calls.specs.declared.calls.KmsCall.{KmsCall}
use Rattle.kms_calls.specs.declared.calls.KmsCall.TheVariants as call
use Rattle.kms_calls.specs.declared.calls.RawEdek.{RawEdek}
use Rattle.kms_json.specs.declared.faults.JsonFault.{JsonFault}
use Rattle.kms_json.specs.declared.faults.JsonFault.TheVariants as fault
use Rattle.kms_json.specs.declared.faults.Member.{Member}
use Rattle.kms_json.specs.declared.faults.Member.TheVariants as of
use Rattle.kms_json.specs.declared.eek.EekBody.{EekBody}
use Rattle.kms_json.specs.Members.{and_then, given, given_bytes, needed, needed_bytes, needed_text, text_in}
use Rattle.kms_json.specs.Versions.{version_named}

-- the body is the JSON value d
abbrev pub IsBody : List ℕ → Data → Type 0
IsBody body d = IsUtf8 body × (read body ≡ Some d)

-- a body with a fault: it is not JSON that this reading takes, or its value has the fault; memory may run out for any body
abbrev pub IsAtFault : {A : Type 0} → (Data → Result A JsonFault) → List ℕ → JsonFault → Type 0
IsAtFault reading body fault.NotJson = (d : Data) → IsBody body d → reading d ≡ Err fault.NotJson
IsAtFault reading body (fault.Missing m) = (d : Data) × (IsBody body d × (reading d ≡ Err (fault.Missing m)))
IsAtFault reading body (fault.BadBase64 m) = (d : Data) × (IsBody body d × (reading d ≡ Err (fault.BadBase64 m)))
IsAtFault reading body (fault.BadValue m) = (d : Data) × (IsBody body d × (reading d ≡ Err (fault.BadValue m)))
IsAtFault reading body fault.NoMemory = ⊤

-- the meaning of the body by this reading of its value
abbrev pub IsReadingOf : {A : Type 0} → (Data → Result A JsonFault) → List ℕ → Result A JsonFault → Type 0
IsReadingOf reading body (Ok a) = (d : Data) × (IsBody body d × (reading d ≡ Ok a))
IsReadingOf reading body (Err e) = IsAtFault reading body e

-- a reading that takes only objects
abbrev pub in_object : {A : Type 0} → JsonFault → Data → Result A JsonFault → Result A JsonFault
in_object otherwise d r = if is_some (as_object d) then r else Err otherwise

abbrev pub key_name : List ℕ → Result (List ℕ) JsonFault
key_name text = if is_key_name text then Ok text else Err (fault.BadValue of.Name)

abbrev pub name_in : Data → Result (List ℕ) JsonFault
name_in d = and_then (needed_text (codes "name") of.Name d) key_name

abbrev pub is_text : List ℕ → Member → List ℕ → Result ⊤ JsonFault
is_text wanted m text = if bytes_eq text wanted then Ok tt else Err (fault.BadValue m)

abbrev pub cipher_given : Option Data → Result ⊤ JsonFault
cipher_given None = Ok tt
cipher_given (Some d) = and_then (text_in of.Cipher d) (is_text (codes "AES/CTR/NoPadding") of.Cipher)

abbrev pub cipher_in : Data → Result ⊤ JsonFault
cipher_in d = cipher_given (given (codes "cipher") d)

-- a whole number without a sign, a point or an exponent; 128 if absent
abbrev pub length_given : Option Data → Result ℕ JsonFault
length_given None = Ok 128
length_given (Some d) = ok_or (option_and_then as_u64 (as_number d)) (fault.BadValue of.Length)

abbrev pub length_in : Data → Result ℕ JsonFault
length_in d = length_given (given (codes "length") d)

abbrev pub material_in : Data → Result (Option (List ℕ)) JsonFault
material_in d = given_bytes of.Material (given (codes "material") d)

abbrev pub short_text : List ℕ → Result (List ℕ) JsonFault
short_text text = if nat_le (length text) 1024 then Ok text else Err (fault.BadValue of.Description)

abbrev pub description_given : Option Data → Result (List ℕ) JsonFault
description_given None = Ok []
description_given (Some d) = and_then (text_in of.Description d) short_text

abbrev pub description_in : Data → Result (List ℕ) JsonFault
description_in d = description_given (given (codes "description") d)

-- ---- the four bodies

abbrev pub create_members : Data → Result KmsCall JsonFault
create_members d =
    and_then (name_in d) (λ name. and_then (cipher_in d) (λ _. and_then (length_in d) (λ bits.
    and_then (material_in d) (λ material. and_then (description_in d) (λ description.
    Ok (call.Create name bits material description))))))

abbrev pub create_of : Data → Result KmsCall JsonFault
create_of d = in_object fault.NotJson d (create_members d)

abbrev pub roll_of : List ℕ → Data → Result KmsCall JsonFault
roll_of name d = in_object fault.NotJson d (and_then (material_in d) (λ material. Ok (call.Roll name material)))

-- an empty body is read as an object without members
abbrev pub or_no_members : List ℕ → List ℕ
or_no_members [] = codes "{}"
or_no_members (b ∷ bs) = b ∷ bs

abbrev pub eek_members : Data → Result EekBody JsonFault
eek_members d =
    and_then (name_in d) (λ name. and_then (needed_bytes (codes "iv") of.Iv d) (λ iv.
    and_then (needed_bytes (codes "material") of.Material d) (λ sealed.
    Ok record { name = name; iv = iv; sealed = sealed })))

abbrev pub eek_of : Data → Result EekBody JsonFault
eek_of d = in_object fault.NotJson d (eek_members d)

abbrev pub version_name : List ℕ → Result Version JsonFault
version_name text = ok_or (version_named text) (fault.BadValue of.VersionName)

abbrev pub version_in : Data → Result Version JsonFault
version_in d = and_then (needed_text (codes "versionName") of.VersionName d) version_name

abbrev pub sealed_members : Data → Result (List ℕ) JsonFault
sealed_members d =
    and_then (and_then (needed_text (codes "versionName") of.VersionName d) (is_text (codes "EEK") of.VersionName))
    (λ _. needed_bytes (codes "material") of.Material d)

-- the sealed bytes of an element
abbrev pub sealed_of : Data → Result (List ℕ) JsonFault
sealed_of d = in_object (fault.BadValue of.EncryptedKeyVersion) d (sealed_members d)

abbrev pub sealed_in : Data → Result (List ℕ) JsonFault
sealed_in d = and_then (needed (codes "encryptedKeyVersion") of.EncryptedKeyVersion d) sealed_of

abbrev pub element_members : Data → Result RawEdek JsonFault
element_members d =
    and_then (version_in d) (λ version. and_then (needed_bytes (codes "iv") of.Iv d) (λ iv.
    and_then (sealed_in d) (λ sealed. Ok record { version = version; iv = iv; sealed = sealed })))

abbrev pub element_of : Data → Result RawEdek JsonFault
element_of d = in_object (fault.BadValue of.Element) d (element_members d)

abbrev pub elements_of : Items → Result (List RawEdek) JsonFault
elements_of no_items = Ok []
elements_of (item d ds) = and_then (element_of d) (λ e. and_then (elements_of ds) (λ es. Ok (e ∷ es)))

abbrev pub batch_items : List ℕ → Items → Result KmsCall JsonFault
batch_items name ds = and_then (elements_of ds) (λ sent. Ok (call.Batch name sent))

abbrev pub batch_of : List ℕ → Data → Result KmsCall JsonFault
batch_of name d = and_then (ok_or (as_array d) fault.NotJson) (batch_items name)
