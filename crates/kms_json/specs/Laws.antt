-- Properties of bodies and of base64 texts.
use Rattle.std.specs.Prelude.{◌≡◌, ◌<◌, ◌^◌, ℕ, List, None, Some, Result, Err}
use Rattle.serde_json.specs.Data.{Data}
use Rattle.base64.specs.GeneralPurpose.{IsBytes}
use Rattle.hk_base.specs.Names.{IsKeyName, Version, version_text}
use Rattle.kms_calls.specs.declared.calls.KmsCall.{KmsCall}
use Rattle.kms_json.specs.declared.eek.EekBody.{EekBody}
use Rattle.kms_json.specs.declared.faults.JsonFault.{JsonFault}
use Rattle.kms_json.specs.declared.faults.JsonFault.TheVariants as fault
use Rattle.kms_json.specs.Base64.{IsBase64, base64_bytes}
use Rattle.kms_json.specs.Bodies.{IsReadingOf}
use Rattle.kms_json.specs.Versions.{version_named}

-- a body has one answer, except for lack of memory
abbrev pub OneCall : Type 0
OneCall = (reading : Data → Result KmsCall JsonFault) (body : List ℕ) (a b : Result KmsCall JsonFault)
    → IsReadingOf reading body a → IsReadingOf reading body b → ¬ (a ≡ Err fault.NoMemory) → ¬ (b ≡ Err fault.NoMemory) → a ≡ b

abbrev pub OneEek : Type 0
OneEek = (reading : Data → Result EekBody JsonFault) (body : List ℕ) (a b : Result EekBody JsonFault)
    → IsReadingOf reading body a → IsReadingOf reading body b → ¬ (a ≡ Err fault.NoMemory) → ¬ (b ≡ Err fault.NoMemory) → a ≡ b

-- a text is the base64 of the bytes that it gives
abbrev pub BytesAreSpelled : Type 0
BytesAreSpelled = (text bytes : List ℕ) → IsBytes text → base64_bytes text ≡ Some bytes → IsBase64 text bytes

-- a text that is the base64 of some bytes gives bytes
abbrev pub SpelledGives : Type 0
SpelledGives = (text bytes : List ℕ) → IsBytes text → IsBytes bytes → IsBase64 text bytes → ¬ (base64_bytes text ≡ None)

-- a text is the base64 of at most one byte string, in whatever form
abbrev pub SpelledOnce : Type 0
SpelledOnce = (text a b : List ℕ) → IsBytes a → IsBytes b → IsBase64 text a → IsBase64 text b → a ≡ b

-- a version is named by its text, and by no other
abbrev pub NamedByText : Type 0
NamedByText = (key : List ℕ) (number : ℕ) → IsKeyName key → number < 2 ^ 16 → version_named (version_text key number) ≡ Some record { key = key; number = number }

abbrev pub NamedOnlySo : Type 0
NamedOnlySo = (text : List ℕ) (v : Version) → version_named text ≡ Some v → IsKeyName v.key × (v.number < 2 ^ 16) × (text ≡ version_text v.key v.number)
