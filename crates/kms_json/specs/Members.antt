-- Members of a JSON object and their values.
use Rattle.std.specs.Prelude.{ℕ, List, Option, None, Some, option_and_then, Result, Ok, Err}
use Rattle.std.specs.Option.{ok_or}
use Rattle.serde_json.specs.Data.{Data, null, boolean, number, string, array, object}
use Rattle.serde_json.specs.Find.{get, as_str}
use Rattle.kms_json.specs.declared.faults.JsonFault.{JsonFault}
use Rattle.kms_json.specs.declared.faults.JsonFault.TheVariants as fault
use Rattle.kms_json.specs.declared.faults.Member.{Member}
use Rattle.kms_json.specs.Base64.{base64_bytes}

-- the next step on a value, or the earlier fault
abbrev pub and_then : {A B : Type 0} → Result A JsonFault → (A → Result B JsonFault) → Result B JsonFault
and_then (Ok a) next = next a
and_then (Err e) next = Err e

-- a null member counts as absent
abbrev pub unless_null : Data → Option Data
unless_null null = None
unless_null (boolean b) = Some (boolean b)
unless_null (number n) = Some (number n)
unless_null (string s) = Some (string s)
unless_null (array ds) = Some (array ds)
unless_null (object ms) = Some (object ms)

abbrev pub given : List ℕ → Data → Option Data
given name d = option_and_then unless_null (get name d)

abbrev pub needed : List ℕ → Member → Data → Result Data JsonFault
needed name m d = ok_or (given name d) (fault.Missing m)

abbrev pub text_in : Member → Data → Result (List ℕ) JsonFault
text_in m d = ok_or (as_str d) (fault.BadValue m)

abbrev pub bytes_in : Member → Data → Result (List ℕ) JsonFault
bytes_in m d = and_then (text_in m d) (λ text. ok_or (base64_bytes text) (fault.BadBase64 m))

abbrev pub needed_text : List ℕ → Member → Data → Result (List ℕ) JsonFault
needed_text name m d = and_then (needed name m d) (text_in m)

abbrev pub needed_bytes : List ℕ → Member → Data → Result (List ℕ) JsonFault
needed_bytes name m d = and_then (needed name m d) (bytes_in m)

abbrev pub given_bytes : Member → Option Data → Result (Option (List ℕ)) JsonFault
given_bytes m None = Ok None
given_bytes m (Some d) = and_then (bytes_in m d) (λ bytes. Ok (Some bytes))
