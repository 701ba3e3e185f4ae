-- Properties of requests.
use Rattle.std.specs.Prelude.{◌≡◌, ℕ, List, Result, Err}
use Rattle.http_wire.specs.Message.{Message}
use Rattle.kms_calls.specs.declared.calls.KmsCall.{KmsCall}
use Rattle.kms_rest.specs.declared.faults.RestFault.{RestFault}
use Rattle.kms_rest.specs.declared.faults.RestFault.TheVariants as fault
use Rattle.kms_rest.specs.Requests.{Says}

-- a request has one meaning, except for lack of memory
abbrev pub SaysOneThing : Message → Type 0
SaysOneThing request = (a b : Result (List ℕ × KmsCall) RestFault)
    → Says request a → Says request b → ¬ (a ≡ Err fault.NoMemory) → ¬ (b ≡ Err fault.NoMemory) → a ≡ b
