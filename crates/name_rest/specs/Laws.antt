-- Properties of requests.
use Rattle.std.specs.Prelude.{◌≡◌, ℕ, List, Result, Err}
use Rattle.http_wire.specs.Message.{Message}
use Rattle.name_rest.specs.declared.faults.NameRestFault.{NameRestFault}
use Rattle.name_rest.specs.declared.faults.NameRestFault.TheVariants as fault
use Rattle.name_rest.specs.declared.order.NameOrder.{NameOrder}
use Rattle.name_rest.specs.Requests.{Says}

-- a request has one meaning, except for lack of memory
abbrev pub SaysOneThing : Message → Type 0
SaysOneThing request = (a b : Result (List ℕ × NameOrder) NameRestFault)
    → Says request a → Says request b → ¬ (a ≡ Err fault.NoMemory) → ¬ (b ≡ Err fault.NoMemory) → a ≡ b
