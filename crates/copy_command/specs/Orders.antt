-- What is done at an order.
use Rattle.std.specs.Prelude.{ℕ, List, string_bytes, Option, Result, Ok, Err}
use Rattle.clap.specs.Words.{Text}
use Rattle.command_io.specs.Ends.{RefusesUsage, ShowsWith, WantsMemory}
use Rattle.clap_lines.specs.declared.told.OrderFault.{OrderFault}
use Rattle.clap_lines.specs.declared.told.OrderFault.TheVariants.{Usage, NoMemory}
use Rattle.copy_command_line.specs.Orders.{Names}
use Rattle.copy_command_line.specs.declared.order.CopyOrder.{CopyOrder}
use Rattle.copy_command_line.specs.declared.order.CopyOrder.TheVariants.{Copy, Read, Help, Version}

-- a zone is copied, a range is read, or a text is shown
abbrev pub Obeys : Result CopyOrder OrderFault → (List ℕ → List ℕ → Type 0) → (List ℕ → List ℕ → ℕ → ℕ → Type 0) → Type 0 → Option (List ℕ) → Option (List ℕ) → ℕ → Type 0
Obeys (Ok (Copy source target)) copies reads same written now status = copies source target
Obeys (Ok (Read user path from count)) copies reads same written now status = reads user path from count
Obeys (Ok (Help text)) copies reads same written now status = same × ShowsWith (string_bytes text) 0 written now status
Obeys (Ok (Version text)) copies reads same written now status = same × ShowsWith (string_bytes text) 0 written now status
Obeys (Err Usage) copies reads same written now status = RefusesUsage same written now status
Obeys (Err NoMemory) copies reads same written now status = WantsMemory same written now status

-- for both paths of the copy that the words name
abbrev pub ForCopy : List Text → (List ℕ → List ℕ → ℕ → Type 0) → ℕ → Type 0
ForCopy words Does status = (source target : List ℕ) → Names (Copy source target) words → Does source target status

-- for the user, the path and the range of the read that the words name
abbrev pub ForRead : List Text → (List ℕ → List ℕ → ℕ → ℕ → ℕ → Type 0) → ℕ → Type 0
ForRead words Does status = (user path : List ℕ) (from count : ℕ) → Names (Read user path from count) words → Does user path from count status
