-- What the words of a command line bring about.
use Rattle.std.specs.Prelude.{◌⊎◌, ⊤, ℕ, List, Option, Result, Ok, Err, string_bytes}
use Rattle.clap.specs.Words.{Text}
use Rattle.command_io.specs.Ends.{RefusesUsage, ShowsWith, WantsMemory}
use Rattle.clap_lines.specs.declared.told.OrderFault.{OrderFault}
use Rattle.clap_lines.specs.declared.told.OrderFault.TheVariants.{Usage, NoMemory}
use Rattle.command_line.specs.Orders.{Names}
use Rattle.command_line.specs.declared.order.Order.{Order}
use Rattle.command_line.specs.declared.order.Order.TheVariants.{Replay, Pipe, Serve, Load, Check, Help, Version}

-- what is done at an order: a replay, a connection, a server at this port for so many connections, a load of so many steps, a check, or a text that is shown
abbrev pub Obeys : Result Order OrderFault → Type 0 → Type 0 → (ℕ → ℕ → Type 0) → (ℕ → Type 0) → Type 0 → Type 0 → Option (List ℕ) → Option (List ℕ) → ℕ → Type 0
Obeys (Ok Replay) replays pipes serves loads checks same written now status = replays
Obeys (Ok Pipe) replays pipes serves loads checks same written now status = pipes
Obeys (Ok (Serve port conns places)) replays pipes serves loads checks same written now status = serves port conns
Obeys (Ok (Load count)) replays pipes serves loads checks same written now status = loads count
Obeys (Ok Check) replays pipes serves loads checks same written now status = checks
Obeys (Ok (Help text)) replays pipes serves loads checks same written now status = same × ShowsWith (string_bytes text) 0 written now status
Obeys (Ok (Version text)) replays pipes serves loads checks same written now status = same × ShowsWith (string_bytes text) 0 written now status
Obeys (Err Usage) replays pipes serves loads checks same written now status = RefusesUsage same written now status
Obeys (Err NoMemory) replays pipes serves loads checks same written now status = WantsMemory same written now status

-- only a server has anything to do with a yard and a door: `idle` says that they are as they were
abbrev pub LeavesServing : Result Order OrderFault → Type 0 → Type 0
LeavesServing (Ok (Serve port conns places)) idle = ⊤
LeavesServing _ idle = idle

-- the words name a command that reads the input, with both logs on the disk
abbrev pub UsesDisk : List Text → Type 0
UsesDisk words = Names Replay words ⊎ Names Pipe words

-- the words name a command over the disk
abbrev pub UsesLogs : List Text → Type 0
UsesLogs words = UsesDisk words ⊎ Names Check words

-- the words name the server, with both logs in the yard
abbrev pub UsesYard : List Text → Type 0
UsesYard words = (port : ℕ) × (conns : ℕ) × (places : ℕ) × Names (Serve port conns places) words

-- one thing of a command that reads the input, another of a check, and another of a command over the yard; no other order comes to this
abbrev pub ByLogs : Result Order OrderFault → Type 0 → Type 0 → Type 0 → Type 0
ByLogs (Ok Replay) on_disk at_check in_yard = on_disk
ByLogs (Ok Pipe) on_disk at_check in_yard = on_disk
ByLogs (Ok (Serve port conns places)) on_disk at_check in_yard = in_yard
ByLogs (Ok Check) on_disk at_check in_yard = at_check
ByLogs _ on_disk at_check in_yard = ⊥
