-- What follows of what was done at an order.
use Rattle.std.proofs.Common.{◌≡◌, ◌≢◌, ◌⊎◌, ⊎_elim, inl, inr, ℕ, List, refl, ap, sym, ◌∙◌, subst}
use Rattle.std.specs.Prelude.{IfErr, IfOk, Ok, Err, Option, Result, string_bytes}
use Rattle.clap.specs.Words.{IsAmong, Text}
use Rattle.clap.specs.declared.error.ErrorKind.TheVariants.{DisplayHelp, DisplayVersion}
use Rattle.clap_lines.specs.Orders.{IsMistake, ShownAs}
use Rattle.clap_lines.specs.declared.told.OrderFault.{OrderFault}
use Rattle.clap_lines.specs.declared.told.OrderFault.TheVariants.{Usage, NoMemory}
use Rattle.command_line.specs.Orders.{IsHelp, IsOrderOf, IsVersion, Names, line_fault}
use Rattle.command_line.specs.declared.order.Order.{Order}
use Rattle.command_line.specs.declared.order.Order.TheVariants.{Replay, Pipe, Serve, Load, Check, Help, Version}
use Rattle.hk_base.specs.Disk.{DiskState, Tells}
use Rattle.world_run.specs.Ledger.{Past}
use Rattle.world_run.specs.Linked.{StartsSound}
use Rattle.command_io.specs.declared.ends.ReplayEnd.{ReplayEnd}
use Rattle.hk_runs.specs.Headline.{ConnectionKeepsFiles, KeepsFiles}
use Rattle.command_io.specs.Ends.{ShowsText, WantsMemory, status_of}
use Rattle.command_io.proofs.UsageLemmas.{not_shown}
use Rattle.hkms_commands.specs.Orders.{ByLogs, LeavesServing, Obeys, UsesDisk, UsesYard}
use Rattle.hk_runs.specs.Pipe.{Pipe as Pipes}
use Rattle.hk_runs.specs.Replay.{Replay as Replays}
use Rattle.hk_runs.proofs.HeadlineLemmas.{Ends, Unmoved, connection_keeps, replay_keeps, unmoved_keeps}

abbrev pub OrderRead : Type 0
OrderRead = Result Order OrderFault

pub helps_so : (order : OrderRead) (replays pipes : Type 0) (serves : ℕ → ℕ → Type 0) (loads : ℕ → Type 0) (checks same : Type 0) (written now : Option (List ℕ)) (status : ℕ) → ShownAs IsHelp order → Obeys order replays pipes serves loads checks same written now status
    → ShowsText same written now status ⊎ WantsMemory same written now status
helps_so (Ok Replay) replays pipes serves loads checks same written now status is obeys = absurd is
helps_so (Ok Pipe) replays pipes serves loads checks same written now status is obeys = absurd is
helps_so (Ok (Serve port conns places)) replays pipes serves loads checks same written now status is obeys = absurd is
helps_so (Ok (Load count)) replays pipes serves loads checks same written now status is obeys = absurd is
helps_so (Ok Check) replays pipes serves loads checks same written now status is obeys = absurd is
helps_so (Ok (Help text)) replays pipes serves loads checks same written now status is obeys = inl (record { text = string_bytes text; untouched = obeys.0; shows = obeys.1 })
helps_so (Ok (Version text)) replays pipes serves loads checks same written now status is obeys = absurd is
helps_so (Err Usage) replays pipes serves loads checks same written now status is obeys = absurd cc
helps_so (Err NoMemory) replays pipes serves loads checks same written now status is obeys = inr obeys

pub versions_so : (order : OrderRead) (replays pipes : Type 0) (serves : ℕ → ℕ → Type 0) (loads : ℕ → Type 0) (checks same : Type 0) (written now : Option (List ℕ)) (status : ℕ) → ShownAs IsVersion order → Obeys order replays pipes serves loads checks same written now status
    → ShowsText same written now status ⊎ WantsMemory same written now status
versions_so (Ok Replay) replays pipes serves loads checks same written now status is obeys = absurd is
versions_so (Ok Pipe) replays pipes serves loads checks same written now status is obeys = absurd is
versions_so (Ok (Serve port conns places)) replays pipes serves loads checks same written now status is obeys = absurd is
versions_so (Ok (Load count)) replays pipes serves loads checks same written now status is obeys = absurd is
versions_so (Ok Check) replays pipes serves loads checks same written now status is obeys = absurd is
versions_so (Ok (Help text)) replays pipes serves loads checks same written now status is obeys = absurd is
versions_so (Ok (Version text)) replays pipes serves loads checks same written now status is obeys = inl (record { text = string_bytes text; untouched = obeys.0; shows = obeys.1 })
versions_so (Err Usage) replays pipes serves loads checks same written now status is obeys = absurd cc
versions_so (Err NoMemory) replays pipes serves loads checks same written now status is obeys = inr obeys

pub usage_only : (order : OrderRead) (words : List Text) (replays pipes : Type 0) (serves : ℕ → ℕ → Type 0) (loads : ℕ → Type 0) (checks same : Type 0) (written now : Option (List ℕ)) (status : ℕ) → IfErr order (λ fault. fault ≡ Usage → IsMistake (line_fault words))
    → Obeys order replays pipes serves loads checks same written now status → (replays → status ≢ 2) → (pipes → status ≢ 2) → ((port conns : ℕ) → serves port conns → status ≢ 2) → ((count : ℕ) → loads count → status ≢ 2) → (checks → status ≢ 2) → status ≡ 2 → IsMistake (line_fault words)
usage_only (Ok Replay) words replays pipes serves loads checks same written now status usage obeys no_replay no_pipe no_server no_load no_check two = absurd (no_replay obeys two)
usage_only (Ok Pipe) words replays pipes serves loads checks same written now status usage obeys no_replay no_pipe no_server no_load no_check two = absurd (no_pipe obeys two)
usage_only (Ok (Serve port conns places)) words replays pipes serves loads checks same written now status usage obeys no_replay no_pipe no_server no_load no_check two = absurd (no_server port conns obeys two)
usage_only (Ok (Load count)) words replays pipes serves loads checks same written now status usage obeys no_replay no_pipe no_server no_load no_check two = absurd (no_load count obeys two)
usage_only (Ok Check) words replays pipes serves loads checks same written now status usage obeys no_replay no_pipe no_server no_load no_check two = absurd (no_check obeys two)
usage_only (Ok (Help text)) words replays pipes serves loads checks same written now status usage obeys no_replay no_pipe no_server no_load no_check two = absurd (not_shown _ 0 written now status (λ h. absurd cc) obeys.1 two)
usage_only (Ok (Version text)) words replays pipes serves loads checks same written now status usage obeys no_replay no_pipe no_server no_load no_check two = absurd (not_shown _ 0 written now status (λ h. absurd cc) obeys.1 two)
usage_only (Err Usage) words replays pipes serves loads checks same written now status usage obeys no_replay no_pipe no_server no_load no_check two = usage refl
usage_only (Err NoMemory) words replays pipes serves loads checks same written now status usage obeys no_replay no_pipe no_server no_load no_check two = absurd (not_shown _ 6 written now status (λ h. absurd cc) obeys.1 two)

-- words that name an order give it, or there is no memory to read them
pub named_so : (order : OrderRead) (words : List Text) → IfOk order (λ o. IsOrderOf o words) → IfErr order (λ fault. fault ≡ Usage → IsMistake (line_fault words)) → (o : Order) → Names o words
    → (order ≡ Ok o) ⊎ (order ≡ Err NoMemory)
named_so (Err NoMemory) words answers usage o names = inr refl
named_so (Err Usage) words answers usage o names = absurd ((usage refl).0 names.no_fault)
named_so (Ok a) words (inl read) usage o names = let same : a ≡ o = cc (sym read.1 ∙ names.command) in inl (ap Ok same)
named_so (Ok a) words (inr (inl help)) usage o names = absurd (subst (IsAmong DisplayHelp) names.no_fault help.1)
named_so (Ok a) words (inr (inr version)) usage o names = absurd (subst (IsAmong DisplayVersion) names.no_fault version.1)

-- an order that was read is carried out
pub carried_out : (order : OrderRead) (o : Order) (replays pipes : Type 0) (serves : ℕ → ℕ → Type 0) (loads : ℕ → Type 0) (checks same : Type 0) (written now : Option (List ℕ)) (status : ℕ) → order ≡ Ok o → Obeys order replays pipes serves loads checks same written now status
    → Obeys (Ok o) replays pipes serves loads checks same written now status
carried_out order o replays pipes serves loads checks same written now status is obeys = subst (λ (x : OrderRead). Obeys x replays pipes serves loads checks same written now status) is obeys

-- an order that the words name is carried out, or there is no memory to read the words
pub obeyed : (order : OrderRead) (o : Order) (replays pipes : Type 0) (serves : ℕ → ℕ → Type 0) (loads : ℕ → Type 0) (checks same : Type 0) (written now : Option (List ℕ)) (status : ℕ) → (order ≡ Ok o) ⊎ (order ≡ Err NoMemory) → Obeys order replays pipes serves loads checks same written now status
    → Obeys (Ok o) replays pipes serves loads checks same written now status ⊎ WantsMemory same written now status
obeyed order o replays pipes serves loads checks same written now status (inl is) obeys = inl (carried_out order o replays pipes serves loads checks same written now status is obeys)
obeyed order o replays pipes serves loads checks same written now status (inr is) obeys = inr (subst (λ (x : OrderRead). Obeys x replays pipes serves loads checks same written now status) is obeys)

-- words that name the replay keep the promise on files
module _ (past : Past) (old new : DiskState) (tells : Tells old) (sound : StartsSound old past) (same_disk same_acls same_input same_rand same_clock pipes at_end checks : Type 0) (serves : ℕ → ℕ → Type 0) (loads : ℕ → Type 0) (acls acls' : Option (List ℕ)) (words words' : ℕ → ℕ) (left written now : Option (List ℕ)) (status : ℕ) where
  abbrev Replayed : Type 0
  Replayed = (how : ReplayEnd) × (status ≡ status_of how) × Replays same_disk (same_input × same_rand) old new acls acls' words words' left written now how × at_end

  abbrev Same : Type 0
  Same = same_disk × same_acls × same_input × same_rand × same_clock

  abbrev Keeps : Type 0
  Keeps = KeepsFiles (same_input × same_rand) past old new acls acls' words words' left written now status

  replayed_keeps : Ends old new → (same_disk → Unmoved old new) → Replayed → Keeps
  replayed_keeps ends idle r = replay_keeps past old new tells sound same_disk (same_input × same_rand) acls acls' words words' left written now r.0 status ends r.1 idle r.2

  unread_keeps : (same_disk → Unmoved old new) → WantsMemory Same written now status → Keeps
  unread_keeps idle w = inl (unmoved_keeps past old new tells sound (w.0.2, w.0.3) (idle w.0.0))

  pub order_keeps : (order : OrderRead) → Ends old new → (same_disk → Unmoved old new) → (order ≡ Ok Replay) ⊎ (order ≡ Err NoMemory)
      → Obeys order ((how : ReplayEnd) × (status ≡ status_of how) × Replays same_disk (same_input × same_rand) old new acls acls' words words' left written now how × at_end) pipes serves loads checks (same_disk × same_acls × same_input × same_rand × same_clock) written now status
      → KeepsFiles (same_input × same_rand) past old new acls acls' words words' left written now status
  order_keeps order ends idle named obeys = ⊎_elim (replayed_keeps ends idle) (unread_keeps idle) (obeyed order Replay Replayed pipes serves loads checks Same written now status named obeys)

-- and so do those that name the connection
module _ (past : Past) (old new : DiskState) (tells : Tells old) (sound : StartsSound old past) (same_disk same_acls same_input same_out same_rand same_clock replays checks : Type 0) (serves : ℕ → ℕ → Type 0) (loads : ℕ → Type 0) (acls acls' : Option (List ℕ)) (words words' : ℕ → ℕ) (left left' written now : Option (List ℕ)) (status : ℕ) where
  abbrev Piped : Type 0
  Piped = Pipes same_disk (same_input × same_out × same_rand × same_clock) old new acls acls' words words' left left' written now status

  abbrev Unasked : Type 0
  Unasked = same_disk × same_acls × same_input × same_rand × same_clock

  abbrev KeepsToo : Type 0
  KeepsToo = ConnectionKeepsFiles (same_input × same_rand × same_clock) past old new acls acls' words words' left left' written now status

  piped_keeps : Ends old new → (same_disk → Unmoved old new) → Piped → KeepsToo
  piped_keeps ends idle p = connection_keeps past old new tells sound same_disk (same_input × same_out × same_rand × same_clock) (same_input × same_rand × same_clock) acls acls' words words' left left' written now status ends idle
      (λ same. (same.0, same.2, same.3)) p

  unasked_keeps : (same_disk → Unmoved old new) → WantsMemory Unasked written now status → KeepsToo
  unasked_keeps idle w = inl (unmoved_keeps past old new tells sound (w.0.2, w.0.3, w.0.4) (idle w.0.0))

  pub pipe_order_keeps : (order : OrderRead) → Ends old new → (same_disk → Unmoved old new) → (order ≡ Ok Pipe) ⊎ (order ≡ Err NoMemory)
      → Obeys order replays (Pipes same_disk (same_input × same_out × same_rand × same_clock) old new acls acls' words words' left left' written now status) serves loads checks (same_disk × same_acls × same_input × same_rand × same_clock) written now status
      → ConnectionKeepsFiles (same_input × same_rand × same_clock) past old new acls acls' words words' left left' written now status
  pipe_order_keeps order ends idle named obeys = ⊎_elim (piped_keeps ends idle) (unasked_keeps idle) (obeyed order Pipe replays Piped serves loads checks Unasked written now status named obeys)

-- words that give the order of a server name it
pub serving_named : (order : OrderRead) (words : List Text) (idle : Type 0) → IfOk order (λ o. IsOrderOf o words) → LeavesServing order idle → ((port : ℕ) × (conns : ℕ) × (places : ℕ) × Names (Serve port conns places) words) ⊎ idle
serving_named (Ok Replay) words idle answers leaves = inr leaves
serving_named (Ok Pipe) words idle answers leaves = inr leaves
serving_named (Ok (Serve port conns places)) words idle (inl read) leaves = inl (port, conns, places, record { no_fault = read.0; command = read.1 })
serving_named (Ok (Serve port conns places)) words idle (inr (inl help)) leaves = absurd help.0
serving_named (Ok (Serve port conns places)) words idle (inr (inr version)) leaves = absurd version.0
serving_named (Ok (Load count)) words idle answers leaves = inr leaves
serving_named (Ok Check) words idle answers leaves = inr leaves
serving_named (Ok (Help text)) words idle answers leaves = inr leaves
serving_named (Ok (Version text)) words idle answers leaves = inr leaves
serving_named (Err Usage) words idle answers leaves = inr leaves
serving_named (Err NoMemory) words idle answers leaves = inr leaves

-- what comes of an order comes of the words that name it
pub by_logs : (order : OrderRead) (words : List Text) (on_disk at_check in_yard : Type 0) → IfOk order (λ o. IsOrderOf o words) → ByLogs order on_disk at_check in_yard
    → (UsesDisk words × on_disk) ⊎ ((Names Check words × at_check) ⊎ (UsesYard words × in_yard))
by_logs (Ok Replay) words on_disk at_check in_yard (inl read) by = inl (inl (record { no_fault = read.0; command = read.1 }), by)
by_logs (Ok Replay) words on_disk at_check in_yard (inr (inl help)) by = absurd help.0
by_logs (Ok Replay) words on_disk at_check in_yard (inr (inr version)) by = absurd version.0
by_logs (Ok Pipe) words on_disk at_check in_yard (inl read) by = inl (inr (record { no_fault = read.0; command = read.1 }), by)
by_logs (Ok Pipe) words on_disk at_check in_yard (inr (inl help)) by = absurd help.0
by_logs (Ok Pipe) words on_disk at_check in_yard (inr (inr version)) by = absurd version.0
by_logs (Ok (Serve port conns places)) words on_disk at_check in_yard (inl read) by = inr (inr ((port, conns, places, record { no_fault = read.0; command = read.1 }), by))
by_logs (Ok (Serve port conns places)) words on_disk at_check in_yard (inr (inl help)) by = absurd help.0
by_logs (Ok (Serve port conns places)) words on_disk at_check in_yard (inr (inr version)) by = absurd version.0
by_logs (Ok Check) words on_disk at_check in_yard (inl read) by = inr (inl (record { no_fault = read.0; command = read.1 }, by))
by_logs (Ok Check) words on_disk at_check in_yard (inr (inl help)) by = absurd help.0
by_logs (Ok Check) words on_disk at_check in_yard (inr (inr version)) by = absurd version.0
by_logs (Ok (Load count)) words on_disk at_check in_yard answers by = absurd by
by_logs (Ok (Help text)) words on_disk at_check in_yard answers by = absurd by
by_logs (Ok (Version text)) words on_disk at_check in_yard answers by = absurd by
by_logs (Err fault) words on_disk at_check in_yard answers by = absurd by

-- if nothing comes of a check
pub unless_checked : {U V W : Type 0} → U ⊎ ((V × ⊥) ⊎ W) → U ⊎ W
unless_checked (inl on_disk) = inl on_disk
unless_checked (inr (inl none)) = absurd none.1
unless_checked (inr (inr in_yard)) = inr in_yard

-- if the same comes of a check as of the other commands over the disk
pub over_disk : {U V T W : Type 0} → (U × T) ⊎ ((V × T) ⊎ W) → ((U ⊎ V) × T) ⊎ W
over_disk (inl on_disk) = inl (inl on_disk.0, on_disk.1)
over_disk (inr (inl checked)) = inl (inr checked.0, checked.1)
over_disk (inr (inr in_yard)) = inr in_yard

-- if nothing comes of a command over the disk, it is of the server
pub in_yard_alone : {U V T : Type 0} → (U × ⊥) ⊎ (V × T) → V × T
in_yard_alone (inl none) = absurd none.1
in_yard_alone (inr server) = server
