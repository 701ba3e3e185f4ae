-- What `hkcopy` does, over what it works on.
use Rattle.std.specs.Prelude.{◌≡◌, ◌⊎◌, ℕ, List, Result}
use Rattle.hk_base.specs.declared.disk.Disk as disks
use Rattle.hk_base.specs.declared.outside.Source as sources
use Rattle.hk_base.specs.declared.outside.Sink as sinks
use Rattle.hk_base.specs.declared.outside.Words as random
use Rattle.body_stream.specs.declared.vault.Vault as vaults
use Rattle.world_run.specs.Ledger.{Past}
use Rattle.hk_runs.specs.Headline.{FromSoundFiles}
use Rattle.clap_lines.specs.declared.told.OrderFault.{OrderFault}
use Rattle.copy_command_line.specs.declared.order.CopyOrder.{CopyOrder}
use Rattle.command_io.specs.Ends.{RefusesUsage, ShowsText, WantsMemory}
use Rattle.copy_reads.specs.Runs.{ReadsCopies, ReadsCopiesKept, files}
use Rattle.copy_runs.specs.Runs.{Clusters, OnlyDiskUsed, RunsCopy, RunsCopyKept}
use Rattle.copy_command.specs.Orders.{Obeys}

-- all but the output is unchanged
abbrev pub WritesAlone : {D V E U K W C A : Type 0} → Clusters D V E U K W C → Clusters D V E U K W C → A → A → Type 0
WritesAlone old new acls acls' = (new.disk ≡ old.disk) × (acls' ≡ acls) × OnlyDiskUsed old new

module _ {D V E U K W C A : Type 0} (of_out : sinks.Ghosts K) (old new : Clusters D V E U K W C) (acls acls' : A) where
  -- there is no memory to read the words
  abbrev pub LacksMemory : ℕ → Type 0
  LacksMemory status = WantsMemory (WritesAlone old new acls acls') (of_out.written old.out) (of_out.written new.out) status

  -- the words are refused, or there is no memory to read them
  abbrev pub RefusesWords : ℕ → Type 0
  RefusesWords status = RefusesUsage (WritesAlone old new acls acls') (of_out.written old.out) (of_out.written new.out) status ⊎ LacksMemory status

  -- a text is shown, or there is no memory to read the words
  abbrev pub ShowsOwnText : ℕ → Type 0
  ShowsOwnText status = ShowsText (WritesAlone old new acls acls') (of_out.written old.out) (of_out.written new.out) status ⊎ LacksMemory status

module _ {D V E U K W C A : Type 0} (of_disk : disks.Ghosts D) (of_vault : vaults.Ghosts V) (of_backup : disks.Ghosts E) (of_copies : vaults.Ghosts U) (of_out : sinks.Ghosts K) (of_rand : random.Ghosts W) (of_acls : sources.Ghosts A)
    (old new : Clusters D V E U K W C) (acls acls' : A) where
  -- a zone is copied
  abbrev pub CopiesZone : List ℕ → List ℕ → ℕ → Type 0
  CopiesZone source target status = RunsCopy of_disk of_vault of_backup of_copies of_out of_rand old new of_acls acls acls' source target status

  -- what is kept of it
  abbrev pub CopyKeeps : List ℕ → List ℕ → Past → ℕ → Type 0
  CopyKeeps source target past status = RunsCopyKept of_disk of_vault of_backup of_copies of_out of_rand old new of_acls acls acls' source target past status

  -- A range of a copy is read. The bodies of the first cluster are not used.
  abbrev pub ReadsRange : List ℕ → List ℕ → ℕ → ℕ → ℕ → Type 0
  ReadsRange user path from count status =
      ReadsCopies of_disk of_backup of_out of_rand of_copies (files old.disk old.backup old.out old.rand old.copies old.clock) (files new.disk new.backup new.out new.rand new.copies new.clock)
      of_acls acls acls' user path from count status × (new.vault ≡ old.vault)

  -- what is kept of it
  abbrev pub ReadKeeps : List ℕ → List ℕ → ℕ → ℕ → Past → ℕ → Type 0
  ReadKeeps user path from count past status =
      ReadsCopiesKept of_disk of_backup of_out of_rand of_copies (files old.disk old.backup old.out old.rand old.copies old.clock) (files new.disk new.backup new.out new.rand new.copies new.clock)
      of_acls acls acls' user path from count past status

  -- each of these does so, or there is no memory to read the words

  abbrev pub CopiesByWords : List ℕ → List ℕ → ℕ → Type 0
  CopiesByWords source target status = CopiesZone source target status ⊎ LacksMemory of_out old new acls acls' status

  abbrev pub ReadsByWords : List ℕ → List ℕ → ℕ → ℕ → ℕ → Type 0
  ReadsByWords user path from count status = ReadsRange user path from count status ⊎ LacksMemory of_out old new acls acls' status

  abbrev pub CopyKeepsByWords : List ℕ → List ℕ → ℕ → Type 0
  CopyKeepsByWords source target status = FromSoundFiles (of_disk.state old.disk) (λ past status. CopyKeeps source target past status ⊎ LacksMemory of_out old new acls acls' status) status

  abbrev pub ReadKeepsByWords : List ℕ → List ℕ → ℕ → ℕ → ℕ → Type 0
  ReadKeepsByWords user path from count status = FromSoundFiles (of_disk.state old.disk) (λ past status. ReadKeeps user path from count past status ⊎ LacksMemory of_out old new acls acls' status) status

  -- what is done at an order
  abbrev pub CarriesOut : Result CopyOrder OrderFault → ℕ → Type 0
  CarriesOut order status =
      Obeys order (λ source target. CopiesZone source target status) (λ user path from count. ReadsRange user path from count status)
      (WritesAlone old new acls acls') (of_out.written old.out) (of_out.written new.out) status

  -- what is kept at an order, from files that a run may start from
  abbrev pub Keeps : Result CopyOrder OrderFault → ℕ → Type 0
  Keeps order status =
      FromSoundFiles (of_disk.state old.disk)
      (λ past status. Obeys order (λ source target. CopyKeeps source target past status) (λ user path from count. ReadKeeps user path from count past status)
      (WritesAlone old new acls acls') (of_out.written old.out) (of_out.written new.out) status)
      status
