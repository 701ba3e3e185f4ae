-- What a command that copies does, over what it works on.
use Rattle.std.specs.Prelude.{◌≡◌, ◌⊎◌, ℕ, List}
use Rattle.hk_base.specs.declared.disk.Disk as disks
use Rattle.hk_base.specs.declared.outside.Source as sources
use Rattle.hk_base.specs.declared.outside.Sink as sinks
use Rattle.hk_base.specs.declared.outside.Words as random
use Rattle.body_stream.specs.declared.vault.Vault as vaults
use Rattle.prop_text.specs.declared.props.Props.{Props}
use Rattle.world_run.specs.Ledger.{Past}
use Rattle.hk_runs.specs.Headline.{FromSoundFiles, NothingHappened}
use Rattle.copy_runs.specs.Commands.{CopiesByFile, CopiesUnder, CopyKept}

-- What the command works on: the disk and the vault of the first cluster, those of the second, the output, the source of random words and
-- the clock.
pub record Clusters (D V E U K W C : Type 0) : Type 0 where
  pub disk : D
  pub vault : V
  pub backup : E
  pub copies : U
  pub out : K
  pub rand : W
  pub clock : C

abbrev pub clusters : {D V E U K W C : Type 0} → D → V → E → U → K → W → C → Clusters D V E U K W C
clusters disk vault backup copies out rand clock = record { disk = disk; vault = vault; backup = backup; copies = copies; out = out; rand = rand; clock = clock }

-- all but the first disk and the output is unchanged
abbrev pub OnlyDiskUsed : {D V E U K W C : Type 0} → Clusters D V E U K W C → Clusters D V E U K W C → Type 0
OnlyDiskUsed old new = (new.backup ≡ old.backup) × (new.vault ≡ old.vault) × (new.copies ≡ old.copies) × (new.rand ≡ old.rand) × (new.clock ≡ old.clock)

module _ {D V E U K W C : Type 0} (of_disk : disks.Ghosts D) (of_vault : vaults.Ghosts V) (of_backup : disks.Ghosts E) (of_copies : vaults.Ghosts U) (of_out : sinks.Ghosts K) (of_rand : random.Ghosts W) (old new : Clusters D V E U K W C) where
  -- under these properties a zone is copied
  abbrev pub CopiesZoneUnder : Props → List ℕ → List ℕ → ℕ → Type 0
  CopiesZoneUnder props from to status =
      CopiesUnder of_backup.state props (OnlyDiskUsed old new) from to (of_disk.state old.disk) (of_disk.state new.disk) old.backup new.backup (of_rand.to_come old.rand) (of_rand.to_come new.rand)
      (of_vault.state old.vault) (of_vault.state new.vault) (of_copies.state old.copies) (of_copies.state new.copies) (of_out.written old.out) (of_out.written new.out) status

  module _ {A : Type 0} (of_acls : sources.Ghosts A) (acls acls' : A) where
    -- a zone is copied
    abbrev pub RunsCopy : List ℕ → List ℕ → ℕ → Type 0
    RunsCopy from to status =
        CopiesByFile of_backup.state (new.disk ≡ old.disk) (OnlyDiskUsed old new) from to (of_disk.state old.disk) (of_disk.state new.disk) old.backup new.backup
        (of_acls.left acls) (of_acls.left acls') (of_rand.to_come old.rand) (of_rand.to_come new.rand)
        (of_vault.state old.vault) (of_vault.state new.vault) (of_copies.state old.copies) (of_copies.state new.copies) (of_out.written old.out) (of_out.written new.out) status

    -- what is kept of it
    abbrev pub RunsCopyKept : List ℕ → List ℕ → Past → ℕ → Type 0
    RunsCopyKept from to past status =
        NothingHappened (OnlyDiskUsed old new) past (of_disk.state old.disk) (of_disk.state new.disk)
        ⊎ CopyKept of_backup.state past from to (of_disk.state old.disk) (of_disk.state new.disk) old.backup new.backup
        (of_acls.left acls) (of_acls.left acls') (of_rand.to_come old.rand) (of_rand.to_come new.rand)
        (of_vault.state old.vault) (of_vault.state new.vault) (of_copies.state old.copies) (of_copies.state new.copies) (of_out.written old.out) (of_out.written new.out) status

    -- that is, of files that a run may start from
    abbrev pub KeepsCopy : List ℕ → List ℕ → ℕ → Type 0
    KeepsCopy from to status = FromSoundFiles (of_disk.state old.disk) (RunsCopyKept from to) status
