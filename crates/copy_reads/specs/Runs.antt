-- What a command that reads a copy does, over what it works on.
use Rattle.std.specs.Prelude.{◌≡◌, ◌⊎◌, ℕ, List}
use Rattle.hk_base.specs.declared.disk.Disk as disks
use Rattle.hk_base.specs.declared.outside.Source as sources
use Rattle.hk_base.specs.declared.outside.Sink as sinks
use Rattle.hk_base.specs.declared.outside.Words as random
use Rattle.body_stream.specs.declared.vault.Vault as vaults
use Rattle.prop_text.specs.declared.props.Props.{Props}
use Rattle.world_run.specs.Ledger.{Past}
use Rattle.world_run.specs.World.{RunningWorld}
use Rattle.world_desk.specs.Worlds.{standing}
use Rattle.world_events.specs.Events.{LeadsAt}
use Rattle.hk_runs.specs.Headline.{NothingHappened}
use Rattle.copy_reads.specs.Commands.{CopyUnder, ReadCopyKept, ReadsCopyFile, Rest}

-- What the command works on: the disk of the first cluster, the disk of the second namesystem, the output, the source of random words, the
-- vault of the copies and the clock.
pub record CopyFiles (D E K W U C : Type 0) : Type 0 where
  pub disk : D
  pub backup : E
  pub out : K
  pub rand : W
  pub copies : U
  pub clock : C

abbrev pub files : {D E K W U C : Type 0} → D → E → K → W → U → C → CopyFiles D E K W U C
files disk backup out rand copies clock = record { disk = disk; backup = backup; out = out; rand = rand; copies = copies; clock = clock }

-- the vault, the random words and the clock are unchanged
abbrev pub Unused : {D E K W U C : Type 0} → CopyFiles D E K W U C → CopyFiles D E K W U C → Type 0
Unused old new = (new.copies ≡ old.copies) × (new.rand ≡ old.rand) × (new.clock ≡ old.clock)

module _ {D E K W U C : Type 0} (of_disk : disks.Ghosts D) (of_backup : disks.Ghosts E) (of_out : sinks.Ghosts K) (of_rand : random.Ghosts W) (of_copies : vaults.Ghosts U) (old new : CopyFiles D E K W U C) where
  -- what comes after the start of this world
  abbrev pub RestFrom : RunningWorld → ℕ → List ℕ → List ℕ → ℕ → ℕ → ℕ → Type 0
  RestFrom world batch user path from count status =
      (then : RunningWorld) × Rest (LeadsAt of_disk.state of_rand.to_come) (Unused old new) batch user path from count (of_backup.state old.backup) (of_backup.state new.backup)
      (standing old.disk world old.rand) (standing new.disk then new.rand) (of_copies.state old.copies) (of_copies.state new.copies) (of_out.written old.out) (of_out.written new.out) status

  -- under these properties a range is read
  abbrev pub CopiesUnder : Props → List ℕ → List ℕ → ℕ → ℕ → ℕ → Type 0
  CopiesUnder props user path from count status =
      CopyUnder props (new.backup ≡ old.backup) (Unused old new) user path from count (of_disk.state old.disk) (of_disk.state new.disk) (of_backup.state old.backup) (of_backup.state new.backup)
      (of_rand.to_come old.rand) (of_rand.to_come new.rand) (of_copies.state old.copies) (of_copies.state new.copies) (of_out.written old.out) (of_out.written new.out) status

  module _ {A : Type 0} (of_acls : sources.Ghosts A) (acls acls' : A) where
    -- a range is read
    abbrev pub ReadsCopies : List ℕ → List ℕ → ℕ → ℕ → ℕ → Type 0
    ReadsCopies user path from count status =
        ReadsCopyFile (new.disk ≡ old.disk) (new.backup ≡ old.backup) (Unused old new) user path from count (of_disk.state old.disk) (of_disk.state new.disk)
        (of_backup.state old.backup) (of_backup.state new.backup) (of_acls.left acls) (of_acls.left acls') (of_rand.to_come old.rand) (of_rand.to_come new.rand)
        (of_copies.state old.copies) (of_copies.state new.copies) (of_out.written old.out) (of_out.written new.out) status

    -- what is kept of it
    abbrev pub ReadsCopiesKept : List ℕ → List ℕ → ℕ → ℕ → Past → ℕ → Type 0
    ReadsCopiesKept user path from count past status =
        NothingHappened ((new.backup ≡ old.backup) × Unused old new) past (of_disk.state old.disk) (of_disk.state new.disk)
        ⊎ ReadCopyKept past (Unused old new) user path from count (of_disk.state old.disk) (of_disk.state new.disk) (of_backup.state old.backup) (of_backup.state new.backup)
        (of_acls.left acls) (of_acls.left acls') (of_rand.to_come old.rand) (of_rand.to_come new.rand) (of_copies.state old.copies) (of_copies.state new.copies)
        (of_out.written old.out) (of_out.written new.out) status
