-- What `hkfs` does, over what it works on.
use Rattle.std.specs.Prelude.{◌≡◌, ◌⊎◌, ℕ, List, Result}
use Rattle.clap.specs.Words.{Text}
use Rattle.hk_base.specs.Faults.{Rose}
use Rattle.hk_base.specs.declared.disk.Disk as disks
use Rattle.hk_base.specs.declared.outside.Source as sources
use Rattle.hk_base.specs.declared.outside.Sink as sinks
use Rattle.hk_base.specs.declared.outside.Words as random
use Rattle.body_stream.specs.declared.vault.Vault as vaults
use Rattle.prop_text.specs.declared.props.Props.{Props}
use Rattle.world_run.specs.Ledger.{Past}
use Rattle.hk_runs.specs.Headline.{FromSoundFiles, NothingHappened}
use Rattle.fs_command_line.specs.Orders.{Names}
use Rattle.fs_command_line.specs.declared.order.FsOrder.{FsOrder}
use Rattle.fs_command_line.specs.declared.order.FsOrder.TheVariants.{Put, Read}
use Rattle.clap_lines.specs.declared.told.OrderFault.{OrderFault}
use Rattle.data_stream.specs.Commands.{Obeys, PutKept, PutUnder, PutsFile, ReadKept, ReadUnder, ReadsFile, RefusesUsage, ShowsText, WantsMemory}
use Rattle.data_stream.specs.Statuses.{HasReason, Surroundings}

-- what each command works on: the disk, the output, the source of random words, the vault and the clock
pub record Files (D K W V C : Type 0) : Type 0 where
  pub disk : D
  pub out : K
  pub rand : W
  pub vault : V
  pub clock : C

abbrev pub files : {D K W V C : Type 0} → D → K → W → V → C → Files D K W V C
files disk out rand vault clock = record { disk = disk; out = out; rand = rand; vault = vault; clock = clock }

-- the vault, the random words and the clock are unchanged
abbrev pub Unused : {D K W V C : Type 0} → Files D K W V C → Files D K W V C → Type 0
Unused old new = (new.vault ≡ old.vault) × (new.rand ≡ old.rand) × (new.clock ≡ old.clock)

-- so are they and the input
abbrev pub UnusedAll : {D K W V C S : Type 0} → Files D K W V C → Files D K W V C → S → S → Type 0
UnusedAll old new input input' = (input' ≡ input) × (new.vault ≡ old.vault) × (new.rand ≡ old.rand) × (new.clock ≡ old.clock)

-- all but the output is unchanged
abbrev pub WritesAlone : {D K W V C A S : Type 0} → Files D K W V C → Files D K W V C → A → A → S → S → Type 0
WritesAlone old new acls acls' input input' = (new.disk ≡ old.disk) × (acls' ≡ acls) × (input' ≡ input) × (new.vault ≡ old.vault) × (new.rand ≡ old.rand) × (new.clock ≡ old.clock)

-- for the user and the path of the put that the words name
abbrev pub ForPut : List Text → (List ℕ → List ℕ → ℕ → Type 0) → ℕ → Type 0
ForPut words Does status = (user path : List ℕ) → Names (Put user path) words → Does user path status

-- for the user, the path and the range of the read that the words name
abbrev pub ForRead : List Text → (List ℕ → List ℕ → ℕ → ℕ → ℕ → Type 0) → ℕ → Type 0
ForRead words Does status = (user path : List ℕ) (from count : ℕ) → Names (Read user path from count) words → Does user path from count status

module _ {D K W V C : Type 0} (of_disk : disks.Ghosts D) (of_out : sinks.Ghosts K) (of_rand : random.Ghosts W) (of_vault : vaults.Ghosts V) (old new : Files D K W V C) where
  module _ {S : Type 0} (of_input : sources.Ghosts S) (input input' : S) where
    -- under these properties a file is put
    abbrev pub PutsUnder : Props → List ℕ → List ℕ → ℕ → Type 0
    PutsUnder props user path status =
        PutUnder props (UnusedAll old new input input') user path (of_disk.state old.disk) (of_disk.state new.disk) (of_rand.to_come old.rand) (of_rand.to_come new.rand)
        (of_input.left input) (of_input.left input') (of_vault.state old.vault) (of_vault.state new.vault) (of_out.written old.out) (of_out.written new.out) status

    module _ {A : Type 0} (of_acls : sources.Ghosts A) (acls acls' : A) where
      -- a file is put
      abbrev pub PutsBody : List ℕ → List ℕ → ℕ → Type 0
      PutsBody user path status =
          PutsFile (new.disk ≡ old.disk) (UnusedAll old new input input') user path (of_disk.state old.disk) (of_disk.state new.disk) (of_acls.left acls) (of_acls.left acls')
          (of_rand.to_come old.rand) (of_rand.to_come new.rand) (of_input.left input) (of_input.left input') (of_vault.state old.vault) (of_vault.state new.vault)
          (of_out.written old.out) (of_out.written new.out) status

      -- what is kept of it
      abbrev pub PutKeeps : List ℕ → List ℕ → Past → ℕ → Type 0
      PutKeeps user path past status =
          NothingHappened (UnusedAll old new input input') past (of_disk.state old.disk) (of_disk.state new.disk)
          ⊎ PutKept past user path (of_disk.state old.disk) (of_disk.state new.disk) (of_acls.left acls) (of_acls.left acls') (of_rand.to_come old.rand) (of_rand.to_come new.rand)
          (of_input.left input) (of_input.left input') (of_vault.state old.vault) (of_vault.state new.vault) (of_out.written old.out) (of_out.written new.out) status

  module _ {A : Type 0} (of_acls : sources.Ghosts A) (acls acls' : A) where
    -- a range is read
    abbrev pub ReadsBody : List ℕ → List ℕ → ℕ → ℕ → ℕ → Type 0
    ReadsBody user path from count status =
        ReadsFile (new.disk ≡ old.disk) (Unused old new) user path from count (of_disk.state old.disk) (of_disk.state new.disk) (of_acls.left acls) (of_acls.left acls')
        (of_rand.to_come old.rand) (of_rand.to_come new.rand) (of_vault.state old.vault) (of_vault.state new.vault) (of_out.written old.out) (of_out.written new.out) status

    -- what is kept of it
    abbrev pub ReadKeeps : List ℕ → List ℕ → ℕ → ℕ → Past → ℕ → Type 0
    ReadKeeps user path from count past status =
        NothingHappened (Unused old new) past (of_disk.state old.disk) (of_disk.state new.disk)
        ⊎ ReadKept past user path from count (of_disk.state old.disk) (of_disk.state new.disk) (of_acls.left acls) (of_acls.left acls') (of_rand.to_come old.rand) (of_rand.to_come new.rand)
        (of_vault.state old.vault) (of_vault.state new.vault) (of_out.written old.out) (of_out.written new.out) status

  -- under these properties a range is read
  abbrev pub ReadsUnder : Props → List ℕ → List ℕ → ℕ → ℕ → ℕ → Type 0
  ReadsUnder props user path from count status =
      ReadUnder props (Unused old new) user path from count (of_disk.state old.disk) (of_disk.state new.disk) (of_rand.to_come old.rand) (of_rand.to_come new.rand)
      (of_vault.state old.vault) (of_vault.state new.vault) (of_out.written old.out) (of_out.written new.out) status

module _ {D K W V C A S : Type 0} (of_out : sinks.Ghosts K) (old new : Files D K W V C) (acls acls' : A) (input input' : S) where
  -- there is no memory to read the words
  abbrev pub LacksMemory : ℕ → Type 0
  LacksMemory status = WantsMemory (WritesAlone old new acls acls' input input') (of_out.written old.out) (of_out.written new.out) status

  -- the words are refused, or there is no memory to read them
  abbrev pub RefusesWords : ℕ → Type 0
  RefusesWords status = RefusesUsage (WritesAlone old new acls acls' input input') (of_out.written old.out) (of_out.written new.out) status ⊎ LacksMemory status

  -- a text is shown, or there is no memory to read the words
  abbrev pub ShowsOwnText : ℕ → Type 0
  ShowsOwnText status = ShowsText (WritesAlone old new acls acls' input input') (of_out.written old.out) (of_out.written new.out) status ⊎ LacksMemory status

module _ {D K W V C A S : Type 0} (of_disk : disks.Ghosts D) (of_out : sinks.Ghosts K) (of_rand : random.Ghosts W) (of_vault : vaults.Ghosts V) (of_acls : sources.Ghosts A) (of_input : sources.Ghosts S)
    (old new : Files D K W V C) (acls acls' : A) (input input' : S) where
  -- each of these does so, or there is no memory to read the words

  abbrev pub PutsByWords : List ℕ → List ℕ → ℕ → Type 0
  PutsByWords user path status = PutsBody of_disk of_out of_rand of_vault old new of_input input input' of_acls acls acls' user path status ⊎ LacksMemory of_out old new acls acls' input input' status

  abbrev pub ReadsByWords : List ℕ → List ℕ → ℕ → ℕ → ℕ → Type 0
  ReadsByWords user path from count status =
      (ReadsBody of_disk of_out of_rand of_vault old new of_acls acls acls' user path from count status × (input' ≡ input)) ⊎ LacksMemory of_out old new acls acls' input input' status

  abbrev pub PutKeepsByWords : List ℕ → List ℕ → ℕ → Type 0
  PutKeepsByWords user path status =
      FromSoundFiles (of_disk.state old.disk) (λ past status. PutKeeps of_disk of_out of_rand of_vault old new of_input input input' of_acls acls acls' user path past status ⊎ LacksMemory of_out old new acls acls' input input' status) status

  abbrev pub ReadKeepsByWords : List ℕ → List ℕ → ℕ → ℕ → ℕ → Type 0
  ReadKeepsByWords user path from count status =
      FromSoundFiles (of_disk.state old.disk) (λ past status. ReadKeeps of_disk of_out of_rand of_vault old new of_acls acls acls' user path from count past status ⊎ LacksMemory of_out old new acls acls' input input' status) status

  -- what is done at an order
  abbrev pub CarriesOut : Result FsOrder OrderFault → ℕ → Type 0
  CarriesOut order status =
      Obeys order (λ user path. PutsBody of_disk of_out of_rand of_vault old new of_input input input' of_acls acls acls' user path status)
      (λ user path from count. ReadsBody of_disk of_out of_rand of_vault old new of_acls acls acls' user path from count status × (input' ≡ input))
      (WritesAlone old new acls acls' input input') (of_out.written old.out) (of_out.written new.out) status

  -- what is kept at an order
  abbrev pub KeepsAt : Result FsOrder OrderFault → Past → ℕ → Type 0
  KeepsAt order past status =
      Obeys order (λ user path. PutKeeps of_disk of_out of_rand of_vault old new of_input input input' of_acls acls acls' user path past status)
      (λ user path from count. ReadKeeps of_disk of_out of_rand of_vault old new of_acls acls acls' user path from count past status)
      (WritesAlone old new acls acls' input input') (of_out.written old.out) (of_out.written new.out) status

  -- The status has a good reason: `mistake` says that the words have a mistake, and `puts` that they name a put.
  abbrev pub HasItsReason : Type 0 → Type 0 → ℕ → Type 0
  HasItsReason mistake puts status = HasReason (record {
    mistake = mistake;
    puts = puts;
    properties_failed = Rose (of_acls.faults acls) (of_acls.faults acls');
    input_failed = Rose (of_input.faults input) (of_input.faults input');
    output_failed = Rose (of_out.faults old.out) (of_out.faults new.out);
    vault_failed = Rose (of_vault.state old.vault).faults (of_vault.state new.vault).faults;
    disk = of_disk.state old.disk;
    disk' = of_disk.state new.disk;
    acls = of_acls.left acls;
    acls' = of_acls.left acls';
    words = of_rand.to_come old.rand;
    words' = of_rand.to_come new.rand;
    input = of_input.left input;
    vault = of_vault.state old.vault;
  }) status
