-- What a view of a key log is to the store that has the log open.
use Rattle.std.proofs.Common.{◌≡◌, ℕ, List, map, Some, option_map, subst}
use Rattle.hk_base.specs.Disk.{DiskState, Reads, Tells}
use Rattle.frame_log.proofs.Layers.{still_stands}
use Rattle.key_rows.specs.Records.{spelling}
use Rattle.key_rows.specs.Table.{Table, no_keys}
use Rattle.key_rows.specs.declared.rows.KeyCommand.{KeyCommand}
use Rattle.kms_store.specs.Replay.{key_replay}
use Rattle.kms_store.specs.Store.{IsDamagedAt, IsKeyLog, StoreState}
use Rattle.kms_store.specs.Views.{IsLead, ShowsAll}
use Rattle.kms_store.proofs.Layers.{finds, not_damaged, sound_store}

pub shows_all : (d : DiskState) (lead : StoreState) (commands found : List KeyCommand) (table : Table) → IsLead d lead commands → IsKeyLog (d.reads 0) found table → ShowsAll lead commands table
shows_all d lead commands found table l log =
    let f = finds (d.reads 0) commands lead.pending lead.table.keys found table (sound_store d lead commands l.file l.fits l.store) log in
    record { kept = f.kept; makes = subst (λ (cs : List KeyCommand). key_replay no_keys cs ≡ Some table) f.ops_are log.makes }

pub never_damaged : (d : DiskState) (lead : StoreState) (commands : List KeyCommand) (at : ℕ) → IsLead d lead commands → IsDamagedAt (d.reads 0) at → ⊥
never_damaged d lead commands at l = not_damaged (d.reads 0) commands lead.pending lead.table.keys at (sound_store d lead commands l.file l.fits l.store)

-- calls that only read leave the log to the lead
pub still_lead : (old new : DiskState) (lead : StoreState) (commands : List KeyCommand) → Reads 0 old new → Tells old → IsLead old lead commands → IsLead new lead commands
still_lead old new lead commands same tells l = record {
  file = l.file;
  fits = l.fits;
  store = record {
    spelled = l.store.spelled;
    makes = l.store.makes;
    waits = l.store.waits;
    log = still_stands 0 old new lead.log (map spelling commands) (option_map spelling lead.pending) same l.file tells l.store.log;
    materials = l.store.materials;
  };
}
