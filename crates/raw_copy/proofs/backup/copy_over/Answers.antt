use Rattle.std.proofs.Common.{◌∙◌, ap, inl, inr, refl, subst, IsTrue, Bool}
use Rattle.std.specs.Prelude.{Result, IsErrOf, ⊤}
use Rattle.frame_log.specs.declared.fault.StartFault.{StartFault}
use Rattle.frame_log.specs.declared.fault.StartFault.TheVariants as start
use Rattle.name_core.specs.State.{RunningNames}
use Rattle.name_store.specs.Store.{OpensNames}
use Rattle.file_orders.specs.declared.ends.FsEnd.{FsEnd}
use Rattle.file_orders.specs.declared.ends.FsEnd.TheVariants as end
use Rattle.name_core.proofs.LoggingLemmas.{rose_since}
use Rattle.backup_names.proofs.OrderLemmas.{started_holds}
use Rattle.world_events.specs.Events.{LeadsAt}
use Rattle.world_rows.specs.Rows.{table_of}
use Rattle.raw_copy.specs.Copies.{copying, not_started}
use Rattle.raw_copy.specs.Refusals.{FromRefused, OverRefused}
use Rattle.raw_copy.proofs.RefusalLemmas.{end_so}
use Rattle.raw_copy.proofs.CopyLemmas.{opened_copies, own_ends, read_nothing, same_start}
use Rattle.raw_copy.proofs.backup.copy_over.Goals as goal

pub copy_from-requires-clause-holds : goal.copy_from-requires-clause-holds
copy_from-requires-clause-holds g c = let h = started_holds c.args.batch (g.E.Disk.state c.args.backup.now) (g.E.Disk.state c.start.new.disk) c.in-Ok.name (λ telling. subst (λ (b : Bool). IsTrue b) c.start.ensures.opens.run.tells telling) c.in-Ok.ensures.started in h.0

pub copy_from-requires-clause-settled : goal.copy_from-requires-clause-settled
copy_from-requires-clause-settled g c = let h = started_holds c.args.batch (g.E.Disk.state c.args.backup.now) (g.E.Disk.state c.start.new.disk) c.in-Ok.name (λ telling. subst (λ (b : Bool). IsTrue b) c.start.ensures.opens.run.tells telling) c.in-Ok.ensures.started in h.1

pub returns-in-Ok-clause-copies : goal.returns-in-Ok-clause-copies
returns-in-Ok-clause-copies g c =
    inr (opened_copies c.args.batch c.args.from.now c.args.to.now c.copy_from.result _ _ _ _ _ _ (g.E.Disk.state c.args.backup.now) (g.E.Disk.state c.start.new.disk) (g.E.Disk.state c.copy_from.new.backup) c.in-Ok.name c.in-Ok.ensures.started c.start.ensures.opens.run c.copy_from.ensures.copies c.copy_from.ensures.begun)

pub returns-in-Err-clause-copies : goal.returns-in-Err-clause-copies
returns-in-Err-clause-copies g c = inl (record {
  fault = c.in-Err.fault;
  result_is = refl;
  opens = subst (λ (r : Result RunningNames StartFault). OpensNames (g.E.Disk.state c.args.backup.now) (g.E.Disk.state c.start.new.disk) (IsErrOf r)) c.in-Err.is c.start.ensures.opens;
  same_table = refl;
  same_vault = refl;
  same_copies = refl;
})

pub returns-in-Err-clause-read : goal.returns-in-Err-clause-read
returns-in-Err-clause-read g c = read_nothing g.D.Disk.state g.W.Words.to_come c.args.now (record { disk = c.args.disk.now; world = c.args.world.now; words = c.args.rand.now }) c.requires.ready

pub returns-in-Ok-clause-store : goal.returns-in-Ok-clause-store
returns-in-Ok-clause-store g c fault =
    rose_since (g.E.Disk.state c.args.backup.now).faults (g.E.Disk.state c.start.new.disk).faults (g.E.Disk.state c.copy_from.new.backup).faults c.start.ensures.opens.run.faults (c.copy_from.ensures.ends end.StoreFault fault)

pub returns-in-Ok-clause-vault : goal.returns-in-Ok-clause-vault
returns-in-Ok-clause-vault g c fault = c.copy_from.ensures.ends end.VaultFault fault

pub returns-in-Ok-clause-own : goal.returns-in-Ok-clause-own
returns-in-Ok-clause-own g c why fault = own_ends _ _ (λ (w : FsEnd). ⊤) why (c.copy_from.ensures.ends why fault)

pub returns-in-Err-clause-store : goal.returns-in-Err-clause-store
returns-in-Err-clause-store g c fault = absurd cc

pub returns-in-Err-clause-vault : goal.returns-in-Err-clause-vault
returns-in-Err-clause-vault g c fault = absurd cc

pub returns-in-Err-clause-own : goal.returns-in-Err-clause-own
returns-in-Err-clause-own g c why fault = absurd cc

pub returns-in-Ok-clause-start : goal.returns-in-Ok-clause-start
returns-in-Ok-clause-start g c same = absurd (c.copy_from.ensures.begun start.StoreFault same)

pub returns-in-Err-clause-start : goal.returns-in-Err-clause-start
returns-in-Err-clause-start g c same = c.start.ensures.opens.why.cause (c.in-Err.is ∙ ap not_started (same_start c.in-Err.fault start.StoreFault same))

pub returns-in-Ok-clause-refused : goal.returns-in-Ok-clause-refused
returns-in-Ok-clause-refused g c why fault =
    end_so (FromRefused (LeadsAt g.D.Disk.state g.W.Words.to_come c.args.now) g.E.Disk.state c.args.from.now c.args.to.now (copying (table_of c.args.world.now) (g.V.Vault.state c.args.vault.now) c.in-Ok.name (g.U.Vault.state c.args.copies.now)) (record { disk = c.args.disk.now; world = c.args.world.now; words = c.args.rand.now }) (record { disk = c.copy_from.new.disk; world = c.copy_from.new.world; words = c.copy_from.new.rand }) c.start.new.disk c.copy_from.new.backup)
    (OverRefused (LeadsAt g.D.Disk.state g.W.Words.to_come c.args.now) g.E.Disk.state c.args.batch c.args.from.now c.args.to.now (table_of c.args.world.now) (g.V.Vault.state c.args.vault.now) (g.U.Vault.state c.args.copies.now) (record { disk = c.args.disk.now; world = c.args.world.now; words = c.args.rand.now }) (record { disk = c.copy_from.new.disk; world = c.copy_from.new.world; words = c.copy_from.new.rand }) c.args.backup.now c.copy_from.new.backup) why
    (λ r. record { opened = c.start.new.disk; names = c.in-Ok.name; starts = c.in-Ok.ensures.started; refused = r }) (c.copy_from.ensures.refused why fault)

pub returns-in-Err-clause-refused : goal.returns-in-Err-clause-refused
returns-in-Err-clause-refused g c why fault = absurd cc
