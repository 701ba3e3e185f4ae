use Rattle.world_events.specs.Events.{LeadsAt}
use Rattle.world_rows.specs.Rows.{table_of}
use Rattle.raw_copy.specs.Copies.{copying}
use Rattle.raw_copy.specs.Refusals.{FromRefused, RefusedFor, ZoneRefused}
use Rattle.raw_copy.proofs.RefusalLemmas.{refused_so}
use Rattle.raw_copy.proofs.CopyLemmas.{from_ended, never_started, over_ends}
use Rattle.raw_copy.proofs.backup.copy_from.Goals as goal

pub returns-clause-copies : goal.returns-clause-copies
returns-clause-copies g c =
    from_ended c.args.from.now c.args.to.now c.copy_zone-result.result c.copied_or.result c.copied_or.ensures _ _ _ _ _ _ _ _ c.args.name c.copy_zone-result.new.names
    c.copy_zone-result.ensures.orders c.copy_zone-result.ensures.all c.copy_zone-result.ensures.part

pub returns-clause-ends : goal.returns-clause-ends
returns-clause-ends g c why fault = over_ends _ c.copy_zone-result.result c.copied_or.result why c.copied_or.ensures c.copy_zone-result.ensures.ends fault

pub returns-clause-begun : goal.returns-clause-begun
returns-clause-begun g c fault same = never_started c.copy_zone-result.result c.copied_or.result fault c.copied_or.ensures same

pub returns-clause-refused : goal.returns-clause-refused
returns-clause-refused g c why fault =
    over_ends (RefusedFor (FromRefused (LeadsAt g.D.Disk.state g.W.Words.to_come c.args.now) g.E.Disk.state c.args.from.now c.args.to.now (copying (table_of c.args.world.now) (g.V.Vault.state c.args.vault.now) c.args.name (g.U.Vault.state c.args.copies.now)) (record { disk = c.args.disk.now; world = c.args.world.now; words = c.args.rand.now }) (record { disk = c.copy_zone-result.new.disk; world = c.copy_zone-result.new.world; words = c.copy_zone-result.new.rand }) c.args.backup.now c.copy_zone-result.new.backup)) c.copy_zone-result.result c.copied_or.result why c.copied_or.ensures
    (refused_so c.copy_zone-result.result (ZoneRefused (LeadsAt g.D.Disk.state g.W.Words.to_come c.args.now) g.E.Disk.state c.args.from.now c.args.to.now (copying (table_of c.args.world.now) (g.V.Vault.state c.args.vault.now) c.args.name (g.U.Vault.state c.args.copies.now)) (record { disk = c.args.disk.now; world = c.args.world.now; words = c.args.rand.now }) (record { disk = c.copy_zone-result.new.disk; world = c.copy_zone-result.new.world; words = c.copy_zone-result.new.rand }) c.args.backup.now c.copy_zone-result.new.backup c.copy_zone-result.new.names) (FromRefused (LeadsAt g.D.Disk.state g.W.Words.to_come c.args.now) g.E.Disk.state c.args.from.now c.args.to.now (copying (table_of c.args.world.now) (g.V.Vault.state c.args.vault.now) c.args.name (g.U.Vault.state c.args.copies.now)) (record { disk = c.args.disk.now; world = c.args.world.now; words = c.args.rand.now }) (record { disk = c.copy_zone-result.new.disk; world = c.copy_zone-result.new.world; words = c.copy_zone-result.new.rand }) c.args.backup.now c.copy_zone-result.new.backup) (λ w r. (c.copy_zone-result.new.names, r)) c.copy_zone-result.ensures.refused) fault
