use Rattle.std.proofs.Common.{inr, refl, subst, sym}
use Rattle.backup_names.proofs.OrderLemmas.{no_orders}
use Rattle.row_copies.specs.Clusters.{IsTreeOfRows}
use Rattle.name_store.specs.Table.{NameTable}
use Rattle.world_rows.specs.Rows.{place_rows, table_of}
use Rattle.raw_copy.specs.Copies.{copying}
use Rattle.world_events.specs.Events.{LeadsAt}
use Rattle.raw_copy.proofs.RefusalLemmas.{check_cause, check_refused, place_refused}
use Rattle.raw_copy.proofs.CopyLemmas.{from_kept, place_copied, read_then, stopped_kept, table_kept}
use Rattle.raw_copy.proofs.zone.copy_named.Goals as goal

pub copy_place-requires-clause-world : goal.copy_place-requires-clause-world
copy_place-requires-clause-world g c = c.check_zone.ensures.read.ready

pub copy_place-requires-clause-tree : goal.copy_place-requires-clause-tree
copy_place-requires-clause-tree g c =
    subst (λ (t : NameTable). IsTreeOfRows (place_rows t c.args.place.now)) (sym (table_kept g.D.Disk.state g.W.Words.to_come c.args.now (record { disk = c.args.disk.now; world = c.args.world.now; words = c.args.rand.now }) (record { disk = c.check_zone.new.disk; world = c.check_zone.new.world; words = c.check_zone.new.rand }) c.check_zone.ensures.read)) (c.requires.trees c.args.place.now c.requires.place c.in-Ok.ensures.directory)

pub returns-in-Ok-clause-all : goal.returns-in-Ok-clause-all
returns-in-Ok-clause-all g c =
    from_kept c.copy_place.result c.args.place.now c.args.path.now (table_of c.args.world.now) (table_of c.check_zone.new.world) (g.V.Vault.state c.args.vault.now) c.args.names.now (g.U.Vault.state c.args.copies.now) (copying (table_of c.copy_place.new.world) (g.V.Vault.state c.copy_place.new.vault) c.copy_place.new.names (g.U.Vault.state c.copy_place.new.copies)) (table_kept g.D.Disk.state g.W.Words.to_come c.args.now (record { disk = c.args.disk.now; world = c.args.world.now; words = c.args.rand.now }) (record { disk = c.check_zone.new.disk; world = c.check_zone.new.world; words = c.check_zone.new.rand }) c.check_zone.ensures.read)
    (place_copied c.copy_place.result c.args.place.now c.args.path.now (copying (table_of c.check_zone.new.world) (g.V.Vault.state c.args.vault.now) c.args.names.now (g.U.Vault.state c.args.copies.now)) (copying (table_of c.copy_place.new.world) (g.V.Vault.state c.copy_place.new.vault) c.copy_place.new.names (g.U.Vault.state c.copy_place.new.copies)) c.copy_place.ensures.all c.copy_place.ensures.files c.copy_place.ensures.directories c.copy_place.ensures.zone)

pub returns-in-Ok-clause-part : goal.returns-in-Ok-clause-part
returns-in-Ok-clause-part g c = stopped_kept c.copy_place.result c.args.place.now c.args.path.now (table_of c.args.world.now) (table_of c.check_zone.new.world) (g.V.Vault.state c.args.vault.now) c.args.names.now (g.U.Vault.state c.args.copies.now) (copying (table_of c.copy_place.new.world) (g.V.Vault.state c.copy_place.new.vault) c.copy_place.new.names (g.U.Vault.state c.copy_place.new.copies)) (table_kept g.D.Disk.state g.W.Words.to_come c.args.now (record { disk = c.args.disk.now; world = c.args.world.now; words = c.args.rand.now }) (record { disk = c.check_zone.new.disk; world = c.check_zone.new.world; words = c.check_zone.new.rand }) c.check_zone.ensures.read) c.copy_place.ensures.part

pub returns-in-Ok-clause-read : goal.returns-in-Ok-clause-read
returns-in-Ok-clause-read g c = read_then g.D.Disk.state g.W.Words.to_come c.args.now (record { disk = c.args.disk.now; world = c.args.world.now; words = c.args.rand.now }) (record { disk = c.check_zone.new.disk; world = c.check_zone.new.world; words = c.check_zone.new.rand }) (record { disk = c.copy_place.new.disk; world = c.copy_place.new.world; words = c.copy_place.new.rand }) c.check_zone.ensures.read c.copy_place.ensures.read

pub returns-in-Err-clause-part : goal.returns-in-Err-clause-part
returns-in-Err-clause-part g c = inr (record { vault = refl; names = refl; copies = refl })

pub returns-in-Err-clause-orders : goal.returns-in-Err-clause-orders
returns-in-Err-clause-orders g c = no_orders (g.E.Disk.state c.args.backup.now) c.args.names.now

pub returns-in-Err-clause-ends : goal.returns-in-Err-clause-ends
returns-in-Err-clause-ends g c = check_cause (LeadsAt g.D.Disk.state g.W.Words.to_come c.args.now) (place_rows (table_of c.args.world.now) c.args.place.now) (record { disk = c.args.disk.now; world = c.args.world.now; words = c.args.rand.now }) (record { disk = c.check_zone.new.disk; world = c.check_zone.new.world; words = c.check_zone.new.rand }) _ _ c.in-Err.end c.in-Err.ensures.ends

pub returns-in-Err-clause-refused : goal.returns-in-Err-clause-refused
returns-in-Err-clause-refused g c =
    check_refused (LeadsAt g.D.Disk.state g.W.Words.to_come c.args.now) g.E.Disk.state c.args.place.now c.args.path.now (copying (table_of c.args.world.now) (g.V.Vault.state c.args.vault.now) c.args.names.now (g.U.Vault.state c.args.copies.now)) (record { disk = c.args.disk.now; world = c.args.world.now; words = c.args.rand.now }) (record { disk = c.check_zone.new.disk; world = c.check_zone.new.world; words = c.check_zone.new.rand }) c.args.backup.now c.args.backup.now c.args.names.now c.in-Err.end c.in-Err.ensures.ends

pub returns-in-Ok-clause-refused : goal.returns-in-Ok-clause-refused
returns-in-Ok-clause-refused g c =
    place_refused g.D.Disk.state g.W.Words.to_come c.args.now g.E.Disk.state c.args.place.now c.args.path.now (record { disk = c.args.disk.now; world = c.args.world.now; words = c.args.rand.now }) (record { disk = c.check_zone.new.disk; world = c.check_zone.new.world; words = c.check_zone.new.rand }) (record { disk = c.copy_place.new.disk; world = c.copy_place.new.world; words = c.copy_place.new.rand }) (g.V.Vault.state c.args.vault.now) (g.U.Vault.state c.args.copies.now) c.args.names.now c.args.backup.now c.copy_place.new.backup c.copy_place.new.names c.check_zone.ensures.read c.copy_place.result c.copy_place.ensures.refused
