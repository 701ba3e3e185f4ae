use Rattle.std.proofs.Common.{inr, refl}
use Rattle.backup_names.proofs.OrderLemmas.{no_orders}
use Rattle.world_events.specs.Events.{LeadsAt}
use Rattle.world_rows.specs.Rows.{table_of}
use Rattle.raw_copy.specs.Copies.{copying}
use Rattle.raw_copy.specs.Refusals.{AreNoTexts, PlaceRefused, ZoneRefused}
use Rattle.raw_copy.proofs.RefusalLemmas.{not_read_cause, refused_so, texts_refused}
use Rattle.raw_copy.proofs.CopyLemmas.{is_place, read_nothing}
use Rattle.raw_copy.proofs.zone.copy_zone.Goals as goal

pub copy_named-requires-clause-place : goal.copy_named-requires-clause-place
copy_named-requires-clause-place g c = let t = c.in-Ok.ensures.texts in is_place c.args.from.now c.in-Ok.texts.0 t.place_is

pub returns-in-Err-clause-part : goal.returns-in-Err-clause-part
returns-in-Err-clause-part g c = inr (record { vault = refl; names = refl; copies = refl })

pub returns-in-Err-clause-read : goal.returns-in-Err-clause-read
returns-in-Err-clause-read g c = read_nothing g.D.Disk.state g.W.Words.to_come c.args.now (record { disk = c.args.disk.now; world = c.args.world.now; words = c.args.rand.now }) c.requires.ready

pub returns-in-Err-clause-orders : goal.returns-in-Err-clause-orders
returns-in-Err-clause-orders g c = no_orders (g.E.Disk.state c.args.backup.now) c.args.names.now

pub returns-clause-read : goal.returns-clause-read
returns-clause-read g c = read_nothing g.D.Disk.state g.W.Words.to_come c.args.now (record { disk = c.args.disk.now; world = c.args.world.now; words = c.args.rand.now }) c.requires.ready

pub returns-clause-orders : goal.returns-clause-orders
returns-clause-orders g c = no_orders (g.E.Disk.state c.args.backup.now) c.args.names.now

pub returns-in-Err-clause-ends : goal.returns-in-Err-clause-ends
returns-in-Err-clause-ends g c = not_read_cause _ _ (AreNoTexts c.args.from.now c.args.to.now) c.in-Err.end c.in-Err.ensures.ends

pub returns-in-Err-clause-refused : goal.returns-in-Err-clause-refused
returns-in-Err-clause-refused g c =
    texts_refused (LeadsAt g.D.Disk.state g.W.Words.to_come c.args.now) g.E.Disk.state c.args.from.now c.args.to.now (copying (table_of c.args.world.now) (g.V.Vault.state c.args.vault.now) c.args.names.now (g.U.Vault.state c.args.copies.now)) (record { disk = c.args.disk.now; world = c.args.world.now; words = c.args.rand.now }) (record { disk = c.args.disk.now; world = c.args.world.now; words = c.args.rand.now }) c.args.backup.now c.args.backup.now c.args.names.now c.in-Err.end c.in-Err.ensures.ends

pub returns-in-Ok-superuser-clause-refused : goal.returns-in-Ok-superuser-clause-refused
returns-in-Ok-superuser-clause-refused g c =
    refused_so c.copy_named.result (PlaceRefused (LeadsAt g.D.Disk.state g.W.Words.to_come c.args.now) g.E.Disk.state c.in-Ok.texts.0 c.in-Ok.texts.1 (copying (table_of c.args.world.now) (g.V.Vault.state c.args.vault.now) c.args.names.now (g.U.Vault.state c.args.copies.now)) (record { disk = c.args.disk.now; world = c.args.world.now; words = c.args.rand.now }) (record { disk = c.copy_named.new.disk; world = c.copy_named.new.world; words = c.copy_named.new.rand }) c.args.backup.now c.copy_named.new.backup c.copy_named.new.names)
    (ZoneRefused (LeadsAt g.D.Disk.state g.W.Words.to_come c.args.now) g.E.Disk.state c.args.from.now c.args.to.now (copying (table_of c.args.world.now) (g.V.Vault.state c.args.vault.now) c.args.names.now (g.U.Vault.state c.args.copies.now)) (record { disk = c.args.disk.now; world = c.args.world.now; words = c.args.rand.now }) (record { disk = c.copy_named.new.disk; world = c.copy_named.new.world; words = c.copy_named.new.rand }) c.args.backup.now c.copy_named.new.backup c.copy_named.new.names)
    (λ why r. inr (c.in-Ok.texts.0, c.in-Ok.texts.1, c.in-Ok.ensures.texts, r)) c.copy_named.ensures.refused
