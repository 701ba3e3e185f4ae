use Rattle.std.proofs.Common.{subst}
use Rattle.std.specs.Prelude.{Result, IfErr}
use Rattle.file_orders.specs.declared.ends.FsEnd.{FsEnd}
use Rattle.inode_tree.specs.declared.rows.Row.{Row}
use Rattle.row_copies.specs.Clusters.{EndsFor}
use Rattle.world_events.specs.Events.{LeadsAt, standing_of}
use Rattle.world_rows.specs.Rows.{place_rows, table_of}
use Rattle.raw_copy.specs.Refusals.{CheckRefused}
use Rattle.raw_copy.proofs.RefusalLemmas.{zone_ends}
use Rattle.raw_copy.proofs.CopyLemmas.{directory_if, look_reads, looked_ends, root_found}
use Rattle.raw_copy.proofs.zone.check_seen.Goals as goal

pub returns-in-Ok-clause-directory : goal.returns-in-Ok-clause-directory
returns-in-Ok-clause-directory g c = directory_if c.zone_only.result _ c.in-Ok.row (root_found g.D.Disk.state g.W.Words.to_come c.args.events.now c.look_at.new.events c.requires.ready c.args.user.now c.requires.user c.args.place.now c.root-root.result c.look_at.result c.look_at.ensures.looks c.requires.place c.root-root.ensures c.in-Ok.row c.in-Ok.is) c.zone_only.ensures.directory

pub returns-in-Ok-clause-read : goal.returns-in-Ok-clause-read
returns-in-Ok-clause-read g c = let w = look_reads g.D.Disk.state g.W.Words.to_come c.args.events.now c.look_at.new.events c.requires.ready c.args.user.now c.requires.user c.args.place.now c.root-root.result c.look_at.result c.look_at.ensures.looks in w.1

pub returns-in-Ok-clause-world : goal.returns-in-Ok-clause-world
returns-in-Ok-clause-world g c = let w = look_reads g.D.Disk.state g.W.Words.to_come c.args.events.now c.look_at.new.events c.requires.ready c.args.user.now c.requires.user c.args.place.now c.root-root.result c.look_at.result c.look_at.ensures.looks in w.0.0

pub returns-in-Ok-clause-disk : goal.returns-in-Ok-clause-disk
returns-in-Ok-clause-disk g c = let w = look_reads g.D.Disk.state g.W.Words.to_come c.args.events.now c.look_at.new.events c.requires.ready c.args.user.now c.requires.user c.args.place.now c.root-root.result c.look_at.result c.look_at.ensures.looks in w.0.1.0

pub returns-in-Ok-clause-words : goal.returns-in-Ok-clause-words
returns-in-Ok-clause-words g c = let w = look_reads g.D.Disk.state g.W.Words.to_come c.args.events.now c.look_at.new.events c.requires.ready c.args.user.now c.requires.user c.args.place.now c.root-root.result c.look_at.result c.look_at.ensures.looks in w.0.1.1.0

pub returns-clause-read : goal.returns-clause-read
returns-clause-read g c = let w = look_reads g.D.Disk.state g.W.Words.to_come c.args.events.now c.look_at.new.events c.requires.ready c.args.user.now c.requires.user c.args.place.now c.root-root.result c.look_at.result c.look_at.ensures.looks in w.1

pub returns-clause-world : goal.returns-clause-world
returns-clause-world g c = let w = look_reads g.D.Disk.state g.W.Words.to_come c.args.events.now c.look_at.new.events c.requires.ready c.args.user.now c.requires.user c.args.place.now c.root-root.result c.look_at.result c.look_at.ensures.looks in w.0.0

pub returns-clause-disk : goal.returns-clause-disk
returns-clause-disk g c = let w = look_reads g.D.Disk.state g.W.Words.to_come c.args.events.now c.look_at.new.events c.requires.ready c.args.user.now c.requires.user c.args.place.now c.root-root.result c.look_at.result c.look_at.ensures.looks in w.0.1.0

pub returns-clause-words : goal.returns-clause-words
returns-clause-words g c = let w = look_reads g.D.Disk.state g.W.Words.to_come c.args.events.now c.look_at.new.events c.requires.ready c.args.user.now c.requires.user c.args.place.now c.root-root.result c.look_at.result c.look_at.ensures.looks in w.0.1.1.0

pub returns-clause-ends : goal.returns-clause-ends
returns-clause-ends g c =
    subst (λ (r : Result Row FsEnd). IfErr r (EndsFor ⊥ ⊥ (CheckRefused (LeadsAt g.D.Disk.state g.W.Words.to_come c.args.events.now.now) (place_rows (table_of c.args.events.now.world.now) c.args.place.now) (standing_of c.args.events.now) (standing_of c.look_at.new.events)))) c.in-Err.is
    (looked_ends g.D.Disk.state g.W.Words.to_come c.args.events.now c.look_at.new.events c.requires.ready c.args.user.now c.requires.user c.args.place.now c.root-root.result c.look_at.result c.look_at.ensures.looks (place_rows (table_of c.args.events.now.world.now) c.args.place.now))

pub returns-in-Ok-clause-ends : goal.returns-in-Ok-clause-ends
returns-in-Ok-clause-ends g c =
    zone_ends (LeadsAt g.D.Disk.state g.W.Words.to_come c.args.events.now.now) (place_rows (table_of c.args.events.now.world.now) c.args.place.now) (standing_of c.args.events.now) (standing_of c.look_at.new.events) c.in-Ok.row c.zone_only.result
    (root_found g.D.Disk.state g.W.Words.to_come c.args.events.now c.look_at.new.events c.requires.ready c.args.user.now c.requires.user c.args.place.now c.root-root.result c.look_at.result c.look_at.ensures.looks c.requires.place c.root-root.ensures c.in-Ok.row c.in-Ok.is) c.zone_only.ensures.rule
