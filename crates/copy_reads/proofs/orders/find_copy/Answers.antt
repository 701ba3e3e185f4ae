use Rattle.std.proofs.Common.{inl, refl, rules}
use Rattle.backup_names.proofs.OrderLemmas.{no_orders}
use Rattle.copy_reads.proofs.CauseLemmas.{looked_cause, looked_no_key}
use Rattle.copy_reads.proofs.FindLemmas.{looked}
use Rattle.copy_reads.proofs.orders.find_copy.Goals as goal

pub returns-in-Ok-clause-finds : goal.returns-in-Ok-clause-finds
returns-in-Ok-clause-finds g c =
    looked c.args.name.now.store.table.rows c.args.path.now c.in-Ok.place c.look_file.result (search rules) c.look_file.ensures.file c.look_file.ensures.directory c.look_file.ensures.fault c.look_file.ensures.failure
    (looked_no_key (g.E.Disk.state c.args.backup.now) (g.E.Disk.state c.look_file.new.disk) c.args.name.now c.look_file.new.name c.args.user.now c.in-Ok.place c.look_file.result c.look_file.ensures.cause)

pub returns-in-Ok-clause-cause : goal.returns-in-Ok-clause-cause
returns-in-Ok-clause-cause g c =
    looked_cause c.args.name.now c.args.user.now c.args.path.now (g.E.Disk.state c.args.backup.now) (g.E.Disk.state c.look_file.new.disk) c.look_file.new.name c.in-Ok.place c.look_file.result (search rules) c.look_file.ensures.directory
    c.look_file.ensures.cause

pub returns-in-Err-BadPath-clause-cause : goal.returns-in-Err-BadPath-clause-cause
returns-in-Err-BadPath-clause-cause g c = inl (search rules, refl)

pub returns-in-Err-BadPath-clause-orders : goal.returns-in-Err-BadPath-clause-orders
returns-in-Err-BadPath-clause-orders g c = no_orders _ _

pub returns-in-Err-NoMemory-clause-orders : goal.returns-in-Err-NoMemory-clause-orders
returns-in-Err-NoMemory-clause-orders g c = no_orders _ _
