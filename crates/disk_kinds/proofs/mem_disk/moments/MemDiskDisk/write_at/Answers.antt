use Rattle.std.proofs.Common.{◌/◌, length, take, arith, sym, subst, ap, length-take}
use Rattle.hk_base.specs.Disk.{written, Torn}
use Rattle.disk_kinds.specs.declared.mem_disk.Change.TheVariants.{Written}
use Rattle.disk_kinds.specs.Past.{now_of, the_file}
use Rattle.disk_kinds.proofs.Puts.{put_call, put_reads, put_leaves, change_follows, torn_written}
use Rattle.disk_kinds.proofs.mem_disk.moments.MemDiskDisk.write_at.Goals as goal

pub returns-in-Ok-write_part-clause-crash : goal.returns-in-Ok-write_part-clause-crash
returns-in-Ok-write_part-clause-crash c b h =
    let file = c.args.file in
    let f = the_file (now_of c.args.self.now) file in
    let bytes = c.args.bytes.now in
    let torn = torn_written c.args.at (length bytes) bytes f.reads (c.requires.place) (omega arith) in
    change_follows file f (written c.args.at bytes f.reads) (Written c.args.at (length bytes)) torn b (put_leaves file _ _ _ _ _ c.in-Ok-write_part.ensures.ok b h)

pub returns-in-Ok-write_part-clause-call : goal.returns-in-Ok-write_part-clause-call
returns-in-Ok-write_part-clause-call c =
    put_call c.args.file _ _ _ _ _ _ _ c.requires.file (omega (arith, c.in-Ok.ensures.cause.later, ap (λ p. p.faults) c.in-Ok-write_part.ensures.plan)) c.in-Ok-write_part.ensures.ok

pub returns-in-Ok-write_part-2-clause-torn : goal.returns-in-Ok-write_part-2-clause-torn
returns-in-Ok-write_part-2-clause-torn c =
    let file = c.args.file in
    let f = the_file (now_of c.args.self.now) file in
    let bytes = c.args.bytes.now in
    let half = take (length bytes / 2) bytes in
    let torn = torn_written c.args.at (length bytes) half f.reads (c.requires.place) (omega (arith, length-take (length bytes / 2) bytes)) in
    subst (Torn c.args.at (length bytes) f.reads) (sym (put_reads file _ _ _ _ _ c.in-Ok-write_part-2.ensures.ok)) torn

pub returns-in-Ok-write_part-2-clause-crash : goal.returns-in-Ok-write_part-2-clause-crash
returns-in-Ok-write_part-2-clause-crash c b h =
    let file = c.args.file in
    let f = the_file (now_of c.args.self.now) file in
    let bytes = c.args.bytes.now in
    let half = take (length bytes / 2) bytes in
    let torn = torn_written c.args.at (length bytes) half f.reads (c.requires.place) (omega (arith, length-take (length bytes / 2) bytes)) in
    change_follows file f (written c.args.at half f.reads) (Written c.args.at (length bytes)) torn b (put_leaves file _ _ _ _ _ c.in-Ok-write_part-2.ensures.ok b h)

pub returns-in-Ok-write_part-2-clause-call : goal.returns-in-Ok-write_part-2-clause-call
returns-in-Ok-write_part-2-clause-call c =
    put_call c.args.file _ _ _ _ _ _ _ c.requires.file (omega (arith, c.in-Err.ensures.cause.later, ap (λ p. p.faults) c.in-Ok-write_part-2.ensures.plan)) c.in-Ok-write_part-2.ensures.ok
