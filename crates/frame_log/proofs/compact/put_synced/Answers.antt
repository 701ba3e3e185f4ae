use Rattle.std.proofs.Common.{length, sym, ◌∙◌, arith}
use Rattle.frame_log.proofs.Goings.{one}
use Rattle.frame_log.proofs.Openings.{run_then}
use Rattle.frame_log.proofs.Writes.{still, writes_one, writes_sync, writes_then, writes_whole}
use Rattle.frame_log.proofs.compact.put_synced.Goals as goal

pub returns-in_err-write_at-clause-writes : goal.returns-in_err-write_at-clause-writes
returns-in_err-write_at-clause-writes g c tells =
    writes_one c.args.at (length c.args.bytes.now) c.requires.file (omega arith) (omega arith) c.write_at.ensures.call (c.in_err-write_at.ensures.torn tells) c.write_at.ensures.crash

pub returns-in_err-sync-clause-writes : goal.returns-in_err-sync-clause-writes
returns-in_err-sync-clause-writes g c tells =
    let wrote = writes_whole c.args.at c.args.bytes.now c.requires.file (omega arith) (omega arith) (c.requires.place tells) c.write_at.ensures.call (c.in_ok-write_at.ensures.written tells) c.write_at.ensures.crash in
    writes_then (one c.write_at.ensures.call) wrote (one c.sync.ensures.call) (writes_sync c.requires.file (still c.write_at.ensures.call tells) c.sync.ensures.same c.sync.ensures.call)

pub returns-clause-writes : goal.returns-clause-writes
returns-clause-writes g c tells =
    let wrote = writes_whole c.args.at c.args.bytes.now c.requires.file (omega arith) (omega arith) (c.requires.place tells) c.write_at.ensures.call (c.in_ok-write_at.ensures.written tells) c.write_at.ensures.crash in
    writes_then (one c.write_at.ensures.call) wrote (one c.sync.ensures.call) (writes_sync c.requires.file (still c.write_at.ensures.call tells) c.sync.ensures.same c.sync.ensures.call)

pub returns-clause-written : goal.returns-clause-written
returns-clause-written g c tells = c.sync.ensures.same.reads (still c.write_at.ensures.call tells) ∙ c.in_ok-write_at.ensures.written tells

pub returns-clause-synced : goal.returns-clause-synced
returns-clause-synced g c tells =
    let tells1 = still c.write_at.ensures.call tells in
    λ b h. c.in_ok-sync.ensures.durable tells1 b h ∙ sym (c.sync.ensures.same.reads tells1)

pub returns-in_err-sync-clause-run : goal.returns-in_err-sync-clause-run
returns-in_err-sync-clause-run g c = run_then (one c.write_at.ensures.call) (one c.sync.ensures.call)

pub returns-clause-run : goal.returns-clause-run
returns-clause-run g c = run_then (one c.write_at.ensures.call) (one c.sync.ensures.call)
