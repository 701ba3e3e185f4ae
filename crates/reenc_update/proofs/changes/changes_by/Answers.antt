use Rattle.std.proofs.Common.{length, ap, arith}
use Rattle.reenc_update.proofs.ChangeLemmas.{few-changed}
use Rattle.reenc_update.proofs.changes.changes_by.Goals as goal

pub overflow_sub-skipped : goal.overflow_sub-skipped
overflow_sub-skipped c =
    let rows = c.args.tree.now.rows in
    let sent = c.as_slice-sent.result.now in
    omega (arith, c.len.ensures, ap length c.in_ok-files.ensures, few-changed rows c.args.note.now.zone sent c.args.edeks.now)

pub few-requires : goal.few-requires
few-requires c =
    let rows = c.args.tree.now.rows in
    let sent = c.as_slice-sent.result.now in
    omega (arith, ap length c.in_ok-files.ensures, ap length c.as_slice-sent.ensures.files, c.as_slice-sent.ensures.most, few-changed rows c.args.note.now.zone sent c.args.edeks.now)
