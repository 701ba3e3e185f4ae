use Rattle.std.proofs.Common.{arith}
use Rattle.frame_log.proofs.Head.{is_frame}
use Rattle.frame_log.proofs.gates.next_at.Goals as goal

pub returns-clause-next : goal.returns-clause-next
returns-clause-next c bytes left is =
    is_frame bytes c.args.head.now is (omega arith) c.if-gate-ne-OPEN.false (omega arith) c.count_of-count.result c.count_of-count.ensures c.if-count-eq0.false c.if-count-gt-LONGEST_PAYLOAD.false (omega (arith, left, c.if-left-count.false))
