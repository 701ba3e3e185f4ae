use Rattle.std.proofs.Common.{length, arith}
use Rattle.aes_ctr.proofs.Blocks.{all_done, none_done}
use Rattle.aes_ctr.proofs.ctr_at.Goals as goal

pub returns-then-end-border : goal.returns-then-end-border
returns-then-end-border c =
    all_done _ _ _ c.args.bytes.now _ (length c.args.bytes.now) (omega arith) (c.xor_bytes.ensures.done c.args.bytes.now (none_done _ _ _ _))

pub returns : goal.returns
returns c =
    let front = c.xor_bytes-2.ensures.done c.args.bytes.now (none_done _ _ _ _) in
    let eights = c.xor_eights-eights_end.ensures.done c.args.bytes.now front in
    let blocks = c.xor_blocks-blocks_end.ensures.done c.args.bytes.now eights in
    all_done _ _ _ c.args.bytes.now _ (length c.args.bytes.now) (omega arith) (c.xor_bytes-3.ensures.done c.args.bytes.now blocks)
