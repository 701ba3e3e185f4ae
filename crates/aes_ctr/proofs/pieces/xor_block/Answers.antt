use Rattle.std.proofs.Common.{◌+◌, ◌/◌, refl, arith}
use Rattle.aes_ctr.proofs.Blocks.{block_done}
use Rattle.aes_ctr.proofs.pieces.xor_block.Goals as goal

pub returns-clause-done : goal.returns-clause-done
returns-clause-done c = λ old up_to.
    block_done _ _ c.args.offset old c.args.bytes.now _ c.stream_block-block.result ((c.args.offset + c.args.at) / 16) c.args.at (c.args.at + 16)
    (omega (arith, c.requires.border)) refl c.requires.room c.stream_block-block.ensures c.xor_lanes.ensures up_to
