use Rattle.std.proofs.Common.{◌∙◌, arith}
use Rattle.std.proofs.lemmas.Bool.Decides.{nat_tests}
use Rattle.aes_core.specs.AnyAes.{key_of}
use Rattle.aes_ctr.proofs.Counters.{eight_are}
use Rattle.aes_ctr.proofs.stream.eight_stream_blocks.Goals as goal

pub returns-then-block-lt249 : goal.returns-then-block-lt249
returns-then-block-lt249 c =
    c.encrypt_eight.ensures
    ∙ eight_are (key_of c.args.key.now) c.args.counter c.counter_block-block.result c.args.j c.counter_block-block.ensures (grind (arith, nat_tests))
