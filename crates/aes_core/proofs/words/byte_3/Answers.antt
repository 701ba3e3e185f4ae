use Rattle.std.proofs.Common.{arith}
use Rattle.aes_core.specs.Words.{byte_of}
use Rattle.aes_core.proofs.words.byte_3.Goals as goal

pub returns : goal.returns
unfolding byte_of
returns c = omega arith
