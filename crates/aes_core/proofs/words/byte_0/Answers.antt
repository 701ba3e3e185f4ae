use Rattle.std.proofs.Common.{arith}
use Rattle.std.proofs.lemmas.Nat.{and_mask}
use Rattle.aes_core.specs.Words.{byte_of}
use Rattle.aes_core.proofs.words.byte_0.Goals as goal

pub returns : goal.returns
unfolding byte_of
returns c = omega (arith, and_mask c.args.column 8)
