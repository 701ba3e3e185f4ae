use Rattle.std.proofs.Common.{arith}
use Rattle.name_calls.proofs.PathLemmas.{reserved-part}
use Rattle.name_calls.proofs.paths.is_reserved.Goals as goal

pub returns : goal.returns
returns c = grind (arith, reserved-part c.args.bytes.now, c.first_part.ensures)
