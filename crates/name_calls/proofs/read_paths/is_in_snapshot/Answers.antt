use Rattle.std.proofs.Common.{arith}
use Rattle.name_calls.proofs.ReadPathLemmas.{some-parts}
use Rattle.name_calls.proofs.read_paths.is_in_snapshot.Goals as goal

pub returns : goal.returns
returns c = grind (arith, some-parts c.args.front.now c.args.rest.now, c.are_parts.ensures, c.first_part-name.ensures, c.from.ensures)
