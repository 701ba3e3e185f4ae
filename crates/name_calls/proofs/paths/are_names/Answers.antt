use Rattle.std.proofs.Common.{◌∙◌}
use Rattle.name_calls.proofs.PathLemmas.{tested-parts}
use Rattle.name_calls.proofs.paths.are_names.Goals as goal

pub returns : goal.returns
returns c = c.are_few_names.ensures ∙ tested-parts c.args.bytes.now
