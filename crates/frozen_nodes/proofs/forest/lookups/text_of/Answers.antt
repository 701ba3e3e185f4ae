use Rattle.std.proofs.Common.{◌∙◌, ap}
use Rattle.std.specs.Str.{is_utf8}
use Rattle.std.proofs.lemmas.Str.{IsUtf8-from_is_utf8}
use Rattle.name_calls.proofs.PathLemmas.{component-utf8}
use Rattle.frozen_nodes.proofs.forest.lookups.text_of.Goals as goal

pub unreachable-requires : goal.unreachable-requires
unreachable-requires c = c.in-None.ensures (IsUtf8-from_is_utf8 _ (ap is_utf8 c.in_ok-from_slice.ensures.items ∙ component-utf8 c.args.name.now c.requires))
