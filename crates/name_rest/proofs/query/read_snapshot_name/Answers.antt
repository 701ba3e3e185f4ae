use Rattle.std.proofs.Common.{◌∙◌, ap, sym}
use Rattle.std.specs.Str.{is_utf8}
use Rattle.std.proofs.lemmas.Str.{IsUtf8-from_is_utf8}
use Rattle.name_calls.proofs.PathLemmas.{component-utf8}
use Rattle.name_rest.proofs.query.read_snapshot_name.Goals as goal

pub unreachable-requires : goal.unreachable-requires
unreachable-requires c =
    c.in-None.ensures (IsUtf8-from_is_utf8 _ (ap is_utf8 c.in-Ok.ensures.items ∙ component-utf8 c.args.name.now (sym c.if-not-is_component.ensures)))
