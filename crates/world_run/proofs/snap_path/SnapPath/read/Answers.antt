use Rattle.std.proofs.Common.{◌∙◌, ap, subst, sym}
use Rattle.std.specs.Str.{IsUtf8}
use Rattle.std.proofs.lemmas.Str.{IsUtf8-from_is_utf8}
use Rattle.name_calls.proofs.PathLemmas.{component-utf8}
use Rattle.name_calls.specs.Paths.{is_component}
use Rattle.world_run.proofs.snap_path.SnapPath.read.Goals as goal

-- a name of a path is UTF-8
pub unreachable-requires : goal.unreachable-requires
unreachable-requires c =
    let can = ap is_component (sym c.as_slice.ensures) ∙ sym c.is_component.ensures ∙ c.if-not-is_component.false in
    c.in-None.ensures (subst IsUtf8 (sym c.into_vec.ensures) (IsUtf8-from_is_utf8 c.args.name (component-utf8 c.args.name can)))
