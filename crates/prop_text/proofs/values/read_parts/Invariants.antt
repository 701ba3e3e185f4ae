use Rattle.std.proofs.Common.{◌≡◌, ◌++◌, All, length}
use Rattle.std.specs.List.{slice_split}
use Rattle.prop_text.specs.Acls.{IsName, is_comma}
use Rattle.prop_text.proofs.values.read_parts.Given as goal

abbrev pub invariant-parts : goal.invariant-parts
invariant-parts l = record {
  so_far : slice_split is_comma l.fn.bytes ≡ l.names ++ slice_split is_comma l.rest;
  each : All IsName l.names;
}

abbrev pub decreases-parts : goal.decreases-parts
decreases-parts l = length l.rest
