use Rattle.std.proofs.Common.{◌≡◌, ◌++◌, All, length}
use Rattle.std.specs.List.{slice_split}
use Rattle.hk_base.specs.Names.{IsKeyName}
use Rattle.replay_text.specs.Events.{is_comma}
use Rattle.replay_text.proofs.lists.read_names.Given as goal

abbrev pub invariant-parts : goal.invariant-parts
invariant-parts l = record {
  so_far : slice_split is_comma l.fn.bytes ≡ l.names ++ slice_split is_comma l.rest;
  each : All IsKeyName l.names;
}

abbrev pub decreases-parts : goal.decreases-parts
decreases-parts l = length l.rest
