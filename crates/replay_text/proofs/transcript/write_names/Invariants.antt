use Rattle.std.proofs.Common.{◌≡◌, ◌++◌, take}
use Rattle.std.specs.List.{flat_map}
use Rattle.replay_text.specs.Transcript.{name_part}
use Rattle.replay_text.proofs.transcript.write_names.Given as goal

abbrev pub invariant-names : goal.invariant-names
invariant-names l = l.out ≡ l.fn.out ++ flat_map name_part (take l.name-index l.names)
