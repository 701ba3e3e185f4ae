use Rattle.std.proofs.Common.{◌≡◌, ◌++◌, take}
use Rattle.std.specs.List.{flat_map}
use Rattle.replay_text.specs.Transcript.{shown_part}
use Rattle.replay_text.proofs.transcript.write_versions.Given as goal

abbrev pub invariant-versions : goal.invariant-versions
invariant-versions l = l.out ≡ l.fn.out ++ flat_map shown_part (take l.version-index l.versions)
