use Rattle.std.proofs.Common.{◌≡◌, ◌++◌, take}
use Rattle.std.specs.List.{flat_map}
use Rattle.replay_text.specs.Transcript.{edek_text}
use Rattle.replay_text.proofs.transcript.write_edeks.Given as goal

abbrev pub invariant-edeks : goal.invariant-edeks
invariant-edeks l = l.out ≡ l.fn.out ++ flat_map edek_text (take l.edek-index l.edeks)
